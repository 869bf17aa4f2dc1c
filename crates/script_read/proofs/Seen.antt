-- Lines of which contracts see the commands themselves.
use Rattle.std.proofs.Common.{◌≡◌, ℕ, List, [], ◌∷◌, map, Result, Ok, Err, IfOk, MatchResult, refl, ap, subst, ◌∙◌}
use Rattle.script_lines.specs.Script.{IsTaken, seen}
use Rattle.script_lines.specs.declared.lines.Line.{Line}
use Rattle.script_lines.specs.declared.refusal.ScriptRefusal.{ScriptRefusal}
use Rattle.script_lines.specs.declared.refusal.ScriptRefusal.TheVariants.{NoMemory}
use Rattle.script_read.specs.declared.command.Command.{Command}

seen_same : (lines : List (Line Command)) → map (seen (λ command. command)) lines ≡ lines
seen_same [] = refl
seen_same (line ∷ lines) = ap (λ rest. line ∷ rest) (seen_same lines)

pub found_same : {S : Type 0} (spelled : List ℕ → Command → Type 0) (names_of : S → List (List ℕ)) (lines_of : S → List (Line Command)) (bytes : List ℕ)
    (result : Result S ScriptRefusal) → IfOk result (λ s. IsTaken spelled bytes (names_of s) (map (seen (λ command. command)) (lines_of s)))
    → IfOk result (λ s. IsTaken spelled bytes (names_of s) (lines_of s))
found_same spelled names_of lines_of bytes (Ok s) h =
    let P : List (Line Command) → Type 0 = λ lines. IsTaken spelled bytes (names_of s) lines in
    subst P (seen_same (lines_of s)) h
found_same spelled names_of lines_of bytes (Err refusal) h = tt

pub only_same : {S : Type 0} (names_of : S → List (List ℕ)) (lines_of : S → List (Line Command)) (result : Result S ScriptRefusal) (names : List (List ℕ))
    (lines : List (Line Command))
    → MatchResult result (λ s. (names ≡ names_of s) × (lines ≡ map (seen (λ command. command)) (lines_of s))) (λ refusal. refusal ≡ NoMemory)
    → MatchResult result (λ s. (names ≡ names_of s) × (lines ≡ lines_of s)) (λ refusal. refusal ≡ NoMemory)
only_same names_of lines_of (Ok s) names lines h = (h.0, h.1 ∙ seen_same (lines_of s))
only_same names_of lines_of (Err refusal) names lines h = h
