-- What holds of every line of a script that is taken.
use Rattle.std.proofs.Common.{◌≡◌, ap, ℕ, zero, suc, ◌+◌, ◌<◌, ◌≤◌, ◌^◌, Bool, true, false, not, cond, IsTrue, List, [], ◌∷◌, length, refl, arith}
use Rattle.std.specs.List.{All}
use Rattle.std.specs.Str.Lines.{lines as lines_of}
use Rattle.script_lines.specs.Script.{EachIsLine, IsTaken}
use Rattle.script_lines.specs.Texts.{command_lines, is_passed_over, numbered}
use Rattle.script_lines.specs.declared.lines.Line.{Line}
use Rattle.script_read.specs.Commands.{IsCommand}
use Rattle.script_read.specs.declared.command.Command.{Command}
use Rattle.script_read.specs.declared.command.Command.TheVariants.{Statement}
use Rattle.script_run.proofs.Rules.{statement_rules}
use Rattle.script_run.specs.Forms.{is_built, keeps_rules}

-- what holds of each command that is spelled holds of each line's
pub each_line : {M : Type 0} (spelled : List ℕ → M → Type 0) (P : M → Type 0) → ((text : List ℕ) (command : M) → spelled text command → P command)
    → (names : List (List ℕ)) (texts : List (ℕ × List ℕ)) (lines : List (Line M)) → EachIsLine spelled names texts lines → All (λ line. P line.command) lines
each_line spelled P holds names [] [] each k d below = absurd (omega arith)
each_line spelled P holds names (text ∷ texts) [] each k d below = absurd (omega arith)
each_line spelled P holds names [] (line ∷ lines) each k d below = absurd each
each_line spelled P holds names (text ∷ texts) (line ∷ lines) each zero d below = holds each.0.spells.command line.command each.0.spells.means
each_line spelled P holds names (text ∷ texts) (line ∷ lines) each (suc k) d below = each_line spelled P holds names texts lines each.1 k d (omega arith)

as_many : {M : Type 0} (spelled : List ℕ → M → Type 0) (names : List (List ℕ)) (texts : List (ℕ × List ℕ)) (lines : List (Line M)) → EachIsLine spelled names texts lines → length lines ≡ length texts
as_many spelled names [] [] each = refl
as_many spelled names (text ∷ texts) [] each = absurd each
as_many spelled names [] (line ∷ lines) each = absurd each
as_many spelled names (text ∷ texts) (line ∷ lines) each = ap suc (as_many spelled names texts lines each.1)

fewer : (number : ℕ) (texts : List (List ℕ)) → length (numbered number texts) ≤ length texts
fewer number [] = omega arith
fewer number (text ∷ texts) = at (not (is_passed_over text)) (fewer (number + 1) texts)
  where
    at : (t : Bool) → length (numbered (number + 1) texts) ≤ length texts
        → length (cond t ((number, text) ∷ numbered (number + 1) texts) (numbered (number + 1) texts)) ≤ length (text ∷ texts)
    at true few = omega (arith, few)
    at false few = omega (arith, few)

-- the lines of a script can be counted by 32 bits
pub lines_count : {M : Type 0} (spelled : List ℕ → M → Type 0) (bytes : List ℕ) (names : List (List ℕ)) (lines : List (Line M)) → IsTaken spelled bytes names lines → length lines < 2 ^ 32
lines_count spelled bytes names lines taken =
    omega (arith, taken.within.lines_are, fewer 1 (lines_of bytes), as_many spelled names (command_lines bytes) lines taken.script.each)

-- a command of a form that is run keeps the rules of a history
pub command_rules : (text : List ℕ) (command : Command) → IsCommand text command → IsTrue (is_built command) → IsTrue (keeps_rules command)
command_rules text (Statement statement) is built = statement_rules text statement is built
command_rules text _ is built = refl
