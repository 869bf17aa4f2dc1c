-- A language of commands with the one command `ok`, as a sample: `bad` is refused at its second byte, `long` as too
-- long, `soon` as a form that is not built, and any other text at its first byte.
use Rattle.std.specs.Prelude.{◌≡◌, ℕ, if◌then◌else◌, List, codes, Result, Ok, Err}
use Rattle.std.specs.Str.{bytes_eq}
use Rattle.std.proofs.Common.{sym, ◌∙◌}
use Rattle.grant_refusal.specs.declared.ParseRefusal.TheVariants.{Limit, Syntax}
use Rattle.script_lines.specs.declared.refusal.CommandRefusal.{CommandRefusal}
use Rattle.script_lines.specs.declared.refusal.CommandRefusal.TheVariants.{Text, Unbuilt}

abbrev pub sample_reading : List ℕ → Result ℕ CommandRefusal
sample_reading text =
    if bytes_eq text (codes "ok") then Ok 1
    else (if bytes_eq text (codes "bad") then Err (Text (Syntax 1))
    else (if bytes_eq text (codes "long") then Err (Text Limit)
    else (if bytes_eq text (codes "soon") then Err Unbuilt
    else Err (Text (Syntax 0)))))

abbrev pub IsSample : List ℕ → ℕ → Type 0
IsSample text meaning = sample_reading text ≡ Ok meaning

abbrev pub IsSampleRefusal : List ℕ → CommandRefusal → Type 0
IsSampleRefusal text refusal = sample_reading text ≡ Err refusal

pub one_meaning : (text : List ℕ) (first second : ℕ) → IsSample text first → IsSample text second → first ≡ second
one_meaning text first second one two = let e = sym one ∙ two in cc

pub one_refusal : (text : List ℕ) (first second : CommandRefusal) → IsSampleRefusal text first → IsSampleRefusal text second → first ≡ second
one_refusal text first second one two = let e = sym one ∙ two in cc

pub apart : (text : List ℕ) (meaning : ℕ) (refusal : CommandRefusal) → IsSample text meaning → IsSampleRefusal text refusal → ⊥
apart text meaning refusal one two = let e = sym one ∙ two in cc
