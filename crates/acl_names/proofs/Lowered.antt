-- A name stays a name when its ASCII letters are brought to lower case.
use Rattle.std.proofs.Common.{◌≡◌, ℕ, zero, suc, List, [], ◌∷◌, length, refl, ap, ◌∙◌, arith}
use Rattle.std.proofs.lemmas.Bool.Decides.{nat_tests}
use Rattle.std.proofs.lemmas.Str.Ascii.{lowercase-lowercase}
use Rattle.std.specs.Char.{is_ascii_control, to_ascii_lowercase}
use Rattle.std.specs.List.{position, prefix_len}
use Rattle.std.specs.Prelude.{None, not}
use Rattle.std.specs.Str.{chars, chars_after, continuation_len, lead_bits, str_to_ascii_lowercase}
use Rattle.acl_names.specs.Name.{IsLowerName, ident_fault, name_fault}

control-lowered : (b : ℕ) → is_ascii_control (to_ascii_lowercase b) ≡ is_ascii_control b
control-lowered b = grind (arith, nat_tests)

continuation_len-lowered : (b : ℕ) → continuation_len (to_ascii_lowercase b) ≡ continuation_len b
continuation_len-lowered b = grind (arith, nat_tests)

prefix_len-lowered : (text : List ℕ) → prefix_len (λ b. not (is_ascii_control b)) (str_to_ascii_lowercase text) ≡ prefix_len (λ b. not (is_ascii_control b)) text
prefix_len-lowered [] = refl
prefix_len-lowered (b ∷ bs) = simp (control-lowered b, prefix_len-lowered bs)

length-lowered : (text : List ℕ) → length (str_to_ascii_lowercase text) ≡ length text
length-lowered [] = refl
length-lowered (b ∷ bs) = ap suc (length-lowered bs)

position-lowered : (text : List ℕ) → position is_ascii_control (str_to_ascii_lowercase text) ≡ position is_ascii_control text
position-lowered text = simp (prefix_len-lowered text, length-lowered text)

-- the value of a character that is being read does not change how many follow
length-chars_after-lowered : (left c d : ℕ) (text : List ℕ) → length (chars_after left c (str_to_ascii_lowercase text)) ≡ length (chars_after left d text)
length-chars_after-lowered zero c d [] = refl
length-chars_after-lowered zero c d (b ∷ bs) =
    rw (continuation_len-lowered b) (ap suc (length-chars_after-lowered (continuation_len b) (lead_bits (to_ascii_lowercase b)) (lead_bits b) bs))
length-chars_after-lowered (suc left) c d [] = refl
length-chars_after-lowered (suc left) c d (b ∷ bs) = length-chars_after-lowered left _ _ bs

length-chars-lowered : (text : List ℕ) → length (chars (str_to_ascii_lowercase text)) ≡ length (chars text)
unfolding chars
length-chars-lowered [] = refl
length-chars-lowered (b ∷ bs) =
    rw (continuation_len-lowered b) (length-chars_after-lowered (continuation_len b) (lead_bits (to_ascii_lowercase b)) (lead_bits b) bs)

pub lowered-lowered : (text : List ℕ) → str_to_ascii_lowercase (str_to_ascii_lowercase text) ≡ str_to_ascii_lowercase text
lowered-lowered [] = refl
lowered-lowered (b ∷ bs) = λ i. lowercase-lowercase b i ∷ lowered-lowered bs i

name_fault-lowered : (limit : ℕ) (text : List ℕ) → name_fault limit (str_to_ascii_lowercase text) ≡ name_fault limit text
name_fault-lowered limit text = simp (position-lowered text, length-chars-lowered text)

pub lowered_name : (limit : ℕ) (text : List ℕ) → name_fault limit text ≡ None → IsLowerName limit (str_to_ascii_lowercase text)
lowered_name limit text faultless =
    record { faultless = name_fault-lowered limit text ∙ faultless; lowered = lowered-lowered text }

-- and so does an identifier
pub ident_fault-lowered : (limit : ℕ) (text : List ℕ) → ident_fault limit text ≡ None → ident_fault limit (str_to_ascii_lowercase text) ≡ None
ident_fault-lowered limit [] faultless = faultless
ident_fault-lowered limit (b ∷ bs) faultless = name_fault-lowered limit (b ∷ bs) ∙ faultless
