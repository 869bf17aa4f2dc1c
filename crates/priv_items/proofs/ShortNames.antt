-- A name has few bytes: at most 64 characters of at most four bytes each.
use Rattle.std.proofs.Common.{◌≡◌, ℕ, ◌*◌, ◌<◌, ◌≤◌, ◌^◌, List, [], ◌∷◌, length, ap, arith, encode_utf8_all, length-append}
use Rattle.std.proofs.lemmas.Bool.Decides.{nat_tests}
use Rattle.std.proofs.lemmas.Str.{encodes-chars, length-encode, len_utf8_bounds}
use Rattle.std.specs.Char.{is_ascii_control}
use Rattle.std.specs.List.{position}
use Rattle.std.specs.Prelude.{Option, Some, None}
use Rattle.std.specs.Str.{IsUtf8, chars}
use Rattle.acl_names.specs.Name.{control_fault, ident_fault, length_fault}

length-encodes : (characters : List ℕ) → length (encode_utf8_all characters) ≤ 4 * length characters
length-encodes [] = omega arith
length-encodes (c ∷ cs) =
    let rest = length-encodes cs in
    let first = length-encode c in
    let bound : _ = len_utf8_bounds c in
    simp length-append (omega (arith, rest, first, bound.1))

few_from : (controlled : Option ℕ) (text : List ℕ) → control_fault controlled (length_fault 64 text) ≡ None → length (chars text) ≤ 64
few_from (Some offset) text none = cc
few_from None text none = grind (arith, nat_tests)

few_characters : (text : List ℕ) → ident_fault 64 text ≡ None → length (chars text) ≤ 64
few_characters [] none = cc
few_characters (b ∷ bs) none = few_from (position is_ascii_control (b ∷ bs)) (b ∷ bs) none

pub name_is_short : (text : List ℕ) → IsUtf8 text → ident_fault 64 text ≡ None → length text < 2 ^ 32
name_is_short text utf8 none =
    let few = few_characters text none in
    let bytes = length-encodes (chars text) in
    let same : length (encode_utf8_all (chars text)) ≡ length text = ap length (encodes-chars text utf8) in
    omega arith
