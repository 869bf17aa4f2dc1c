-- What doubling the backquotes of a text does to each of its characters.
use Rattle.std.proofs.Common.{◌≡◌, ◌≢◌, ℕ, ◌<◌, suc, List, [], ◌∷◌, ◌++◌, length, get_or, encode_utf8_all, append-nil, refl, sym, ◌∙◌, arith}
use Rattle.std.proofs.lemmas.Bool.Decides.{nat_tests}
use Rattle.std.proofs.lemmas.Grind.{flat_map-append}
use Rattle.std.proofs.lemmas.Str.{encodes-append, inside_one}
use Rattle.std.specs.Char.{encode_utf8}
use Rattle.acl_names.specs.Quoted.{doubled}

-- a text without a backquote stays as it is
doubled-none : (text : List ℕ) → ((i : ℕ) → i < length text → get_or text i 0 ≢ 96) → doubled text ≡ text
doubled-none [] none = refl
doubled-none (byte ∷ rest) none =
    let first : byte ≢ 96 = none 0 (omega arith) in
    let others : doubled rest ≡ rest = doubled-none rest (λ i short. none (suc i) (omega arith)) in
    grind (arith, nat_tests)

-- no byte of another character is the backquote
pub doubled-encode_utf8 : (character : ℕ) → character ≢ 96 → doubled (encode_utf8 character) ≡ encode_utf8 character
doubled-encode_utf8 character other =
    doubled-none (encode_utf8 character) (λ i short is. other (inside_one character [] (encode_utf8 character) i (sym (append-nil (encode_utf8 character))) short (omega arith) ∙ is))

pub doubled-push : (characters : List ℕ) (character : ℕ)
    → doubled (encode_utf8_all (characters ++ character ∷ [])) ≡ doubled (encode_utf8_all characters) ++ doubled (encode_utf8 character)
doubled-push characters character = simp (encodes-append, append-nil, flat_map-append)
