-- Digests are read from the hexadecimal digits that they are written as.
use Rattle.std.proofs.Common.{◌≡◌, ◌&&◌, ◌||◌, ◌*◌, ◌/◌, ◌%◌, ℕ, zero, suc, Bool, IsTrue, true, false, eqb, not, List, [], ◌∷◌, ◌++◌, length, get_or, Result, Ok, Err, refl, sym, ap, ◌∙◌, arith}
use Rattle.std.proofs.lemmas.Bool.{and_from}
use Rattle.std.proofs.lemmas.Bool.Decides.{nat_tests}
use Rattle.std.specs.Char.{is_ascii_uppercase}
use Rattle.std.specs.Cmp.{first_so, second_so}
use Rattle.std.specs.Int.{w32, to_be_bytes}
use Rattle.std.specs.List.{list_all, list_any}
use Rattle.std.specs.Prelude.{codes, slice_index}
use Rattle.acl_names.specs.declared.policy.Verifier.{Verifier}
use Rattle.canonical_texts.proofs.Strings.{string_read}
use Rattle.canonical_texts.specs.Quotes.{string_byte, string_inside}
use Rattle.grant_lex.specs.Value.{value_of}
use Rattle.hex.proofs.HexLemmas.{decode_of-ok, decode_sized-encode_lower, decode_sized-ok, decode_sized-twice}
use Rattle.hex.specs.Hex.{IsBytes, encode_lower, encode_with, lower_digits}
use Rattle.hex.specs.declared.error.FromHexError.{FromHexError}
use Rattle.sha2.proofs.Facts256.{length-sha256}
use Rattle.sha2.specs.Sha256.{digest_bytes, sha256}
use Rattle.user_statements.specs.Secrets.{bytes_or, decoded, digest_of, is_decoded, is_digest}

-- 32 bytes
pub record IsDigest (verifier : Verifier) : Type 0 where
  pub size : length verifier.0 ≡ 32
  pub bytes : IsBytes verifier.0

bytes_append : (xs ys : List ℕ) → IsBytes xs → IsBytes ys → IsBytes (xs ++ ys)
bytes_append [] ys h k i = k i
bytes_append (x ∷ xs) ys h k zero = h 0
bytes_append (x ∷ xs) ys h k (suc i) = bytes_append xs ys (λ j. h (suc j)) k i

word_bytes : (n : ℕ) → IsBytes (to_be_bytes w32 n)
word_bytes n zero = omega arith
word_bytes n (suc zero) = omega arith
word_bytes n (suc (suc zero)) = omega arith
word_bytes n (suc (suc (suc zero))) = omega arith
word_bytes n (suc (suc (suc (suc i)))) = omega arith

digest_is_bytes : (h : List ℕ) (n : ℕ) → IsBytes (digest_bytes h n)
unfolding digest_bytes
digest_is_bytes h zero = λ i. omega arith
digest_is_bytes h (suc n) = bytes_append (digest_bytes h n) (to_be_bytes w32 (slice_index h n)) (digest_is_bytes h n) (word_bytes (slice_index h n))

sha_bytes : (m : List ℕ) → IsBytes (sha256 m)
unfolding sha256
sha_bytes m = digest_is_bytes _ 8

-- the digest of a password
pub password_digest : (password : List ℕ) → IsDigest (record { 0 = sha256 password })
password_digest password = record { size = length-sha256 password; bytes = sha_bytes password }

decoded_digest : (text : List ℕ) (r : Result (List ℕ) FromHexError) → decoded text ≡ r → IsTrue (is_decoded r) → IsDigest (record { 0 = bytes_or r })
decoded_digest text (Err error) e h = absurd (cc)
decoded_digest text (Ok bytes) e h =
    let size : length text ≡ 2 * 32 = decode_sized-ok text 32 bytes e in
    let parts = decode_of-ok text bytes (sym (decode_sized-twice text 32 size) ∙ e) in
    let twice : length text ≡ 2 * length bytes = parts.2 in
    record { size = omega arith; bytes = parts.3 }

-- a digest that is given
pub given_digest : (text : List ℕ) → IsTrue (is_digest text) → IsDigest (digest_of text)
given_digest text h =
    decoded_digest text (decoded text) refl (first_so (is_decoded (decoded text)) (not (list_any is_ascii_uppercase text)) h)

-- what each digit of a table passes, each digit passes that is written
digit_passes : (p : ℕ → Bool) (xs : List ℕ) (k : ℕ) → list_all p xs ≡ true → p 0 ≡ true → p (get_or xs k 0) ≡ true
digit_passes p [] k each none = none
digit_passes p (x ∷ xs) zero each none = first_so (p x) (list_all p xs) each
digit_passes p (x ∷ xs) (suc k) each none = digit_passes p xs k (second_so (p x) (list_all p xs) each) none

hex_passes : (p : ℕ → Bool) → list_all p lower_digits ≡ true → p 0 ≡ true → (bytes : List ℕ) → list_all p (encode_lower bytes) ≡ true
unfolding encode_with
hex_passes p each none [] = refl
hex_passes p each none (b ∷ bs) =
    and_from (p (get_or lower_digits (b / 16) 0)) _ (digit_passes p lower_digits (b / 16) each none)
    (and_from (p (get_or lower_digits (b % 16) 0)) _ (digit_passes p lower_digits (b % 16) each none) (hex_passes p each none bs))

is_small : ℕ → Bool
is_small b = not (is_ascii_uppercase b)

small_digits : list_all is_small lower_digits ≡ true
unfolding is_small
small_digits = refl

small_none : is_small 0 ≡ true
unfolding is_small
small_none = refl

no_capital : (xs : List ℕ) → list_all is_small xs ≡ true → not (list_any is_ascii_uppercase xs) ≡ true
unfolding is_small
no_capital [] h = refl
no_capital (x ∷ xs) h = first (is_ascii_uppercase x) h (no_capital xs)
  where
    first : (t : Bool) → (not t && list_all is_small xs) ≡ true
        → (list_all is_small xs ≡ true → not (list_any is_ascii_uppercase xs) ≡ true) → not (t || list_any is_ascii_uppercase xs) ≡ true
    first true k more = absurd (cc)
    first false k more = more k

is_plain : ℕ → Bool
is_plain b = not (eqb b 39) && not (eqb b 92)

plain_digits : list_all is_plain lower_digits ≡ true
unfolding is_plain
plain_digits = refl

plain_none : is_plain 0 ≡ true
unfolding is_plain
plain_none = refl

plain_byte : (b : ℕ) → is_plain b ≡ true → string_byte b ≡ b ∷ []
unfolding is_plain
plain_byte b e = grind (arith, nat_tests)

plain_inside : (xs : List ℕ) → list_all is_plain xs ≡ true → string_inside xs ≡ xs
plain_inside [] h = refl
plain_inside (x ∷ xs) h =
    ap (λ l. l ++ string_inside xs) (plain_byte x (first_so (is_plain x) (list_all is_plain xs) h))
    ∙ ap (λ l. x ∷ l) (plain_inside xs (second_so (is_plain x) (list_all is_plain xs) h))

-- the digits between single quotes stand for the digits
pub digits_value : (bytes : List ℕ) → value_of (codes "'" ++ (encode_lower bytes ++ codes "'")) ≡ encode_lower bytes
digits_value bytes =
    ap (λ l. value_of (39 ∷ (l ++ 39 ∷ []))) (sym (plain_inside (encode_lower bytes) (hex_passes is_plain plain_digits plain_none bytes)))
    ∙ string_read (encode_lower bytes)

digits_decoded : (verifier : Verifier) → IsDigest verifier → decoded (encode_lower verifier.0) ≡ Ok verifier.0
digits_decoded verifier is = decode_sized-encode_lower verifier.0 32 is.size is.bytes

pub digits_fit : (verifier : Verifier) → IsDigest verifier → IsTrue (is_digest (encode_lower verifier.0))
digits_fit verifier is =
    and_from (is_decoded (decoded (encode_lower verifier.0))) _ (ap is_decoded (digits_decoded verifier is))
    (no_capital (encode_lower verifier.0) (hex_passes is_small small_digits small_none verifier.0))

pub digits_mean : (verifier : Verifier) → IsDigest verifier → verifier ≡ digest_of (encode_lower verifier.0)
digits_mean verifier is = ap (λ r. let made : Verifier = record { 0 = bytes_or r } in made) (sym (digits_decoded verifier is))
