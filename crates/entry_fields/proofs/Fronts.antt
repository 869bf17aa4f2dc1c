-- What stands at the front of bytes.
use Rattle.std.proofs.Common.{◌≡◌, ℕ, ◌<◌, ◌≤◌, ◌-◌, List, [], ◌∷◌, ◌++◌, length, take, drop, get_or, refl, sym, ap, subst, ◌∙◌, append_assoc, arith, inl, inr}
use Rattle.std.specs.Int.{from_le_bytes, to_le_bytes, w16, w32}
use Rattle.std.proofs.lemmas.Bool.{cases_lt}
use Rattle.std.proofs.lemmas.List.{get_or_append_left, get_or_past, length-append, take_all}
use Rattle.std.proofs.lemmas.Nat.{le_bytes_2, le_bytes_4}
use Rattle.entry_bytes.proofs.Once.{number_length, number_once, size_length, size_once}
use Rattle.entry_bytes.specs.Faults.{NoneBegins}
use Rattle.entry_bytes.specs.Texts.{IsLong, IsOfLength, IsShort, IsSize}
use Rattle.entry_bytes.specs.Spelling.{IsNumber, long_text, number_bytes, short_text, size_bytes}

abbrev pub AreBytes : List ℕ → Type 0
AreBytes bytes = (i : ℕ) → get_or bytes i 0 < 256

front_bytes : (front rest : List ℕ) → AreBytes (front ++ rest) → AreBytes front
front_bytes front rest fits i =
    elim (cases_lt i (length front)) [
      | inl lt ↦ subst (λ n. n < 256) (get_or_append_left front rest 0 i lt) (fits i)
      | inr le ↦ subst (λ n. n < 256) (sym (get_or_past front i 0 le)) (omega arith)
    ]

rest_taken : (n : ℕ) (rest : List ℕ) → length rest ≤ n → rest ≡ take n rest
rest_taken n rest le = sym (take_all n rest le)

pub number_front : (bytes : List ℕ) (n : ℕ) → 4 ≤ length bytes → AreBytes bytes
    → n ≡ from_le_bytes w32 (get_or bytes 0 0 ∷ get_or bytes 1 0 ∷ get_or bytes 2 0 ∷ get_or bytes 3 0 ∷ [])
    → bytes ≡ number_bytes n ++ take (length bytes - 4) (drop 4 bytes)
unfolding number_bytes
number_front [] n long fits e = absurd (omega arith)
number_front (a ∷ []) n long fits e = absurd (omega arith)
number_front (a ∷ b ∷ []) n long fits e = absurd (omega arith)
number_front (a ∷ b ∷ c ∷ []) n long fits e = absurd (omega arith)
number_front (a ∷ b ∷ c ∷ d ∷ rest) n long fits e =
    let front : List ℕ = a ∷ b ∷ c ∷ d ∷ [] in
    ap (λ l. l ++ rest) (sym (le_bytes_4 front n refl (front_bytes front rest fits) e))
    ∙ ap (λ l. to_le_bytes w32 n ++ l) (rest_taken (length (a ∷ b ∷ c ∷ d ∷ rest) - 4) rest (omega arith))

pub size_front : (bytes : List ℕ) (n : ℕ) → 2 ≤ length bytes → AreBytes bytes
    → n ≡ from_le_bytes w16 (get_or bytes 0 0 ∷ get_or bytes 1 0 ∷ [])
    → bytes ≡ size_bytes n ++ take (length bytes - 2) (drop 2 bytes)
unfolding size_bytes
size_front [] n long fits e = absurd (omega arith)
size_front (a ∷ []) n long fits e = absurd (omega arith)
size_front (a ∷ b ∷ rest) n long fits e =
    let front : List ℕ = a ∷ b ∷ [] in
    ap (λ l. l ++ rest) (sym (le_bytes_2 front n refl (front_bytes front rest fits) e))
    ∙ ap (λ l. to_le_bytes w16 n ++ l) (rest_taken (length (a ∷ b ∷ rest) - 2) rest (omega arith))

-- bytes that are too few
pub number_none : (bytes : List ℕ) → length bytes < 4 → NoneBegins number_bytes IsNumber bytes
number_none bytes short n rest fits e = omega (arith, number_length n, length-append (number_bytes n) rest, ap length e)

pub size_none : (bytes : List ℕ) → length bytes < 2 → NoneBegins size_bytes IsSize bytes
size_none bytes short n rest fits e = omega (arith, size_length n, length-append (size_bytes n) rest, ap length e)

-- a length behind which no text of it stands
pub long_none : (bytes behind : List ℕ) (n : ℕ) → IsNumber n → bytes ≡ number_bytes n ++ behind → NoneBegins (λ text. text) (IsOfLength n) behind
    → NoneBegins long_text IsLong bytes
long_none bytes behind n fits found none text rest is e =
    let parts = number_once n (length text) behind (text ++ rest) fits is.short (sym found ∙ e ∙ append_assoc (number_bytes (length text)) text rest) in
    none text rest (record { utf8 = is.utf8; long = sym parts.0 }) parts.1

pub short_none : (bytes behind : List ℕ) (n : ℕ) → IsSize n → bytes ≡ size_bytes n ++ behind → NoneBegins (λ text. text) (IsOfLength n) behind
    → NoneBegins short_text IsShort bytes
short_none bytes behind n fits found none text rest is e =
    let parts = size_once n (length text) behind (text ++ rest) fits is.short (sym found ∙ e ∙ append_assoc (size_bytes (length text)) text rest) in
    none text rest (record { utf8 = is.utf8; long = sym parts.0 }) parts.1
