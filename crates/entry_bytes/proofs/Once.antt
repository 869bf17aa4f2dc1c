-- A field's bytes are one value's, wherever they end.
use Rattle.std.proofs.Common.{◌≡◌, ℕ, ◌^◌, ◌<◌, List, [], ◌∷◌, ◌++◌, length, refl, sym, ap, ◌∙◌, append_assoc, arith}
use Rattle.std.specs.Int.{from_le_bytes, to_le_bytes, w16, w32}
use Rattle.std.proofs.lemmas.Nat.{from_le_bytes-to_le_bytes_2, from_le_bytes-to_le_bytes_4}
use Rattle.entry_bytes.specs.Texts.{IsSize}
use Rattle.entry_bytes.specs.Spelling.{IsNumber, long_text, number_bytes, short_text, size_bytes}

-- fields of one length
pub split : (a b x y : List ℕ) → length a ≡ length b → a ++ x ≡ b ++ y → (a ≡ b) × (x ≡ y)
split [] [] x y same e = (refl, e)
split [] (b ∷ bs) x y same e = absurd (omega arith)
split (a ∷ rest) [] x y same e = absurd (omega arith)
split (a ∷ others) (b ∷ bs) x y same e =
    let rest = split others bs x y (omega arith) (cc) in
    let head : a ≡ b = cc in
    let tail : others ≡ bs = rest.0 in
    (cc, rest.1)

-- whatever keeps the rules is found again
abbrev pub IsReadOnce : {A : Type 0} → (A → List ℕ) → (A → Type 0) → Type 0
IsReadOnce {A = A} spelling Fits = (a b : A) (x y : List ℕ) → Fits a → Fits b → spelling a ++ x ≡ spelling b ++ y → (a ≡ b) × (x ≡ y)

pub number_length : (n : ℕ) → length (number_bytes n) ≡ 4
unfolding number_bytes
number_length n = refl

pub size_length : (n : ℕ) → length (size_bytes n) ≡ 2
unfolding size_bytes
size_length n = refl

pub number_once : IsReadOnce number_bytes IsNumber
unfolding number_bytes
number_once a b x y fits fits' e =
    let parts = split (to_le_bytes w32 a) (to_le_bytes w32 b) x y refl e in
    (sym (from_le_bytes-to_le_bytes_4 a fits) ∙ ap (from_le_bytes w32) parts.0 ∙ from_le_bytes-to_le_bytes_4 b fits', parts.1)

pub size_once : IsReadOnce size_bytes IsSize
unfolding size_bytes
size_once a b x y fits fits' e =
    let parts = split (to_le_bytes w16 a) (to_le_bytes w16 b) x y refl e in
    (sym (from_le_bytes-to_le_bytes_2 a fits) ∙ ap (from_le_bytes w16) parts.0 ∙ from_le_bytes-to_le_bytes_2 b fits', parts.1)

pub short_once : IsReadOnce short_text (λ text. length text < 2 ^ 16)
short_once a b x y fits fits' e =
    let same : size_bytes (length a) ++ (a ++ x) ≡ size_bytes (length b) ++ (b ++ y) =
    sym (append_assoc (size_bytes (length a)) a x) ∙ e ∙ append_assoc (size_bytes (length b)) b y in
    let parts = size_once (length a) (length b) (a ++ x) (b ++ y) fits fits' same in
    split a b x y parts.0 parts.1

pub long_once : IsReadOnce long_text (λ text. length text < 2 ^ 32)
long_once a b x y fits fits' e =
    let same : number_bytes (length a) ++ (a ++ x) ≡ number_bytes (length b) ++ (b ++ y) =
    sym (append_assoc (number_bytes (length a)) a x) ∙ e ∙ append_assoc (number_bytes (length b)) b y in
    let parts = number_once (length a) (length b) (a ++ x) (b ++ y) fits fits' same in
    split a b x y parts.0 parts.1
