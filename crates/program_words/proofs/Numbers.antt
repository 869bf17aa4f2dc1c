-- Decimal digits as numbers.
use Rattle.std.proofs.Common.{◌≡◌, ℕ, ◌^◌, ◌<◌, ◌≤◌, Bool, true, false, ◌&&◌, ◌==◌, nat_le, if◌then◌else◌, List, [], ◌∷◌, length, Option, None, Some, IfSome, codes, refl, sym, subst, arith}
use Rattle.std.proofs.lemmas.Bool.Decides.{nat_tests}
use Rattle.std.specs.Char.{digit_value, is_ascii_digit}
use Rattle.std.specs.List.{list_all}
use Rattle.std.specs.Str.Parse.{AllDigits, IsNumeral, digits_value, without_leading_plus}
use Rattle.program_words.specs.Forms.{IsWithin, form_of, form_with, is_number, is_operand, make_from, make_of, number_between, within}
use Rattle.program_words.specs.declared.form.Form.TheVariants.{Step}
use Rattle.std.specs.Str.{bytes_eq}

digit_below : (c : ℕ) → is_ascii_digit c ≡ true → digit_value c < 10
digit_below c h = grind (arith, nat_tests)

no_plus : (c : ℕ) → is_ascii_digit c ≡ true → (c == 43) ≡ false
no_plus c h = grind (arith, nat_tests)

both : (a b : Bool) → (a && b) ≡ true → (a ≡ true) × (b ≡ true)
both true b h = (refl, h)
both false b h = absurd (cc)

pub all_digits : (text : List ℕ) → list_all is_ascii_digit text ≡ true → AllDigits 10 text
all_digits [] h = tt
all_digits (c ∷ cs) h =
    let parts = both (is_ascii_digit c) (list_all is_ascii_digit cs) h in
    (digit_below c parts.0, all_digits cs parts.1)

pub has_no_plus : (text : List ℕ) → list_all is_ascii_digit text ≡ true → without_leading_plus text ≡ text
has_no_plus [] h = refl
has_no_plus (c ∷ cs) h =
    let parts = both (is_ascii_digit c) (list_all is_ascii_digit cs) h in
    rw (no_plus c parts.0) refl

not_le : (a b : ℕ) → (a ≤ b → ⊥) → nat_le a b ≡ false
not_le a b h = grind (arith, nat_tests)

none_beyond : (least most n : ℕ) → nat_le n most ≡ false → None ≡ within least most n
none_beyond least most n beyond = go (nat_le least n)
  where
    go : (b : Bool) → None ≡ (if b && nat_le n most then Some n else None)
    go true = rw beyond refl
    go false = refl

-- digits of a number that is greater than 64 bits hold write none below
pub too_great : (least most : ℕ) (text : List ℕ) → most < 2 ^ 64 → is_number text ≡ true
    → (IsNumeral 10 (without_leading_plus text) × (digits_value 10 (without_leading_plus text) < 2 ^ 64) → ⊥)
    → None ≡ number_between least most text
too_great least most text small is not_read =
    let parts = both (nat_le 1 (length text) && nat_le (length text) 20) (list_all is_ascii_digit text) is in
    let some = both (nat_le 1 (length text)) (nat_le (length text) 20) parts.0 in
    let long : 0 < length text = grind (arith, nat_tests, some.0) in
    let same = has_no_plus text parts.1 in
    let great : digits_value 10 text < 2 ^ 64 → ⊥ = λ less.
    let P : List ℕ → Type 0 = λ t. IsNumeral 10 t × (digits_value 10 t < 2 ^ 64) in
    not_read (subst P (sym same) ((long, all_digits text parts.1), less)) in
    let beyond : nat_le (digits_value 10 text) most ≡ false = not_le (digits_value 10 text) most (λ le. great (omega arith)) in
    rw is (none_beyond least most (digits_value 10 text) beyond)

le_of : (a b : ℕ) → nat_le a b ≡ true → a ≤ b
le_of a b h = grind (arith, nat_tests)

-- a number that is given lies between its bounds
pub given_within : (least most : ℕ) (text : List ℕ) → IfSome (number_between least most text) (λ n. (least ≤ n) × (n ≤ most))
given_within least most text = digits (is_number text)
  where
    n : ℕ
    n = digits_value 10 text

    between : (b : Bool) → (nat_le least n && nat_le n most) ≡ b → IfSome (if b then Some n else None) (λ m. (least ≤ m) × (m ≤ most))
    between true e = let parts = both (nat_le least n) (nat_le n most) e in (le_of least n parts.0, le_of n most parts.1)
    between false e = tt

    digits : (d : Bool) → IfSome (if d then within least most n else None) (λ m. (least ≤ m) × (m ≤ most))
    digits true = between (nat_le least n && nat_le n most) refl
    digits false = tt

make_within : (number sessions lines : Option ℕ) → IfSome sessions (λ n. (1 ≤ n) × (n ≤ 64)) → IfSome lines (λ n. (1 ≤ n) × (n ≤ 199936))
    → IfSome (make_of number sessions lines) IsWithin
make_within None sessions lines s l = tt
make_within (Some number) None lines s l = tt
make_within (Some number) (Some sessions) None s l = tt
make_within (Some number) (Some sessions) (Some lines) s l = (s.0, s.1, l.0, l.1)

step_within : (b : Bool) → IfSome (if b then Some Step else None) IsWithin
step_within true = tt
step_within false = tt

make_from_within : (b : Bool) (number sessions lines : List ℕ) → IfSome (if b then make_from number sessions lines else None) IsWithin
make_from_within true number sessions lines =
    make_within (number_between 0 18446744073709551615 number) (number_between 1 64 sessions) (number_between 1 199936 lines)
    (given_within 1 64 sessions) (given_within 1 199936 lines)
make_from_within false number sessions lines = tt

with_within : (command : List ℕ) (operands : List (List ℕ)) → IfSome (form_with command operands) IsWithin
with_within command [] = tt
with_within command (a ∷ []) = tt
with_within command (a ∷ b ∷ []) = step_within (bytes_eq command (codes "step"))
with_within command (a ∷ b ∷ c ∷ []) = make_from_within (bytes_eq command (codes "make")) a b c
with_within command (a ∷ b ∷ c ∷ d ∷ more) = tt

pub form_within : (words : List (List ℕ)) → IfSome (form_of words) IsWithin
form_within [] = tt
form_within (command ∷ operands) = at (list_all is_operand operands)
  where
    at : (b : Bool) → IfSome (if b then form_with command operands else None) IsWithin
    at true = with_within command operands
    at false = tt
