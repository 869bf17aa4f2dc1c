-- A number that digits go on with does not get less, and a test that digits alone pass is the same in any case.
use Rattle.std.proofs.Common.{◌≡◌, ◌<◌, ◌≤◌, ◌&&◌, ◌+◌, ◌-◌, ◌*◌, Bool, true, false, nat_le, ℕ, List, [], ◌∷◌, refl, sym, ap, ◌∙◌, arith, le_refl}
use Rattle.std.proofs.lemmas.Bool.{and_left, and_right}
use Rattle.std.specs.Char.{is_ascii_digit, to_ascii_lowercase}
use Rattle.std.specs.List.{list_all}
use Rattle.std.specs.Str.{str_to_ascii_lowercase}
use Rattle.grant_words.proofs.Apart.{both_left, both_right}
use Rattle.grant_words.specs.Numbers.{is_number, number_behind, number_of}

number_grows : (before : ℕ) (digits : List ℕ) → before ≤ number_behind before digits
number_grows before [] = le_refl before
number_grows before (digit ∷ digits) =
    let more : before * 10 + (digit - 48) ≤ number_behind (before * 10 + (digit - 48)) digits = number_grows (before * 10 + (digit - 48)) digits in
    omega arith

above : (n most : ℕ) → most < n → nat_le n most ≡ false
above n most h = grind arith

pub too_large : (before : ℕ) (digits text : List ℕ) → number_behind before digits ≡ number_of text → 4_294_967_295 < before → is_number text ≡ false
too_large before digits text same more =
    let grown : before ≤ number_behind before digits = number_grows before digits in
    let high : 4_294_967_295 < number_of text = omega arith in
    and_right (list_all is_ascii_digit text) (nat_le (number_of text) 4_294_967_295) (above (number_of text) 4_294_967_295 high)

-- lower case changes no digit, and makes none
digit_stays : (b : ℕ) → is_ascii_digit b ≡ true → to_ascii_lowercase b ≡ b
digit_stays b h = grind arith

no_digit_stays_none : (b : ℕ) → is_ascii_digit b ≡ false → is_ascii_digit (to_ascii_lowercase b) ≡ false
no_digit_stays_none b h = grind arith

lowered_digits : (text : List ℕ) → list_all is_ascii_digit text ≡ true → str_to_ascii_lowercase text ≡ text
lowered_digits [] h = refl
lowered_digits (b ∷ rest) h =
    let here : is_ascii_digit b ≡ true = both_left (is_ascii_digit b) (list_all is_ascii_digit rest) h in
    let more : list_all is_ascii_digit rest ≡ true = both_right (is_ascii_digit b) (list_all is_ascii_digit rest) h in
    rw (digit_stays b here, lowered_digits rest more) refl

lowered_others : (text : List ℕ) → list_all is_ascii_digit text ≡ false → list_all is_ascii_digit (str_to_ascii_lowercase text) ≡ false
lowered_others [] h = h
lowered_others (b ∷ rest) h = others (is_ascii_digit b) refl (λ k. lowered_others rest k)
  where
    others : (digit : Bool) → is_ascii_digit b ≡ digit
        → (list_all is_ascii_digit rest ≡ false → list_all is_ascii_digit (str_to_ascii_lowercase rest) ≡ false)
        → list_all is_ascii_digit (str_to_ascii_lowercase (b ∷ rest)) ≡ false
    others true e further =
        and_right (is_ascii_digit (to_ascii_lowercase b)) (list_all is_ascii_digit (str_to_ascii_lowercase rest))
        (further (sym (ap (λ d. d && list_all is_ascii_digit rest) e) ∙ h))
    others false e further =
        and_left (is_ascii_digit (to_ascii_lowercase b)) (list_all is_ascii_digit (str_to_ascii_lowercase rest)) (no_digit_stays_none b e)

pub same_in_lower_case : (test : List ℕ → Bool) → ((text : List ℕ) → list_all is_ascii_digit text ≡ false → test text ≡ false)
    → (text : List ℕ) → test (str_to_ascii_lowercase text) ≡ test text
same_in_lower_case test digits_alone text = same (list_all is_ascii_digit text) refl
  where
    same : (digits : Bool) → list_all is_ascii_digit text ≡ digits → test (str_to_ascii_lowercase text) ≡ test text
    same true e = ap test (lowered_digits text e)
    same false e = digits_alone (str_to_ascii_lowercase text) (lowered_others text e) ∙ sym (digits_alone text e)
