-- Numbers of options are read as they are written.
use Rattle.std.proofs.Common.{◌≡◌, ◌&&◌, ◌<◌, ◌≤◌, ◌+◌, ◌-◌, ◌*◌, ◌/◌, ◌%◌, ◌^◌, ℕ, nat_le, Bool, IsTrue, true, false, List, [], ◌∷◌, ◌++◌, length, refl, ap, ◌∙◌, arith}
use Rattle.std.proofs.lemmas.Bool.{and_from}
use Rattle.std.proofs.lemmas.Bool.Decides.{nat_tests}
use Rattle.std.proofs.lemmas.Fmt.{decimal_by_steps, decimal_nonempty, length-decimal-le}
use Rattle.std.proofs.lemmas.List.Folds.{list_all-append}
use Rattle.std.specs.Char.{is_ascii_digit}
use Rattle.std.specs.List.{list_all}
use Rattle.std.specs.Prelude.{decimal}
use Rattle.grant_lex.specs.Value.{value_of}
use Rattle.grant_words.specs.Numbers.{number_behind, number_of}
use Rattle.user_statements.specs.Options.{is_number_text}

-- a digit more
number_push : (before d : ℕ) (ds : List ℕ) → number_behind before (ds ++ d ∷ []) ≡ number_behind before ds * 10 + (d - 48)
number_push before d [] = refl
number_push before d (x ∷ xs) = number_push (before * 10 + (x - 48)) d xs

digit_is : (d : ℕ) → d < 10 → is_ascii_digit (48 + d) ≡ true
digit_is d h = grind (arith, nat_tests)

record IsNumber (n : ℕ) (ds : List ℕ) : Type 0 where
  same : number_of ds ≡ n
  each : list_all is_ascii_digit ds ≡ true

one_digit : (d : ℕ) → d < 10 → IsNumber d ((48 + d) ∷ [])
one_digit d h = record { same = omega arith; each = ap (λ t. t && true) (digit_is d h) }

digit_more : (m : ℕ) (ds : List ℕ) → 10 ≤ m → IsNumber (m / 10) ds → IsNumber m (ds ++ (48 + m % 10) ∷ [])
digit_more m ds high before = record {
  same = let pushed = number_push 0 (48 + m % 10) ds in let old : number_of ds ≡ m / 10 = before.same in omega (arith, pushed, old);
  each = list_all-append is_ascii_digit ds ((48 + m % 10) ∷ [])
      ∙ and_from (list_all is_ascii_digit ds) (is_ascii_digit (48 + m % 10) && true) before.each (ap (λ t. t && true) (digit_is (m % 10) (omega arith)));
}

decimal_is : (n : ℕ) → n < 2 ^ 64 → IsNumber n (decimal n)
decimal_is n small = decimal_by_steps IsNumber one_digit digit_more n small

low : (n : ℕ) → IsTrue (nat_le n 32767) → n ≤ 32767
low n h = grind (arith, nat_tests)

test_le : (a b : ℕ) → a ≤ b → IsTrue (nat_le a b)
test_le a b h = grind (arith, nat_tests)

pub decimal_number : (n : ℕ) → IsTrue (nat_le n 32767) → number_of (decimal n) ≡ n
decimal_number n h = let small = low n h in (decimal_is n (omega (arith, small))).same

pub decimal_fits : (n : ℕ) → IsTrue (nat_le n 32767) → IsTrue (is_number_text (decimal n))
decimal_fits n h =
    let small : n ≤ 32767 = low n h in
    let digits : IsNumber n (decimal n) = decimal_is n (omega arith) in
    and_from (nat_le 1 (length (decimal n)) && nat_le (length (decimal n)) 5 && list_all is_ascii_digit (decimal n)) (nat_le (number_of (decimal n)) 32767)
    (and_from (nat_le 1 (length (decimal n)) && nat_le (length (decimal n)) 5) (list_all is_ascii_digit (decimal n))
    (and_from (nat_le 1 (length (decimal n))) (nat_le (length (decimal n)) 5)
    (test_le 1 (length (decimal n)) (let some = decimal_nonempty n (omega arith) in omega (arith, some)))
    (test_le (length (decimal n)) 5 (length-decimal-le 5 n (omega arith) (omega arith) (omega arith))))
    digits.each)
    (ap (λ m. nat_le m 32767) digits.same ∙ h)

digits_value : (ds : List ℕ) → list_all is_ascii_digit ds ≡ true → value_of ds ≡ ds
digits_value [] h = refl
digits_value (d ∷ ds) h = first (is_ascii_digit d) refl h
  where
    first : (t : Bool) → is_ascii_digit d ≡ t → (t && list_all is_ascii_digit ds) ≡ true → value_of (d ∷ ds) ≡ d ∷ ds
    first true e k = grind (arith, nat_tests)
    first false e k = absurd (cc)

-- digits stand for themselves
pub decimal_value : (n : ℕ) → IsTrue (nat_le n 32767) → value_of (decimal n) ≡ decimal n
decimal_value n h = let small = low n h in digits_value (decimal n) (decimal_is n (omega (arith, small))).each
