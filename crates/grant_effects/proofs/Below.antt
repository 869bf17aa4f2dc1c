-- Some number below a limit passes a test.
use Rattle.std.proofs.Common.{◌≡◌, ◌∙◌, ap, sym, refl, ℕ, zero, suc, ◌+◌, ◌<◌, Bool, true, false, ◌&&◌, ◌||◌, nat_eq, nat_lt, add-one, arith}
use Rattle.std.proofs.Math.Bool.{and-false, and-true}
use Rattle.std.proofs.lemmas.Bool.{eqb-true, lt-ltb}
use Rattle.std.proofs.lemmas.Bool.Decides.{nat_tests}

unfoldable pub any_below : ℕ → (ℕ → Bool) → Bool
any_below zero test = false
any_below (suc n) test = any_below n test || test n

pub one_more : (n : ℕ) (test : ℕ → Bool) → any_below (n + 1) test ≡ (any_below n test || test n)
unfolding any_below
one_more n test = rw (add-one n) refl

pub no_number : (test : ℕ → Bool) → any_below 0 test ≡ false
unfolding any_below
no_number test = refl

pub same_tests : (n : ℕ) (f g : ℕ → Bool) → ((m : ℕ) → f m ≡ g m) → any_below n f ≡ any_below n g
same_tests n f g same = λ i. any_below n (λ m. same m i)

pub none_below : (n : ℕ) (f : ℕ → Bool) → ((m : ℕ) → f m ≡ false) → any_below n f ≡ false
unfolding any_below
none_below zero f none = refl
none_below (suc n) f none = ap (λ t. t || f n) (none_below n f none) ∙ none n

nothing : (p : ℕ) (c : Bool) → false ≡ (nat_lt p 0 && c)
nothing p true = grind (arith, nat_tests)
nothing p false = sym (and-false (nat_lt p 0))

next : (p n : ℕ) (c : Bool) → ((nat_lt p n && c) || (c && nat_eq p n)) ≡ (nat_lt p (suc n) && c)
next p n true = grind (arith, nat_tests)
next p n false = rw (and-false (nat_lt p n)) (sym (and-false (nat_lt p (suc n))))

one_number : (n p : ℕ) (c : Bool) → any_below n (λ m. c && nat_eq p m) ≡ (nat_lt p n && c)
unfolding any_below
one_number zero p c = nothing p c
one_number (suc n) p c = ap (λ t. t || (c && nat_eq p n)) (one_number n p c) ∙ next p n c

-- a test of the number that is sought is one of the number that was asked for
at_number : (test : ℕ → Bool) (c : Bool) (p m : ℕ) → (test m && (c && nat_eq p m)) ≡ (test p && (c && nat_eq p m))
at_number test c p m = by (nat_eq p m) refl
  where
    by : (t : Bool) → nat_eq p m ≡ t → (test m && (c && t)) ≡ (test p && (c && t))
    by true same = ap (λ q. test q && (c && true)) (sym (eqb-true p m same))
    by false other = ap (λ t. test m && t) (and-false c) ∙ and-false (test m) ∙ sym (ap (λ t. test p && t) (and-false c) ∙ and-false (test p))

-- just the number p may pass
pub covered : (n p : ℕ) (test : ℕ → Bool) (c : Bool) (f : ℕ → Bool) → (test p ≡ true → p < n) → ((m : ℕ) → f m ≡ (test m && (c && nat_eq p m))) → any_below n f ≡ (c && test p)
covered n p test c f below is = same_tests n f (λ m. test p && (c && nat_eq p m)) (λ m. is m ∙ at_number test c p m) ∙ by (test p) below
  where
    by : (t : Bool) → (t ≡ true → p < n) → any_below n (λ m. t && (c && nat_eq p m)) ≡ (c && t)
    by true within = one_number n p c ∙ ap (λ t. t && c) (lt-ltb p n (within refl)) ∙ sym (and-true c)
    by false within = none_below n (λ m. false) (λ m. refl) ∙ sym (and-false c)
