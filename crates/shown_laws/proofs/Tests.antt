-- Tests that say the same in another order.
use Rattle.std.proofs.Common.{◌≡◌, ◌∙◌, ap, sym, refl, Bool, true, false, not, ◌&&◌, ◌||◌, true≢false}

pub never : {A : Type 0} → false ≡ true → A
never is = absurd (true≢false (sym is))

pub both_ways : (s t : Bool) → (s ≡ true → t ≡ true) → (t ≡ true → s ≡ true) → s ≡ t
both_ways true t there back = sym (there refl)
both_ways false true there back = back refl
both_ways false false there back = refl

pub or_or : (a b c : Bool) → ((a || b) || c) ≡ (a || (b || c))
or_or true b c = refl
or_or false b c = refl

pub and_and : (a b c : Bool) → ((a && b) && c) ≡ (a && (b && c))
and_and true b c = refl
and_and false b c = refl

pub and_swap : (a b : Bool) → (a && b) ≡ (b && a)
and_swap true true = refl
and_swap true false = refl
and_swap false true = refl
and_swap false false = refl

pub or_swap : (a b : Bool) → (a || b) ≡ (b || a)
or_swap true true = refl
or_swap true false = refl
or_swap false true = refl
or_swap false false = refl

pub implied : (a b : Bool) → (not a || b) ≡ true → a ≡ true → b ≡ true
implied true b either is = either
implied false b either is = never is

pub implies : (a b : Bool) → (a ≡ true → b ≡ true) → (not a || b) ≡ true
implies true b follows = follows refl
implies false b follows = refl

-- what a GRANT leaves, and adds where it is meant
pub joined : (stood meant listed named : Bool) → listed ≡ true → (((meant && listed) && named) || (stood && true)) ≡ (stood || (meant && named))
joined true true true true is = refl
joined true true true false is = refl
joined true false true named is = refl
joined false true true true is = refl
joined false true true false is = refl
joined false false true named is = refl
joined stood meant false named is = never is

pub joined_here : (stood listed named : Bool) → listed ≡ true → ((listed && named) || (stood && true)) ≡ (stood || named)
joined_here true true true is = refl
joined_here true true false is = refl
joined_here false true true is = refl
joined_here false true false is = refl
joined_here stood false named is = never is

pub joined_pair : (stood listed named : Bool) → listed ≡ true → ((named && listed) || (stood && true)) ≡ (stood || named)
joined_pair true true true is = refl
joined_pair true true false is = refl
joined_pair false true true is = refl
joined_pair false true false is = refl
joined_pair stood false named is = never is

-- with an option besides
pub joined_option : (stood option listed named : Bool) → listed ≡ true → (((option && listed) && named) || (stood && true)) ≡ (stood || (option && named))
joined_option stood option listed named is = joined stood option listed named is

-- a line that stands where its test may pass
pub line_stands : (stands meant passes : Bool) → (passes ≡ true → stands ≡ true) → (stands && (meant && passes)) ≡ (meant && passes)
line_stands stands meant true there = ap (λ t. t && (meant && true)) (there refl)
line_stands stands meant false there = ap (λ t. stands && t) (none meant) ∙ none stands ∙ sym (none meant)
  where
    none : (x : Bool) → (x && false) ≡ false
    none true = refl
    none false = refl
