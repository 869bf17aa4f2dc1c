-- Tests that say the same in another order.
use Rattle.std.proofs.Common.{◌≡◌, refl, Bool, true, false, ◌&&◌, ◌||◌}

pub or_or : (a b c : Bool) → ((a || b) || c) ≡ (a || (b || c))
or_or true b c = refl
or_or false b c = refl

-- what a test implies may be left out beside it
pub one_within : (a x y : Bool) → ((a && x) && (x && y)) ≡ (a && (x && y))
one_within true true y = refl
one_within true false y = refl
one_within false x y = refl

pub one_within_two : (a x y z : Bool) → ((a && x) && ((x && y) && z)) ≡ (a && ((x && y) && z))
one_within_two true true y z = refl
one_within_two true false y z = refl
one_within_two false x y z = refl

pub two_within : (a x y z : Bool) → (((a && x) && y) && ((x && y) && z)) ≡ (a && ((x && y) && z))
two_within true true true z = refl
two_within true true false z = refl
two_within true false y z = refl
two_within false x y z = refl

pub last_first : (a b c : Bool) → ((a && b) && c) ≡ ((a && c) && b)
last_first true true true = refl
last_first true true false = refl
last_first true false true = refl
last_first true false false = refl
last_first false b c = refl

pub first_last : (a b c : Bool) → ((a && b) && c) ≡ (b && (a && c))
first_last true b c = refl
first_last false true c = refl
first_last false false c = refl

-- four parts of one account
pub four_parts : (h a b c d : Bool) → ((((h && a) || (h && b)) || (h && c)) || (h && d)) ≡ (h && (((a || b) || c) || d))
four_parts true a b c d = refl
four_parts false a b c d = refl
