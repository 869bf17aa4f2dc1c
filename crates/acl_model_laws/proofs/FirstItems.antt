-- The first item that fails a test, as `find` gives it.
use Rattle.std.proofs.Common.{◌≡◌, ◌≢◌, ◌∙◌, Bool, true, false, List, [], ◌∷◌, ◌++◌, Option, Some, None, not, refl, sym, ap, subst, cond}
use Rattle.std.specs.List.{find}
use Rattle.acl_model.specs.Firsts.{HasNone, IsFirst}

head_or : {X : Type 0} → X → List X → X
head_or x [] = x
head_or x (y ∷ ys) = y

tail_of : {X : Type 0} → List X → List X
tail_of [] = []
tail_of (y ∷ ys) = ys

pub same_heads : {X : Type 0} (x y : X) (xs ys : List X) → x ∷ xs ≡ y ∷ ys → x ≡ y
unfolding head_or
same_heads x y xs ys equal = ap (head_or x) equal

pub same_tails : {X : Type 0} (x y : X) (xs ys : List X) → x ∷ xs ≡ y ∷ ys → xs ≡ ys
unfolding tail_of
same_tails x y xs ys equal = ap tail_of equal

-- no item at all
pub none_of_nothing : {X : Type 0} (P : X → Type 0) → HasNone P []
none_of_nothing P [] item later split holds = cc
none_of_nothing P (first ∷ earlier) item later split holds = cc

-- a test that the first item passes
pub none_of_more : {X : Type 0} (met : X → Bool) (x : X) (xs : List X) → met x ≡ true → HasNone (λ y. met y ≢ true) xs → HasNone (λ y. met y ≢ true) (x ∷ xs)
none_of_more met x xs passes none [] item later split fails = fails (sym (ap met (same_heads x item xs later split)) ∙ passes)
none_of_more met x xs passes none (first ∷ earlier) item later split fails =
    none earlier item later (same_tails x first xs (earlier ++ item ∷ later) split) fails

find_none_step : {X : Type 0} (met : X → Bool) (x : X) (xs : List X) (b : Bool) → met x ≡ b
    → (find (λ y. not (met y)) xs ≡ None → HasNone (λ y. met y ≢ true) xs)
    → cond (not b) (Some x) (find (λ y. not (met y)) xs) ≡ None → HasNone (λ y. met y ≢ true) (x ∷ xs)
find_none_step met x xs true passes rest is = none_of_more met x xs passes (rest is)
find_none_step met x xs false fails rest is = cc

pub find_none : {X : Type 0} (met : X → Bool) (xs : List X) → find (λ y. not (met y)) xs ≡ None → HasNone (λ y. met y ≢ true) xs
find_none met [] is = none_of_nothing (λ y. met y ≢ true)
find_none met (x ∷ xs) is = find_none_step met x xs (met x) refl (find_none met xs) is

first_here : {X : Type 0} (met : X → Bool) (x : X) (xs : List X) → met x ≡ false → IsFirst (λ y. met y ≢ true) (x ∷ xs) x
first_here met x xs fails = record {
  before = [];
  rest = xs;
  split = refl;
  has = λ passes. cc;
  none_before = none_of_nothing (λ y. met y ≢ true);
}

first_later : {X : Type 0} (met : X → Bool) (x : X) (xs : List X) (first : X) → met x ≡ true → IsFirst (λ y. met y ≢ true) xs first
    → IsFirst (λ y. met y ≢ true) (x ∷ xs) first
first_later met x xs first passes is = record {
  before = x ∷ is.before;
  rest = is.rest;
  split = ap (λ ys. x ∷ ys) is.split;
  has = is.has;
  none_before = none_of_more met x is.before passes is.none_before;
}

some_or : {X : Type 0} → X → Option X → X
some_or x None = x
some_or x (Some y) = y

find_some_step : {X : Type 0} (met : X → Bool) (x : X) (xs : List X) (first : X) (b : Bool) → met x ≡ b
    → (find (λ y. not (met y)) xs ≡ Some first → IsFirst (λ y. met y ≢ true) xs first)
    → cond (not b) (Some x) (find (λ y. not (met y)) xs) ≡ Some first → IsFirst (λ y. met y ≢ true) (x ∷ xs) first
unfolding some_or
find_some_step met x xs first true passes rest is = first_later met x xs first passes (rest is)
find_some_step met x xs first false fails rest is =
    let equal : x ≡ first = ap (some_or x) is in
    subst (λ (y : _). IsFirst (λ z. met z ≢ true) (x ∷ xs) y) equal (first_here met x xs fails)

pub find_some : {X : Type 0} (met : X → Bool) (xs : List X) (first : X) → find (λ y. not (met y)) xs ≡ Some first → IsFirst (λ y. met y ≢ true) xs first
find_some met [] first is = cc
find_some met (x ∷ xs) first is = find_some_step met x xs first (met x) refl (find_some met xs first) is
