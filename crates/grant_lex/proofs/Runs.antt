-- Fronts whose bytes are all of one class.
use Rattle.std.proofs.Common.{ℕ, zero, suc, ◌+◌, ◌<◌, ◌≤◌, List, [], ◌∷◌, ◌++◌, length, get_or, take, drop, sym, subst, arith, take-append-drop, length-take-le}
use Rattle.std.specs.List.{AllByRecursion}
use Rattle.std.proofs.lemmas.List.{take_more}
use Rattle.grant_lex.specs.Next.{BeginsWithout, IsOf, IsLongestRun}
use Rattle.grant_lex.specs.declared.class.Class.{Class}

pub all_append : {X : Type 0} (P : X → Type 0) (xs ys : List X) → AllByRecursion P xs → AllByRecursion P ys → AllByRecursion P (xs ++ ys)
all_append P [] ys a b = b
all_append P (x ∷ xs) ys a b = (a.0, all_append P xs ys a.1 b)

pub all_take_more : (P : ℕ → Type 0) (xs : List ℕ) (i : ℕ) → i < length xs → AllByRecursion P (take i xs) → P (get_or xs i 0) → AllByRecursion P (take (i + 1) xs)
all_take_more P xs i lt front here =
    subst (AllByRecursion P) (sym (take_more xs i 0 lt)) (all_append P (take i xs) (get_or xs i 0 ∷ []) front (here, tt))

pub without_drop : (P : ℕ → Type 0) (xs : List ℕ) (i : ℕ) → (i < length xs → P (get_or xs i 0) → ⊥) → BeginsWithout P (drop i xs)
without_drop P [] zero not_here = tt
without_drop P [] (suc i) not_here = tt
without_drop P (x ∷ xs) zero not_here = not_here (omega arith)
without_drop P (x ∷ xs) (suc i) not_here = without_drop P xs i (λ lt. not_here (omega arith))

pub run_at : (class : Class) (xs : List ℕ) (n : ℕ) → n ≤ length xs → AllByRecursion (IsOf class) (take n xs) → (n < length xs → IsOf class (get_or xs n 0) → ⊥) → IsLongestRun class xs n
run_at class xs n within front stops = record {
  front = take n xs;
  rest = drop n xs;
  whole = sym (take-append-drop n xs);
  size = length-take-le n xs within;
  each = front;
  ends = without_drop (IsOf class) xs n stops;
}
