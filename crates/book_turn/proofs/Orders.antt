-- For who closes a turn: a list that has the seats in the order of their callers has all of them.
use Rattle.std.proofs.Common.{◌≡◌, ℕ, zero, suc, ◌<◌, List, [], ◌∷◌, length, get_or, refl, ap, arith, cond, eq-eqb}
use Rattle.book_turn.specs.declared.seat.Seated.{Seated}
use Rattle.book_turn.specs.Callers.{callers_of, HasAllCallers}

same_read : {A : Type 0} (xs : List A) (k : ℕ) (d e : A) → k < length xs → get_or xs k d ≡ get_or xs k e
same_read [] k d e l = absurd (omega arith)
same_read (x ∷ xs) zero d e l = refl
same_read (x ∷ xs) (suc k) d e l = same_read xs k d e (omega arith)

module _ {S I O : Type 0} where
  -- each seat stands at the number of its caller, and the first one says how many there are
  pub all_in_order : (first : Seated S I O) (seats : List (Seated S I O)) → first.caller ≡ 0 → first.callers ≡ length (first ∷ seats)
      → ((k : ℕ) (d : Seated S I O) → k < length (first ∷ seats) → (get_or (first ∷ seats) k d).caller ≡ k) → HasAllCallers (first ∷ seats)
  all_in_order first seats zeroth count each = let n : callers_of (first ∷ seats) ≡ first.callers = ap (λ b. cond b first.callers (callers_of seats)) (eq-eqb first.caller 0 zeroth) in (
    omega (arith, n, count),
    λ c l. let inside : c < length (first ∷ seats) = omega (arith, n, count, l) in let s : Seated S I O = get_or (first ∷ seats) c first in (c, s, inside, same_read (first ∷ seats) c s first inside, each c first inside),
  )

  pub two_in_order : (first second : Seated S I O) → first.caller ≡ 0 → first.callers ≡ 2 → second.caller ≡ 1 → HasAllCallers (first ∷ second ∷ [])
  two_in_order first second zeroth count other = all_in_order first (second ∷ []) zeroth count at where
    at : (k : ℕ) (d : Seated S I O) → k < 2 → (get_or (first ∷ second ∷ []) k d).caller ≡ k
    at zero d l = zeroth
    at (suc zero) d l = other
    at (suc (suc k)) d l = absurd (omega arith)
