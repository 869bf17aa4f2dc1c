-- What one seat knows into which all seats of a list were joined.
use Rattle.std.specs.Prelude.{◌≡◌, ℕ, ◌≤◌, true, false, List, [], ◌∷◌, ◌++◌, Option, None, is_some}
use Rattle.std.specs.List.{AllByRecursion}
use Rattle.atomic_table.specs.Table.{Me}
use Rattle.book_turn.specs.declared.view.View.{View}
use Rattle.book_turn.specs.declared.seat.Seated.{Seated}
use Rattle.book_turn.specs.Lists.{Begins, Has}
use Rattle.book_turn.specs.Views.{drawn_by}
use Rattle.book_turn.specs.Sitting.{makes}
use Rattle.book_turn.specs.Callers.{seen, known, mine, origin}

module _ {S I O : Type 0} where
  pub record Covers (v : View I O) (s : Seated S I O) : Type 0 where
    pub seen : Begins (seen s) v.seen
    pub known : known s ≤ v.known
    pub own : Has v.mine (s.caller, mine s)
    pub origin : origin s ≡ v.origin

  -- the number of callers, by the first seat that makes them
  abbrev pub drawn_in : List (Seated S I O) → Option ℕ
  drawn_in [] = None
  drawn_in (s ∷ seats) = drawn_by (drawn_in seats) (makes s.caller s.callers)

  pub record Gathered (seats : List (Seated S I O)) (m : Me S (View I O)) : Type 0 where
    pub idle : m.0.turn ≡ false
    pub empty : m.1 ≡ []
    pub come : is_some m.0.origin ≡ true
    pub drawn : m.0.drawn ≡ drawn_in seats
    pub covers : AllByRecursion (λ s. Covers m.0 s) seats

  -- the last seats of the list were joined, and these are left
  abbrev pub GatheredPast : List (Seated S I O) → List (Seated S I O) → Me S (View I O) → Type 0
  GatheredPast seats left m = (done : List (Seated S I O)) × (seats ≡ left ++ done) × Gathered done m
