-- What contracts see of a caller's seat and of a note.
use Rattle.std.specs.Prelude.{◌≡◌, ℕ, ◌<◌, List, [], ◌∷◌, ◌++◌, Option, ◌==◌, if◌then◌else◌, Any}
use Rattle.std.specs.Option.{ForSome}
use Rattle.atomic_table.specs.Seated.{TableId}
use Rattle.book_turn.specs.declared.seat.Seated.{Seated}
use Rattle.book_turn.specs.declared.seat.Noted.{Noted}
use Rattle.book_turn.specs.Lists.{by_caller}
use Rattle.book_turn.specs.Sitting.{first_mine}

module _ {S I O : Type 0} where
  -- the turn that the seat is of
  abbrev pub turn_of : Seated S I O → TableId
  turn_of s = s.seat.table_id

  -- the history that it has seen
  abbrev pub seen : Seated S I O → List I
  seen s = s.seat.me.0.seen

  -- a number that it has looked at: the history is at least as long
  abbrev pub known : Seated S I O → ℕ
  known s = s.seat.me.0.known

  -- the items of its calls
  abbrev pub mine : Seated S I O → List I
  mine s = first_mine s.seat.me.0.mine

  abbrev pub origin : Seated S I O → Option O
  origin s = s.seat.me.0.origin

  -- the seat of the same caller, at the same turn
  pub record IsSameCaller (s t : Seated S I O) : Type 0 where
    pub turn : turn_of t ≡ turn_of s
    pub caller : t.caller ≡ s.caller
    pub origin : origin t ≡ origin s

  -- the same calls were made
  pub record HasSameCalls (s t : Seated S I O) : Type 0 where
    pub made : t.made ≡ s.made
    pub mine : mine t ≡ mine s

  pub record SawTheSame (s t : Seated S I O) : Type 0 where
    pub seen : seen t ≡ seen s
    pub known : known t ≡ known s

  abbrev pub note_turn : Noted S I O → TableId
  note_turn n = n.seat.table_id

  abbrev pub noted : Noted S I O → List I
  noted n = n.seat.me.0.seen

  abbrev pub note_known : Noted S I O → ℕ
  note_known n = n.seat.me.0.known

  -- how many callers there are, by the seat of the caller with the number 0
  abbrev pub callers_of : List (Seated S I O) → ℕ
  callers_of [] = 0
  callers_of (s ∷ seats) = if s.caller == 0 then s.callers else callers_of seats

  -- each caller has its seat in the list
  abbrev pub HasAllCallers : List (Seated S I O) → Type 0
  HasAllCallers seats = (0 < callers_of seats) × ((caller : ℕ) → caller < callers_of seats → Any (λ s. s.caller ≡ caller) seats)

-- what a call left behind that was made: the history goes on with its item, which is the caller's with this number and call and stands for the reply,
-- and of this caller it has just the calls that it made
module _ {S I O C R : Type 0} (by number_of : I → ℕ) (call_of : I → C) (stands : O → I → R → Type 0) where
  pub record Logs (asked : C) (answer : R) (s t : Seated S I O) : Type 0 where
    pub between : List I
    pub item : I
    pub grown : seen t ≡ (seen s ++ between) ++ item ∷ []
    pub caller : by item ≡ s.caller
    pub number : number_of item ≡ s.made
    pub call : call_of item ≡ asked
    pub reply : ForSome (origin s) (λ o. stands o item answer)
    pub own : mine t ≡ mine s ++ item ∷ []
    pub just : mine t ≡ by_caller by s.caller (seen t)
