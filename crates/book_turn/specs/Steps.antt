-- What each step tells, of the seat before and after it.
use Rattle.std.specs.Prelude.{◌≡◌, ◌≢◌, ℕ, ◌≤◌, ◌⊎◌, true, false, List, [], ◌∷◌, length, Option, Some, None}
use Rattle.atomic_table.specs.Table.{Me, rest}
use Rattle.book_turn.specs.declared.view.View.{View}
use Rattle.book_turn.specs.Lists.{Begins, longer_of, Has, by_caller}
use Rattle.book_turn.specs.Rule.{HasPair}
use Rattle.book_turn.specs.Views.{held_log, held_origin, joined, recalling, looking, taking, counting, giving}

-- the first seat, or one that knows the book's origin
abbrev pub Rooted : {I O : Type 0} → View I O → Type 0
Rooted {I} {O} v = (v.fresh ≡ true) ⊎ ((origin : O) × (v.origin ≡ Some origin))

-- a seat that may take the turn
abbrev pub IsReady : {I O : Type 0} → View I O → Type 0
IsReady v = (v.turn ≡ false) × Rooted v × HasPair v

-- two views are made one: a history that begins with both of theirs is seen
pub record Merged {I O : Type 0} (v w after : View I O) : Type 0 where
  pub now : after ≡ recalling (joined v w)
  pub first : Begins v.seen after.seen
  pub second : Begins w.seen after.seen
  pub origin : (a b : O) → v.origin ≡ Some a → w.origin ≡ Some b → b ≡ a

-- the turn was free, and the seat has it now, with the book
pub record Taken {B I O : Type 0} (log_of : B → List I) (origin_of : B → O) (by : I → ℕ) (m n : Me (Option B) (View I O)) : Type 0 where
  pub log : List I
  pub slot : Option B
  pub now : n ≡ (taking log m.0, (0, slot) ∷ m.1)
  pub longer : Begins m.0.seen log
  pub first : m.0.fresh ≡ true → (slot ≡ None) × (log ≡ [])
  pub book : (origin : O) → m.0.origin ≡ Some origin → (book : B) × (slot ≡ Some book) × (log_of book ≡ log) × (origin_of book ≡ origin)
  pub own : (caller : ℕ) (mine : List I) → Has m.0.mine (caller, mine) → mine ≡ by_caller by caller log

module _ {B I O : Type 0} where
  abbrev pub Took : (B → List I) → (B → O) → (I → ℕ) → Me (Option B) (View I O) → ℕ → Me (Option B) (View I O) → Type 0
  Took log_of origin_of by m found n = (found ≡ 0 → Taken log_of origin_of by m n) × (found ≢ 0 → (n ≡ m) × (m.0.fresh ≢ true))

  abbrev pub Counts : (B → List I) → (I → ℕ) → Me (Option B) (View I O) → Me (Option B) (View I O) → Type 0
  Counts log_of by m n = n ≡ (counting by (held_log log_of m.1) m.0, m.1)

  abbrev pub Gives : (B → O) → Me (Option B) (View I O) → Me (Option B) (View I O) → Type 0
  Gives origin_of m n = n ≡ (giving (held_origin origin_of m.1) m.0, rest m.1)

  abbrev pub Looks : Me (Option B) (View I O) → ℕ → Me (Option B) (View I O) → Type 0
  Looks m found n = (m.0.known ≤ found) × (length m.0.seen ≤ found) × (n ≡ (looking found m.0, m.1))

  abbrev pub Recalls : Me (Option B) (View I O) → Me (Option B) (View I O) → Type 0
  Recalls m n =
      Begins m.0.seen (longer_of m.0.seen m.0.passed_on) × Begins m.0.passed_on (longer_of m.0.seen m.0.passed_on)
      × ((a b : O) → m.0.origin ≡ Some a → m.0.hint ≡ Some b → b ≡ a) × (n ≡ (recalling m.0, m.1))

  -- the seat has taken the book out of its slot
  abbrev pub HandsEmpty : Me (Option B) (View I O) → Type 0
  HandsEmpty m = m.1 ≡ (0, None) ∷ []
