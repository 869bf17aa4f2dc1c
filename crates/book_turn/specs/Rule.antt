-- The rule of the turn: there is one history, and each seat knows a beginning of it.
use Rattle.std.specs.Prelude.{◌≡◌, ◌≢◌, ℕ, ◌<◌, ◌≤◌, true, List, [], ◌∷◌, length, Option, Some, None}
use mathlib.Core.Option.{some}
use lib.ListN.{get_elem?}
use Rattle.atomic_table.specs.Table.{State}
use Rattle.book_turn.specs.declared.view.View.{View}
use Rattle.book_turn.specs.Lists.{Begins, Has, by_caller}

-- what no seat knows alone: the history, whether the turn is taken, the number of callers, the seat that makes callers, the seat with the turn,
-- the seat of each caller, and the book's origin, once there is a book
pub record Whole (I O : Type 0) : Type 0 where
  pub log : List I
  pub turn : ℕ
  pub callers : ℕ
  pub maker : ℕ
  pub holder : ℕ
  pub owner : ℕ → ℕ
  pub base : Option O

-- a seat's view fits: what it saw begins the history, and of the callers whose calls it makes it knows just their items
pub record Fits {I O : Type 0} (by : I → ℕ) (all : Whole I O) (seat : ℕ) (v : View I O) : Type 0 where
  pub begins : Begins v.seen all.log
  pub heard : Begins v.passed_on all.log
  pub bounded : v.known ≤ length all.log
  pub own : (caller : ℕ) (mine : List I) → Has v.mine (caller, mine) → (all.owner caller ≡ seat) × (caller < all.callers) × (mine ≡ by_caller by caller all.log)
  pub holds : v.turn ≡ true → (all.turn ≡ 1) × (seat ≡ all.holder) × (v.seen ≡ all.log)
  pub makes : (n : ℕ) → v.drawn ≡ Some n → (n ≡ all.callers) × (seat ≡ all.maker)
  pub starts : v.fresh ≡ true → (all.base ≡ None) × (seat ≡ 0)
  pub comes : (origin : O) → v.origin ≡ Some origin → all.base ≡ Some origin
  pub hinted : (origin : O) → v.hint ≡ Some origin → all.base ≡ Some origin

-- what the slot has while it is at home: nothing at first, and then the book with this log and origin
abbrev pub Shelved : {B I O : Type 0} → (B → List I) → (B → O) → Option O → List I → Option B → Type 0
Shelved log_of origin_of None log x = x ≡ None
Shelved {B} log_of origin_of (Some origin) log x = (book : B) × (x ≡ Some book) × (log_of book ≡ log) × (origin_of book ≡ origin)

abbrev pub HasPair : {I O : Type 0} → View I O → Type 0
HasPair {I} v = (caller : ℕ) × (mine : List I) × Has v.mine (caller, mine)

-- a seat has the turn
abbrev pub Held : {I O : Type 0} → List (View I O) → ℕ → Type 0
Held {I} {O} views seat = (v : View I O) × (get_elem? views seat ≡ some v) × (v.turn ≡ true) × HasPair v

pub record Kept {B I O : Type 0} (log_of : B → List I) (origin_of : B → O) (by : I → ℕ) (s : State (Option B) (View I O)) : Type 0 where
  pub all : Whole I O
  pub words : s.words ≡ all.turn ∷ length all.log ∷ []
  pub each : (seat : ℕ) (v : View I O) → get_elem? s.views seat ≡ some v → Fits by all seat v
  pub held : all.turn ≢ 0 → Held s.views all.holder
  pub home : all.turn ≡ 0 → (x : Option B) × (s.homes ≡ some x ∷ []) × Shelved log_of origin_of all.base all.log x
  pub later : (caller : ℕ) → all.callers ≤ caller → by_caller by caller all.log ≡ []
  pub empty : all.base ≡ None → (all.log ≡ []) × (all.holder ≡ 0)
