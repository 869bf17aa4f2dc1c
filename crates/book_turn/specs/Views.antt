-- What a seat knows after each kind of step.
use Rattle.std.specs.Prelude.{ℕ, ◌+◌, max, true, false, List, [], ◌∷◌, ◌++◌, map, Option, Some, None, option_map, unwrap_or}
use Rattle.book_turn.specs.declared.view.View.{View}
use Rattle.book_turn.specs.Lists.{longer_of, by_caller}

-- what a seat holds: the log of its book, and the book's origin
abbrev pub log_in : {B I : Type 0} → (B → List I) → Option B → List I
log_in log_of None = []
log_in log_of (Some book) = log_of book

abbrev pub held_log : {B I : Type 0} → (B → List I) → List (ℕ × Option B) → List I
held_log log_of [] = []
held_log log_of (x ∷ xs) = log_in log_of x.1

abbrev pub origin_in : {B O : Type 0} → (B → O) → Option B → Option O
origin_in origin_of None = None
origin_in origin_of (Some book) = Some (origin_of book)

abbrev pub held_origin : {B O : Type 0} → (B → O) → List (ℕ × Option B) → Option O
held_origin origin_of [] = None
held_origin origin_of (x ∷ xs) = origin_in origin_of x.1

-- the second of two, if it is there, and else the first
abbrev pub drawn_by : Option ℕ → Option ℕ → Option ℕ
drawn_by first None = first
drawn_by first (Some n) = Some n

module _ {I O : Type 0} where
  -- the first seat, while the table has no book
  abbrev pub newest : View I O
  newest = record { seen = []; passed_on = []; known = 0; mine = (0, []) ∷ []; turn = false; fresh = true; drawn = Some 1; origin = None; hint = None }

  -- the seat that makes a new caller, and the new caller's
  abbrev pub numbering : View I O → View I O
  numbering v = record { seen = v.seen; passed_on = v.passed_on; known = v.known; mine = v.mine; turn = v.turn; fresh = v.fresh; drawn = option_map (λ n. n + 1) v.drawn; origin = v.origin; hint = v.hint }

  abbrev pub numbered : View I O → View I O
  numbered v = record { seen = v.seen; passed_on = []; known = v.known; mine = (unwrap_or v.drawn 0, []) ∷ []; turn = false; fresh = false; drawn = None; origin = v.origin; hint = None }

  -- what a note is given
  abbrev pub copied : View I O → View I O
  copied v = record { seen = v.seen; passed_on = []; known = v.known; mine = []; turn = false; fresh = false; drawn = None; origin = v.origin; hint = None }

  -- two seats made one
  abbrev pub joined : View I O → View I O → View I O
  joined v w = record { seen = v.seen; passed_on = w.seen; known = max v.known w.known; mine = v.mine ++ w.mine; turn = v.turn; fresh = v.fresh; drawn = drawn_by v.drawn w.drawn; origin = v.origin; hint = w.origin }

  abbrev pub spent : View I O
  spent = record { seen = []; passed_on = []; known = 0; mine = []; turn = false; fresh = false; drawn = None; origin = None; hint = None }

  abbrev pub recalling : View I O → View I O
  recalling v = record { seen = longer_of v.seen v.passed_on; passed_on = []; known = v.known; mine = v.mine; turn = v.turn; fresh = v.fresh; drawn = v.drawn; origin = v.origin; hint = None }

  abbrev pub looking : ℕ → View I O → View I O
  looking n v = record { seen = v.seen; passed_on = v.passed_on; known = n; mine = v.mine; turn = v.turn; fresh = v.fresh; drawn = v.drawn; origin = v.origin; hint = v.hint }

  abbrev pub taking : List I → View I O → View I O
  taking log v = record { seen = log; passed_on = v.passed_on; known = v.known; mine = v.mine; turn = true; fresh = v.fresh; drawn = v.drawn; origin = v.origin; hint = v.hint }

  -- the log has grown, and with it the items of the callers
  abbrev pub counting : (I → ℕ) → List I → View I O → View I O
  counting by log v = record { seen = log; passed_on = v.passed_on; known = v.known; mine = map (λ pair. (pair.0, by_caller by pair.0 log)) v.mine; turn = v.turn; fresh = v.fresh; drawn = v.drawn; origin = v.origin; hint = v.hint }

  abbrev pub giving : Option O → View I O → View I O
  giving origin v = record { seen = v.seen; passed_on = v.passed_on; known = v.known; mine = v.mine; turn = false; fresh = false; drawn = v.drawn; origin = origin; hint = v.hint }
