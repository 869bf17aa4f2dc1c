-- What every seat of a caller keeps, and every note.
use Rattle.std.specs.Prelude.{◌≡◌, ℕ, true, false, List, [], ◌∷◌, length, Option, Some, None, is_some, if◌then◌else◌, ◌==◌}
use Rattle.atomic_table.specs.Table.{Me}
use Rattle.book_turn.specs.declared.view.View.{View}

abbrev pub first_mine : {I : Type 0} → List (ℕ × List I) → List I
first_mine [] = []
first_mine (pair ∷ pairs) = pair.1

-- it has no turn and holds nothing, and the book has come
abbrev pub IsIdle : {S I O : Type 0} → Me S (View I O) → Type 0
IsIdle m = (m.1 ≡ []) × (m.0.turn ≡ false) × (m.0.fresh ≡ false) × (is_some m.0.origin ≡ true)

-- it makes the calls of one caller, and this many were made
abbrev pub OwnsOne : {I O : Type 0} → View I O → ℕ → ℕ → Type 0
OwnsOne v caller made = (v.mine ≡ (caller, first_mine v.mine) ∷ []) × (made ≡ length (first_mine v.mine))

abbrev pub OwnsNone : {I O : Type 0} → View I O → Type 0
OwnsNone v = v.mine ≡ []

-- the caller with the number 0 makes the others
abbrev pub makes : ℕ → ℕ → Option ℕ
makes caller callers = if caller == 0 then Some callers else None
