-- The calls of one caller.
use Rattle.std.specs.Prelude.{◌≡◌, ℕ, suc, ◌==◌, List, [], ◌∷◌, ◌++◌, length}
use Rattle.std.specs.List.{filter}
use Rattle.book_log.specs.Items.{Item}

-- the items of a caller's calls, in order
abbrev pub calls : ℕ → List Item → List Item
calls caller log = filter (λ item. item.caller == caller) log

-- each call has the number of those that its caller had made before
abbrev pub AreCounted : List Item → Type 0
AreCounted log = (before : List Item) (item : Item) (later : List Item) → log ≡ before ++ item ∷ later → item.number ≡ length (calls item.caller before)

-- the numbers go on from this one, without a gap
abbrev pub AreNumberedFrom : ℕ → List Item → Type 0
AreNumberedFrom first [] = Unit {0}
AreNumberedFrom first (item ∷ items) = (item.number ≡ first) × AreNumberedFrom (suc first) items
