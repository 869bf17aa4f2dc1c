-- The rule of what is shown.
use Rattle.std.specs.Prelude.{◌≡◌, ℕ, List, Option, Some}
use mathlib.Core.Option.{some}
use lib.ListN.{get_elem?}
use Rattle.logbook.specs.Pages.{Book}
use Rattle.published_copies.specs.declared.copies.Content.{Content}
use Rattle.published_copies.specs.Stages.{last_of}

module _ {S E : Type 0} (content_of : S → Content E) where
  -- whose publication it is
  abbrev pub book_of : S → Book
  book_of x = (content_of x).mark.seen.book

  -- the value is the last publication of its mark
  abbrev pub IsTied : S → Type 0
  IsTied x = last_of (content_of x).mark.seen.log ≡ (content_of x).stage

  -- what is shown is tied to its mark, and each seat that saw something saw it of the same publisher
  pub record IsShared (x : S) (views : List (Option S)) : Type 0 where
    pub tied : IsTied x
    pub same : (seat : ℕ) (y : S) → get_elem? views seat ≡ some (Some y) → book_of y ≡ book_of x

  -- the value now was seen, by a seat that had seen values of the same publisher
  abbrev pub Saw : Option S → S → Option S → Type 0
  Saw before now after = (after ≡ Some now) × IsTied now × ((y : S) → before ≡ Some y → book_of y ≡ book_of now)

  -- a value of this publisher was seen
  abbrev pub KnowsBook : Option S → Book → Type 0
  KnowsBook seat book = (y : S) × (seat ≡ Some y) × (book_of y ≡ book)
