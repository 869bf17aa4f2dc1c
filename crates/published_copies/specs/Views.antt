-- What fronts, views and publishers are seen as.
use Rattle.std.specs.Prelude.{◌≡◌, ℕ, ◌≤◌, Bool, not, false, List, ◌∷◌, ◌++◌, length, fold, Option, Some, None, All}
use Rattle.std.specs.List.{count_by}
use Rattle.logbook.specs.Pages.{Book, Named}
use Rattle.published_copies.specs.declared.stage.Stage.{Stage}
use Rattle.published_copies.specs.declared.stage.Notice.{Notice}
use Rattle.published_copies.specs.declared.copies.Content.{Content}
use Rattle.published_copies.specs.declared.copies.Operation.{Operation}
use Rattle.published_copies.specs.declared.history.Mark.{Mark}
use Rattle.published_copies.specs.Stages.{nothing, GoesOn, last_of}
use Rattle.published_copies.specs.History.{head_of}
use Rattle.published_copies.specs.Contents.{applied}
use Rattle.published_copies.specs.Copies.{book_of, IsTied, KnowsBook}

-- the publisher, and the list that was published when the front was given
pub record Token (E : Type 0) : Type 0 where
  pub book : Book
  pub stage : Stage E

-- the publisher, and what was read and told, the newest first
pub record Watch (E : Type 0) : Type 0 where
  pub book : Book
  pub heard : List (Notice E)

-- which publisher it is, what it shows, and what was handed over to it
pub record Standing (E : Type 0) : Type 0 where
  pub book : Book
  pub published : Stage E
  pub handed : Stage E

-- what a publisher stands at, which is away in a publication alone
abbrev pub standing_in : {E : Type 0} → Option (Standing E) → Standing E
standing_in (Some standing) = standing
standing_in None = record { book = record { number = 0; log_name = 0; cells_name = 0 }; published = nothing; handed = nothing }

module _ {E : Type 0} where
  -- the list goes on from each that was heard
  abbrev pub AllBefore : List (Notice E) → Stage E → Type 0
  AllBefore heard s = All (λ notice. GoesOn notice.stage s) heard

  abbrev pub was_read : Notice E → Bool
  was_read notice = not notice.told

  -- how many reads were answered
  abbrev pub reads : List (Notice E) → ℕ
  reads heard = count_by was_read heard

  abbrev pub read_of : Stage E → Notice E
  read_of s = record { stage = s; told = false }

  -- what was read last has n entries
  abbrev pub HasJustRead : Watch E → ℕ → Type 0
  HasJustRead watch n = (s : Stage E) × (before : List (Notice E)) × (watch.heard ≡ read_of s ∷ before) × (n ≡ length s.entries)

  -- the same view, which has heard more
  abbrev pub HasHeardMore : Watch E → Watch E → Type 0
  HasHeardMore old new = (new.book ≡ old.book) × ((more : List (Notice E)) × (new.heard ≡ more ++ old.heard))

module _ {S E : Type 0} (content_of : S → Content E) where
  -- what both copies come to once all that is pending is done
  abbrev pub content_after : S → List (Operation E) → Content E
  content_after shown pending = fold applied (content_of shown) pending

  abbrev pub handed : S → List (Operation E) → Stage E
  handed shown pending = (content_after shown pending).stage

  -- what is pending ends with the mark of what it comes to
  abbrev pub IsReady : S → List (Operation E) → Type 0
  IsReady shown pending = (last_of (content_after shown pending).mark.seen.log ≡ handed shown pending) × ((content_after shown pending).mark.seen.book ≡ book_of content_of shown)

  -- the word and the seat are of the mark's history, and what was handed over goes on from what the history has
  pub record IsStanding (shown : S) (pending : List (Operation E)) (seat : Option S) (head : Named) (mark : Mark E) : Type 0 where
    pub own : head ≡ head_of mark.seen.book
    pub same : book_of content_of shown ≡ mark.seen.book
    pub knows : KnowsBook content_of seat mark.seen.book
    pub on : GoesOn (last_of mark.seen.log) (handed shown pending)

module _ {S E T : Type 0} (content_of : S → Content E) (Returns : S → T → Type 0) (turn : ℕ) (before after : Option S) where
  -- A value with so many publications was seen, of the publisher that was known, and this came of it, with its mark
  pub record Answered (answer : T) (mark : Mark E) : Type 0 where
    pub shown : S
    pub sits : after ≡ Some shown
    pub tied : IsTied content_of shown
    pub late : turn ≤ (content_of shown).mark.turn
    pub same : (book : Book) → KnowsBook content_of before book → book_of content_of shown ≡ book
    pub marked : mark ≡ (content_of shown).mark
    pub returned : Returns shown answer

module _ {S E : Type 0} (content_of : S → Content E) where
  -- whatever publisher was known is known still
  abbrev pub KnowsStill : Option S → Option S → Type 0
  KnowsStill before after = (book : Book) → KnowsBook content_of before book → KnowsBook content_of after book
