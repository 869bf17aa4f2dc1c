-- The rule of the history, and what its step tells.
use Rattle.std.specs.Prelude.{ℕ, ◌≡◌, ◌==◌, true, List, [], ◌∷◌, ◌++◌, length, MatchBool}
use Rattle.logbook.specs.Pages.{Cell, Step, View, Book, Named}
use Rattle.published_copies.specs.declared.stage.Stage.{Stage}
use Rattle.published_copies.specs.Stages.{IsChain}

-- The first word is the number of publications, and each goes on from those before. A history has two words, of which this one leaves the second at 0
pub record IsKept {E : Type 0} (cells : List Cell) (log : List (Stage E)) : Type 0 where
  pub words : cells ≡ (length log, true) ∷ (0, true) ∷ []
  pub chain : IsChain log

abbrev pub head_of : Book → Named
head_of b = record { tracked = true; key = 0; book = b }

-- where the word was as expected, what was asked for stands behind all that had been seen
abbrev pub Adds : {E : Type 0} → Step (Stage E) → View (Stage E) ℕ → ℕ → View (Stage E) ℕ → Type 0
Adds s v found w = MatchBool (found == s.old) (w.0 ≡ v.0 ++ s.ask ∷ []) (Unit {0})
