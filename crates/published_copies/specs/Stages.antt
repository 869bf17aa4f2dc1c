-- Lists of entries that grow until they are ended, and histories of them.
use Rattle.std.specs.Prelude.{◌≡◌, ℕ, ◌-◌, ◌<◌, ◌≤◌, true, false, List, [], ◌∷◌, ◌++◌, length, slice_index_or}
use mathlib.Core.List.{IsPrefix}
use Rattle.published_copies.specs.declared.stage.Stage.{Stage}

module _ {E : Type 0} where
  abbrev pub nothing : Stage E
  nothing = record { entries = []; ended = false }

  abbrev pub with_entry : Stage E → E → Stage E
  with_entry s entry = record { entries = s.entries ++ entry ∷ []; ended = s.ended }

  abbrev pub with_end : Stage E → Stage E
  with_end s = record { entries = s.entries; ended = true }

  -- t has the entries of s, in their order, and maybe more behind them; behind an end there is nothing
  abbrev pub GoesOn : Stage E → Stage E → Type 0
  GoesOn s t = IsPrefix s.entries t.entries × (s.ended ≡ true → t ≡ s)

  abbrev pub stage_at : List (Stage E) → ℕ → Stage E
  stage_at log k = slice_index_or log k nothing

  -- what was published last, or nothing
  abbrev pub last_of : List (Stage E) → Stage E
  last_of log = stage_at log (length log - 1)

  -- each publication goes on from each earlier one
  abbrev pub IsChain : List (Stage E) → Type 0
  IsChain log = (i j : ℕ) → i ≤ j → j < length log → GoesOn (stage_at log i) (stage_at log j)
