-- The texts of an account's lines.
use Rattle.std.proofs.Common.{◌≡◌, false, ℕ, List, [], ◌∷◌, map, IsTrue}
use Rattle.std.specs.List.{AllByRecursion}
use Rattle.acl_names.specs.AuthId.{same_auth}
use Rattle.acl_names.specs.declared.auth.AuthId.{AuthId}
use Rattle.accepted_lists.specs.Sound.{IsSound}
use Rattle.acl_model.specs.Effects.{state_after}
use Rattle.acl_model.specs.Rows.{holder}
use Rattle.acl_model.specs.State.{State, stands}
use Rattle.acl_model.specs.declared.row.Row.{Row}
use Rattle.acl_stmt.specs.declared.entry.Entry.{Entry}
use Rattle.show_grants.specs.Lines.{shown}
use Rattle.show_grants.specs.Listing.{listing_of}
use Rattle.show_grants.specs.Rights.{held_by}
use Rattle.shown_laws.proofs.Shown.{acceptable_lines, legal_lines, same_rows_again}
use Rattle.shown_laws.specs.Again.{AreEntriesOf, AreLimitedAlone}
use Rattle.shown_laws.specs.Known.{Covers, MayTake, is_default}
use Rattle.shown_texts.proofs.LinesRead.{issued_lines, lines_read}
use Rattle.shown_texts.proofs.ShownNames.{lines_are, lines_keep, own_names}
use Rattle.shown_texts.specs.Lines.{line_text}
use Rattle.shown_texts.specs.Names.{NamesKeepRules}
use Rattle.shown_texts.specs.ReadLines.{AreIssued, IsReadAs}

module _ (there : State) (rows : List Row) (a : AuthId) (sound : IsSound there) (covers : Covers rows there a) (keep : NamesKeepRules there) (stood : IsTrue (stands there a)) where
  pub shown_read : AllByRecursion (λ s. IsReadAs (line_text s) s) (shown there rows (a ∷ []) a)
  shown_read =
      lines_read (shown there rows (a ∷ []) a) (legal_lines there rows a sound covers) (lines_are a (held_by there (a ∷ []) a) (listing_of rows))
      (lines_keep a (held_by there (a ∷ []) a) (listing_of rows) (own_names there a sound keep stood))

  entries_are : (most : ℕ) (lines : List Entry) → AreIssued most (map line_text (shown there rows (a ∷ []) a)) lines → AreEntriesOf (shown there rows (a ∷ []) a) lines
  entries_are most lines issued = issued_lines most (shown there rows (a ∷ []) a) lines shown_read issued

  pub texts_acceptable : (here : State) → MayTake there here a → (most : ℕ) (lines : List Entry) → AreIssued most (map line_text (shown there rows (a ∷ []) a)) lines → AreLimitedAlone lines here
  texts_acceptable here may most lines issued = acceptable_lines there rows a sound covers here may lines (entries_are most lines issued)

  pub same_rows_by_texts : (here : State) → MayTake there here a → (most : ℕ) (lines : List Entry) → AreIssued most (map line_text (shown there rows (a ∷ []) a)) lines
      → (row : Row) → IsTrue (same_auth (holder row) a) → is_default row ≡ false → (state_after lines here).rows row ≡ there.rows row
  same_rows_by_texts here may most lines issued = same_rows_again there rows a sound covers here may lines (entries_are most lines issued) stood
