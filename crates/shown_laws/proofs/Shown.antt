-- What is printed of an account gives it the same rows again.
use Rattle.std.proofs.Common.{◌≡◌, ◌∙◌, ap, sym, refl, ℕ, ◌<◌, ◌^◌, true, false, List, [], ◌∷◌, length, filter, IsTrue, arith}
use Rattle.std.proofs.lemmas.Bool.{or_left}
use Rattle.std.specs.List.{flat_map, list_all}
use Rattle.acl_names.proofs.SameAuth.{equal_from_same_auth, equal_from_text_eq, same_auth_itself, text_eq_itself}
use Rattle.acl_names.specs.AuthId.{same_auth}
use Rattle.acl_names.specs.Text.{text_eq}
use Rattle.acl_names.specs.declared.auth.AuthId.{AuthId}
use Rattle.accepted_lists.proofs.Columns.{few_columns}
use Rattle.accepted_lists.proofs.Within.{few_objects, within_history}
use Rattle.accepted_lists.specs.Accepted.{AreAccepted}
use Rattle.accepted_lists.specs.Listed.{ListsRows}
use Rattle.accepted_lists.specs.Sound.{IsSound}
use Rattle.acl_model.specs.Counts.{HasMoreThan, IsObjectInUse}
use Rattle.acl_model.specs.Effects.{state_after}
use Rattle.acl_model.specs.Rows.{holder, same_row}
use Rattle.acl_model.specs.State.{State, opening, stands}
use Rattle.acl_model.specs.declared.row.Row.{Row}
use Rattle.acl_model.specs.declared.row.Row.TheVariants.{Account, Column, Edge}
use Rattle.acl_stmt.specs.Entries.{is_entry}
use Rattle.acl_stmt.specs.declared.entry.Entry.{Entry}
use Rattle.show_grants.specs.Carried.{carried}
use Rattle.show_grants.specs.Keys.{text_less}
use Rattle.show_grants.specs.Lines.{shown}
use Rattle.show_grants.specs.Listing.{column_at, listing_of}
use Rattle.show_grants.specs.Rights.{Held, held_by}
use Rattle.shown_laws.proofs.Entries.{carried_entries, entries_limited}
use Rattle.shown_laws.proofs.Holders.{at_holder}
use Rattle.shown_laws.proofs.InOrder.{in_order_differ}
use Rattle.shown_laws.proofs.Legal.{all_legal}
use Rattle.shown_laws.proofs.Own.{own_listed, own_orderly, own_rows}
use Rattle.shown_laws.proofs.Passing.{IsReady, all_feasible}
use Rattle.shown_laws.specs.Again.{AreEntriesOf, AreLimitedAlone}
use Rattle.shown_laws.specs.Known.{Covers, MayTake, is_default}

module _ (there : State) (rows : List Row) (a : AuthId) (sound : IsSound there) (covers : Covers rows there a) where
  abbrev held : Held
  held = held_by there (a ∷ []) a

  pub legal_lines : list_all (is_entry []) (shown there rows (a ∷ []) a) ≡ true
  legal_lines = all_legal a held (listing_of rows) (own_orderly there a sound)

  ready_for : (here : State) → MayTake there here a → IsReady a held here
  ready_for here may = record {
    holder_stands = may.bare.account_stands;
    roles_stand = may.roles;
    no_holder = λ h. may.bare.unnamed (Edge a h) (or_left (same_auth a a) (same_auth a h) (same_auth_itself a)) refl;
  }

  pub acceptable_lines : (here : State) → MayTake there here a → (lines : List Entry) → AreEntriesOf (shown there rows (a ∷ []) a) lines → AreLimitedAlone lines here
  acceptable_lines here may lines are =
      entries_limited (shown there rows (a ∷ []) a) lines here are
      ((all_feasible a held (listing_of rows) (own_orderly there a sound) (own_listed there a sound rows covers)).feasible here (ready_for here may))

  after_lines : (here : State) → MayTake there here a → IsTrue (stands there a) → (row : Row) → same_auth (holder row) a ≡ true → is_default row ≡ false
      → (carried (shown there rows (a ∷ []) a) here).rows row ≡ there.rows row
  after_lines here may stood (Account x) same other =
      at_holder a held (listing_of rows) (own_orderly there a sound) (own_listed there a sound rows covers) here may.bare (Account x) same other
      ∙ sym (ap (λ (y : AuthId). there.rows (Account y)) (equal_from_same_auth x a same) ∙ stood)
  after_lines here may stood row same other =
      at_holder a held (listing_of rows) (own_orderly there a sound) (own_listed there a sound rows covers) here may.bare row same other
      ∙ own_rows there a sound row same other refl

  pub same_rows_again : (here : State) → MayTake there here a → (lines : List Entry) → AreEntriesOf (shown there rows (a ∷ []) a) lines → IsTrue (stands there a)
      → (row : Row) → IsTrue (same_auth (holder row) a) → is_default row ≡ false → (state_after lines here).rows row ≡ there.rows row
  same_rows_again here may lines are stood row same other =
      ap (λ (s : State). s.rows row) (carried_entries (shown there rows (a ∷ []) a) lines here are) ∙ after_lines here may stood row same other

-- the rows of a history are covered by a list of them
few_in : (rows : List Row) (state : State) (a : AuthId) → ListsRows rows state → (HasMoreThan same_row (IsObjectInUse state) 65536 → ⊥) → (s t : List ℕ) (p : ℕ)
    → length (filter (λ c. state.rows (Column a s t c p)) (listing_of rows).columns) < 2 ^ 32
few_in rows state a listed few s t p =
    let most = few_columns rows state listed a s t p few (listing_of rows).columns (in_order_differ text_less text_eq equal_from_text_eq text_eq_itself (flat_map column_at rows)) in
    omega arith

pub covers_of : (rows : List Row) (state : State) (a : AuthId) → ListsRows rows state → (HasMoreThan same_row (IsObjectInUse state) 65536 → ⊥) → Covers rows state a
covers_of rows state a listed few = record {
  each = λ row other same is. listed.just row other ∙ is;
  few = few_in rows state a listed few;
}

pub history_covers : (history : List Entry) (rows : List Row) (a : AuthId) → AreAccepted history opening → ListsRows rows (state_after history opening)
    → Covers rows (state_after history opening) a
history_covers history rows a accepted listed =
    covers_of rows (state_after history opening) a listed (few_objects (state_after history opening) (within_history history accepted))
