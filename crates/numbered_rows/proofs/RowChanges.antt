-- A holding more or less is a row more or less.
use Rattle.std.proofs.Common.{◌≡◌, ◌∙◌, ap, Bool, true, false, not, ◌&&◌, ◌||◌, Option, Some, None, refl, sym}
use Rattle.std.proofs.Math.Bool.{and-true, or-false}
use Rattle.account_holdings.specs.Holdings.{Holdings, HoldAlike, IsWith, IsWithout}
use Rattle.account_holdings.specs.declared.holding.Holding.{Holding}
use Rattle.acl_model.proofs.SameRows.{equal_from_same_row}
use Rattle.acl_model.specs.Rows.{same_row}
use Rattle.acl_model.specs.declared.row.Row.{Row}
use Rattle.acl_model.specs.declared.row.Row.TheVariants.{Account}
use Rattle.numbered_rows.specs.Conditions.{is_account}
use Rattle.numbered_rows.specs.Numbering.{holding_of, holds_some}
use Rattle.numbered_rows.specs.RowChanges.{with_row, without_row}
use Rattle.numbered_rows.specs.Tables.{Tables, has_row, state_of}
use Rattle.numbered_rows.proofs.Matching.{same_by_holding, same_some}
use Rattle.numbered_rows.proofs.States.{account_is_no_grant, by_kind, has_row-holding, no_data_comes, no_data_goes, same_state}

-- whose holding is known is no account
no_account : (tables : Tables) (row : Row) (h : Holding) → holding_of tables.accounts.names row ≡ Some h → is_account row ≡ false
no_account tables row h is = by (is_account row) refl row is refl
  where
    by : (t : Bool) → is_account row ≡ t → (r : Row) → holding_of tables.accounts.names r ≡ Some h → is_account row ≡ is_account r → t ≡ false
    by false known r is same = refl
    by true known (Account a) is same = cc
    by true known _ is same = sym known ∙ same

module _ (old : Tables) (holdings : Holdings) (changed : Row) (h : Holding) (is : holding_of old.accounts.names changed ≡ Some h) where
  abbrev new : Tables
  new = record old { holdings = holdings }

  come_some : (o : Option Holding) → IsWith old.holdings holdings h → holds_some holdings o ≡ (holds_some old.holdings o || same_some o h)
  come_some None comes = refl
  come_some (Some g) comes = comes g

  go_some : (o : Option Holding) → IsWithout old.holdings holdings h → holds_some holdings o ≡ (holds_some old.holdings o && not (same_some o h))
  go_some None goes = refl
  go_some (Some g) goes = goes g

  -- a row comes
  pub row_comes : IsWith old.holdings holdings h → state_of new ≡ with_row changed (state_of old)
  unfolding state_of with_row
  row_comes comes =
      let other : is_account changed ≡ false = no_account old changed h is in
      same_state _ _
      (by_kind (λ row. has_row new row ≡ (has_row old row || same_row row changed))
      (λ a. sym (ap (λ t. has_row old (Account a) || t) (account_is_no_grant a changed other) ∙ or-false (has_row old (Account a))))
      (λ row plain. has_row-holding new row plain ∙ come_some (holding_of old.accounts.names row) comes
      ∙ ap (λ t. t || same_some (holding_of old.accounts.names row) h) (sym (has_row-holding old row plain))
      ∙ ap (λ t. has_row old row || t) (sym (same_by_holding old.accounts.names row changed h is))))
      (λ a. sym (no_data_comes changed (state_of old) a other)) refl refl

  -- a row goes
  pub row_goes : IsWithout old.holdings holdings h → state_of new ≡ without_row changed (state_of old)
  unfolding state_of without_row
  row_goes goes =
      let other : is_account changed ≡ false = no_account old changed h is in
      same_state _ _
      (by_kind (λ row. has_row new row ≡ (has_row old row && not (same_row row changed)))
      (λ a. sym (ap (λ t. has_row old (Account a) && not t) (account_is_no_grant a changed other) ∙ and-true (has_row old (Account a))))
      (λ row plain. has_row-holding new row plain ∙ go_some (holding_of old.accounts.names row) goes
      ∙ ap (λ t. t && not (same_some (holding_of old.accounts.names row) h)) (sym (has_row-holding old row plain))
      ∙ ap (λ t. has_row old row && not t) (sym (same_by_holding old.accounts.names row changed h is))))
      (λ a. sym (no_data_goes changed (state_of old) a other)) refl refl

-- a row of accounts that have no numbers does not stand, and going changes nothing
pub none_goes : (old : Tables) (changed : Row) → is_account changed ≡ false → holding_of old.accounts.names changed ≡ None → state_of old ≡ without_row changed (state_of old)
unfolding state_of without_row
none_goes old changed other none =
    same_state _ _ (λ row. stays row (same_row row changed) refl) (λ a. sym (no_data_goes changed (state_of old) a other)) refl refl
  where
    stays : (row : Row) (t : Bool) → same_row row changed ≡ t → has_row old row ≡ (has_row old row && not t)
    stays row false differs = sym (and-true (has_row old row))
    stays row true same =
        ap (has_row old) (equal_from_same_row row changed same) ∙ has_row-holding old changed other ∙ ap (holds_some old.holdings) none
        ∙ sym (never (has_row old row))
      where
        never : (t : Bool) → (t && false) ≡ false
        never true = refl
        never false = refl

-- the same holdings are the same state
pub alike_state : (old : Tables) (holdings : Holdings) → HoldAlike old.holdings holdings → state_of (record old { holdings = holdings }) ≡ state_of old
unfolding state_of
alike_state old holdings alike =
    same_state _ _ (by_kind (λ row. has_row (record old { holdings = holdings }) row ≡ has_row old row) (λ a. refl)
    (λ row plain. has_row-holding (record old { holdings = holdings }) row plain ∙ alike_some (holding_of old.accounts.names row) ∙ sym (has_row-holding old row plain)))
    (λ a. refl) refl refl
  where
    alike_some : (o : Option Holding) → holds_some holdings o ≡ holds_some old.holdings o
    alike_some None = refl
    alike_some (Some h) = alike h
