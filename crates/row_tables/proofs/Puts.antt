-- A row that stands comes again.
use Rattle.std.proofs.Common.{◌≡◌, ◌∙◌, ap, sym, Bool, true, false, cond, not, ◌&&◌, ◌||◌, Some, refl}
use Rattle.std.proofs.Math.Bool.{or-false, or-true}
use Rattle.acl_names.specs.AuthId.{same_auth}
use Rattle.acl_names.specs.declared.auth.AuthId.{AuthId}
use Rattle.acl_model.proofs.SameRows.{equal_from_same_row}
use Rattle.acl_model.specs.Accounts.{new_account}
use Rattle.acl_model.specs.Rows.{same_row}
use Rattle.acl_model.specs.State.{State}
use Rattle.acl_model.specs.declared.row.Row.{Row}
use Rattle.acl_model.specs.declared.row.Row.TheVariants.{Account}
use Rattle.row_tables.specs.Changes.{data_with, with_row}
use Rattle.row_tables.proofs.States.{same_state}

pub row_again : (state : State) (added row : Row) → state.rows added ≡ true → (t : Bool) → same_row row added ≡ t → state.rows row ≡ (state.rows row || t)
row_again state added row stands false differ = sym (or-false (state.rows row))
row_again state added row stands true same =
    ap state.rows (equal_from_same_row row added same) ∙ stands ∙ sym (or-true (state.rows row))

standing_data : (state : State) (b a : AuthId) → state.rows (Account b) ≡ true → (t : Bool)
    → state.account_data a ≡ cond (t && not (state.rows (Account b))) (Some new_account) (state.account_data a)
standing_data state b a stands true = rw stands refl
standing_data state b a stands false = refl

data_again : (state : State) (added : Row) (a : AuthId) → state.rows added ≡ true → state.account_data a ≡ data_with added state a
data_again state (Account b) a stands = standing_data state b a stands (same_auth a b)
data_again state _ a stands = refl

-- a row that stands comes again
pub with_row-standing : (state : State) (added : Row) → state.rows added ≡ true → state ≡ with_row added state
unfolding with_row
with_row-standing state added stands = same_state _ _ (λ row. row_again state added row stands (same_row row added) refl) (λ a. data_again state added a stands) refl refl
