-- Many rows less and many rows more, and when a list of rows may go or come.
use Rattle.std.specs.Prelude.{◌&&◌, ◌||◌, not, IsTrue, List, None, if◌then◌else◌, ℕ}
use Rattle.std.specs.List.{list_any}
use Rattle.acl_names.specs.AuthId.{same_auth}
use Rattle.acl_names.specs.declared.auth.AuthId.{AuthId}
use Rattle.acl_model.specs.Rows.{same_row, some_name}
use Rattle.acl_model.specs.State.{State}
use Rattle.acl_model.specs.declared.row.Row.{Row}
use Rattle.acl_model.specs.declared.row.Row.TheVariants.{Account, Dynamic, DynamicGrant, Edge, Admin}
use Rattle.row_tables.specs.Conditions.{has_its_level, names_stand}

-- the state without the rows of a list; of the accounts that go nothing is known
unfoldable pub without_rows : List Row → State → State
without_rows gone state = record {
  rows = λ row. state.rows row && not (list_any (same_row row) gone);
  account_data = λ a. if list_any (same_row (Account a)) gone then None else state.account_data a;
  mandatory = state.mandatory;
  activate_all = state.activate_all;
}

-- the state with the rows of a list, none of which is an account
unfoldable pub with_rows : List Row → State → State
with_rows come state = record {
  rows = λ row. state.rows row || list_any (same_row row) come;
  account_data = state.account_data;
  mandatory = state.mandatory;
  activate_all = state.activate_all;
}

-- with each row that goes, what stands on it goes
pub record IsClosed (state : State) (gone : List Row) : Type 0 where
  pub of_dynamic : (a : AuthId) (d : ℕ) → IsTrue (list_any (same_row (Dynamic a d)) gone) → IsTrue (state.rows (DynamicGrant a d)) → IsTrue (list_any (same_row (DynamicGrant a d)) gone)
  pub of_edge : (role to : AuthId) → IsTrue (list_any (same_row (Edge role to)) gone) → IsTrue (state.rows (Admin role to)) → IsTrue (list_any (same_row (Admin role to)) gone)
  pub of_account : (a : AuthId) (row : Row) → IsTrue (list_any (same_row (Account a)) gone) → IsTrue (state.rows row) → IsTrue (some_name (same_auth a) row) → IsTrue (list_any (same_row row) gone)

-- what a row stands on is there, or comes with it
abbrev pub HasBasis : State → List Row → Row → Type 0
HasBasis state come (Account a) = ⊥
HasBasis state come (Edge role to) = ⊥
HasBasis state come (Admin role to) = ⊥
HasBasis state come (DynamicGrant a d) = IsTrue (state.rows (Dynamic a d) || list_any (same_row (Dynamic a d)) come)
HasBasis state come _ = Unit {0}

-- a row may come with these
pub record IsReadyAmong (state : State) (come : List Row) (row : Row) : Type 0 where
  pub names : IsTrue (names_stand state row)
  pub level : IsTrue (has_its_level row)
  pub basis : HasBasis state come row
