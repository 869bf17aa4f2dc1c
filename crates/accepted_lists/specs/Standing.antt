-- Which accounts stand where rows name them (MySQL 8.0 Reference Manual, "Grant Tables").
use Rattle.std.specs.Prelude.{◌≡◌, IsTrue, is_some}
use Rattle.acl_names.specs.AuthId.{same_auth}
use Rattle.acl_names.specs.declared.auth.AuthId.{AuthId}
use Rattle.acl_model.specs.Rows.{some_name}
use Rattle.acl_model.specs.State.{State, stands}
use Rattle.acl_model.specs.declared.row.Row.{Row}

-- each account that a row names stands, and password, lock and policy are known of just the accounts that stand
pub record HasItsAccounts (state : State) : Type 0 where
  pub named : (row : Row) (account : AuthId) → IsTrue (state.rows row) → IsTrue (some_name (same_auth account) row) → IsTrue (stands state account)
  pub known : (account : AuthId) → is_some (state.account_data account) ≡ stands state account
