-- CREATE USER, account by account.
use Rattle.std.specs.Prelude.{◌≡◌, false, true, not, List, [], ◌∷◌, IsTrue, filter, map}
use Rattle.std.specs.List.{list_any}
use Rattle.acl_names.specs.AuthId.{same_auth}
use Rattle.acl_names.specs.declared.auth.AuthId.{AuthId}
use Rattle.acl_names.specs.declared.policy.Verifier.{Verifier}
use Rattle.acl_model.specs.Accounts.{new_account, with_options, with_verifier}
use Rattle.acl_model.specs.Counts.{HasMoreThan}
use Rattle.acl_model.specs.Rows.{same_row}
use Rattle.acl_model.specs.State.{State, stands}
use Rattle.acl_model.specs.declared.account_data.AccountData.{AccountData}
use Rattle.acl_model.specs.declared.row.Row.{Row}
use Rattle.acl_model.specs.declared.row.Row.TheVariants.{Account}
use Rattle.row_tables.specs.Changes.{with_data, with_row}
use Rattle.acl_stmt.specs.declared.options.AccountOptions.{AccountOptions}

-- the data of an account that is created with options
abbrev pub created_data : AccountOptions → Verifier → AccountData
created_data options verifier = with_options options (with_verifier verifier new_account)

-- more accounts stand than may
abbrev pub IsCrowded : State → Type 0
IsCrowded state = HasMoreThan same_auth (λ a. IsTrue (stands state a)) 4096

-- the state with these accounts, each with its data; where one is named twice, the first counts
unfoldable pub with_accounts : List (AuthId × AccountData) → State → State
with_accounts [] state = state
with_accounts (account ∷ accounts) state = with_data account.0 account.1 (with_row (Account account.0) (with_accounts accounts state))

-- the accounts of CREATE USER that do not stand
abbrev pub new_accounts : State → AccountOptions → List (AuthId × Verifier) → List (AuthId × AccountData)
new_accounts state options accounts = map (λ pair. (pair.0, created_data options pair.1)) (filter (λ pair. not (stands state pair.0)) accounts)

-- the accounts as rows
abbrev pub account_rows : List (AuthId × AccountData) → List Row
account_rows accounts = map (λ pair. Account pair.0) accounts

-- some of these accounts have come, and nothing else has changed
pub record HasComePartly (back : List Row) (old new : State) : Type 0 where
  pub stays : (row : Row) → IsTrue (old.rows row) → IsTrue (new.rows row)
  pub stood : (row : Row) → IsTrue (new.rows row) → list_any (same_row row) back ≡ false → IsTrue (old.rows row)
  pub known : (a : AuthId) → list_any (same_row (Account a)) back ≡ false → new.account_data a ≡ old.account_data a
  pub names : new.mandatory ≡ old.mandatory
  pub active : new.activate_all ≡ old.activate_all
