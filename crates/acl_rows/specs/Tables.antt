-- What the tables hold, and the state that they stand for.
use Rattle.std.specs.Prelude.{Bool, List, Option, map}
use Rattle.std.specs.List.{find, list_any}
use Rattle.std.specs.Option.{option_map}
use Rattle.acl_names.specs.AuthId.{same_auth}
use Rattle.acl_names.specs.declared.auth.AuthId.{AuthId}
use Rattle.acl_model.specs.Rows.{same_row}
use Rattle.acl_model.specs.State.{State}
use Rattle.acl_model.specs.declared.account_data.AccountData.{AccountData}
use Rattle.acl_model.specs.declared.row.Row.{Row}
use Rattle.acl_model.specs.declared.row.Row.TheVariants.{Account}

pub record Tables : Type 0 where
  -- the accounts that stand, each with what is known of it
  pub accounts : List (AuthId × AccountData)
  -- the rows that stand, but for those of the kind Account
  pub grants : List Row
  -- the value of mandatory_roles, in its order
  pub mandatory : List AuthId
  -- the value of activate_all_roles_on_login
  pub activate_all : Bool

abbrev pub has_account : List (AuthId × AccountData) → AuthId → Bool
has_account accounts a = list_any (λ pair. same_auth a pair.0) accounts

abbrev pub data_of : List (AuthId × AccountData) → AuthId → Option AccountData
data_of accounts a = option_map (λ pair. pair.1) (find (λ pair. same_auth a pair.0) accounts)

-- the names of the accounts
abbrev pub names_of : List (AuthId × AccountData) → List AuthId
names_of accounts = map (λ pair. pair.0) accounts

-- whether a row stands: an account where it is listed, and every other row where it is one of the others
abbrev pub has_row : List (AuthId × AccountData) → List Row → Row → Bool
has_row accounts grants (Account a) = has_account accounts a
has_row accounts grants row = list_any (same_row row) grants

-- the state that the tables stand for
unfoldable pub state_of : Tables → State
state_of tables = record {
  rows = has_row tables.accounts tables.grants;
  account_data = data_of tables.accounts;
  mandatory = tables.mandatory;
  activate_all = tables.activate_all;
}
