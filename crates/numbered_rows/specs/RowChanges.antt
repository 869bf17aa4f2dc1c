-- What each call makes of the state.
use Rattle.std.specs.Prelude.{◌&&◌, ◌||◌, not, [], ◌∷◌, Option, Some, None, if◌then◌else◌}
use Rattle.acl_names.specs.AuthId.{same_auth}
use Rattle.acl_names.specs.declared.auth.AuthId.{AuthId}
use Rattle.acl_model.specs.Accounts.{data_of_old, new_account}
use Rattle.acl_model.specs.Effects.{stood_before}
use Rattle.acl_model.specs.Renames.{name_before}
use Rattle.acl_model.specs.Rows.{same_row}
use Rattle.acl_model.specs.State.{State, stands}
use Rattle.acl_model.specs.declared.account_data.AccountData.{AccountData}
use Rattle.acl_model.specs.declared.row.Row.{Row}
use Rattle.acl_model.specs.declared.row.Row.TheVariants.{Account}
use Rattle.acl_stmt.specs.declared.statement.Statement.TheVariants.{RenameUser}

-- what is known of accounts with one row more: an account that comes has no password, is open and has no policy
abbrev pub data_with : Row → State → AuthId → Option AccountData
data_with (Account b) state a = if same_auth a b && not (stands state b) then Some new_account else state.account_data a
data_with _ state a = state.account_data a

-- the state with one row more
unfoldable pub with_row : Row → State → State
with_row added state = record {
  rows = λ row. state.rows row || same_row row added;
  account_data = data_with added state;
  mandatory = state.mandatory;
  activate_all = state.activate_all;
}

-- of an account that goes nothing is known
abbrev pub data_without : Row → State → AuthId → Option AccountData
data_without (Account b) state a = if same_auth a b then None else state.account_data a
data_without _ state a = state.account_data a

-- the state with one row less
unfoldable pub without_row : Row → State → State
without_row taken state = record {
  rows = λ row. state.rows row && not (same_row row taken);
  account_data = data_without taken state;
  mandatory = state.mandatory;
  activate_all = state.activate_all;
}

-- the state with other data of one account
unfoldable pub with_data : AuthId → AccountData → State → State
with_data account value state = record {
  rows = state.rows;
  account_data = λ a. if same_auth a account then Some value else state.account_data a;
  mandatory = state.mandatory;
  activate_all = state.activate_all;
}

-- the state with one account under another name, in each row that names it
unfoldable pub renamed : AuthId → AuthId → State → State
renamed old new state = record {
  rows = stood_before (RenameUser ((old, new) ∷ [])) state;
  account_data = λ a. data_of_old state (name_before ((old, new) ∷ []) a);
  mandatory = state.mandatory;
  activate_all = state.activate_all;
}
