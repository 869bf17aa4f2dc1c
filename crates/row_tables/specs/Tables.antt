-- What the tables hold, and the state that they stand for.
use Rattle.std.specs.Prelude.{ℕ, Bool, List}
use Rattle.account_holdings.specs.Holdings.{Holdings}
use Rattle.acl_model.specs.declared.account_data.AccountData.{AccountData}
use Rattle.acl_names.specs.declared.auth.AuthId.{AuthId}
use Rattle.numbered_names.specs.Numbered.{Numbered}
pub use Rattle.numbered_rows.specs.Tables.{AreSound, Tables}
unfoldable pub use Rattle.numbered_rows.specs.Tables.{state_of}

-- the tables of these parts
abbrev pub tables_of : Numbered AuthId → List AccountData → ℕ → Holdings → List AuthId → Bool → Tables
tables_of accounts known room holdings mandatory activate_all = record {
  accounts = accounts;
  account_data = known;
  data_room = room;
  holdings = holdings;
  mandatory = mandatory;
  activate_all = activate_all;
}
