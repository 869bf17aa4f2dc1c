-- Tables of numbered accounts, and the state that they stand for.
use Rattle.std.specs.Prelude.{◌≡◌, ◌==◌, ◌≤◌, length, ℕ, Bool, false, List, Option, None, IsTrue, is_some, if◌then◌else◌}
use Rattle.std.specs.List.{slice_index_or}
use Rattle.std.specs.Option.{option_map}
use Rattle.account_holdings.specs.Holdings.{Holdings, holds, names_number}
use Rattle.account_holdings.specs.declared.globals.GlobalKind.TheVariants.{Dynamic, Grantable}
use Rattle.account_holdings.specs.declared.holding.Holding.{Holding}
use Rattle.account_holdings.specs.declared.holding.Holding.TheVariants.{OnAll}
use Rattle.acl_model.specs.Accounts.{new_account}
use Rattle.acl_model.specs.State.{State}
use Rattle.acl_model.specs.declared.account_data.AccountData.{AccountData}
use Rattle.acl_model.specs.declared.row.Row.{Row}
use Rattle.acl_model.specs.declared.row.Row.TheVariants.{Account}
use Rattle.acl_names.specs.AuthId.{same_auth}
use Rattle.acl_names.specs.declared.auth.AuthId.{AuthId}
use Rattle.numbered_names.specs.Numbered.{HasEachOnce, Numbered, name_at}
use Rattle.numbered_rows.specs.Levels.{is_at_its_level}
use Rattle.numbered_rows.specs.Numbering.{holding_of, holds_some, number_of}

pub record Tables : Type 0 where
  -- the accounts that stand, each at its number
  pub accounts : Numbered AuthId
  -- what is known of the account of each number
  pub account_data : List AccountData
  -- how many accounts more fit beside it without memory
  pub data_room : ℕ
  -- what the accounts hold
  pub holdings : Holdings
  -- the value of mandatory_roles, in its order
  pub mandatory : List AuthId
  -- the value of activate_all_roles_on_login
  pub activate_all : Bool

abbrev pub known_at : List AccountData → ℕ → AccountData
known_at known number = slice_index_or known number new_account

-- whether a row stands: an account where it has a number, and every other row where it is held
abbrev pub has_row : Tables → Row → Bool
has_row tables (Account a) = is_some (number_of tables.accounts.names a)
has_row tables row = holds_some tables.holdings (holding_of tables.accounts.names row)

-- what is known of an account
abbrev pub data_of : Tables → AuthId → Option AccountData
data_of tables a = option_map (known_at tables.account_data) (number_of tables.accounts.names a)

-- the state that the tables stand for
unfoldable pub state_of : Tables → State
state_of tables = record {
  rows = has_row tables;
  account_data = data_of tables;
  mandatory = tables.mandatory;
  activate_all = tables.activate_all;
}

-- nobody holds anything that names the number
abbrev pub IsUnused : Holdings → ℕ → Type 0
IsUnused holdings number = (holding : Holding) → IsTrue (names_number number holding) → holds holdings holding ≡ false

-- what is known of one number is this, and the rest stays
abbrev pub ChangesDataOnly : List AccountData → List AccountData → ℕ → AccountData → Type 0
ChangesDataOnly old new number value = (other : ℕ) → known_at new other ≡ (if other == number then value else known_at old other)

-- whoever is named by what is held stands
abbrev pub IsNumberedWell : List (Option AuthId) → Holdings → Type 0
IsNumberedWell names holdings = (number : ℕ) → name_at names number ≡ None → IsUnused holdings number

-- who may grant a dynamic privilege holds it
abbrev pub HaveBasis : Holdings → Type 0
HaveBasis holdings =
    (number privilege : ℕ) → IsTrue (holds holdings (OnAll Grantable number privilege)) → IsTrue (holds holdings (OnAll Dynamic number privilege))

-- each privilege is held at a level that it has
abbrev pub HaveLevels : Holdings → Type 0
HaveLevels holdings = (holding : Holding) → IsTrue (holds holdings holding) → IsTrue (is_at_its_level holding)

-- tables in which names differ, each account has its data and its place among the holdings, whoever is named stands, who may
-- grant a privilege holds it, and privileges are held at their levels
pub record AreSound (tables : Tables) : Type 0 where
  pub once : HasEachOnce same_auth tables.accounts.names
  pub few : length tables.accounts.names ≤ 4096
  pub known : length tables.account_data ≡ length tables.accounts.names
  pub counted : length tables.holdings.globals ≡ length tables.accounts.names
  pub well : IsNumberedWell tables.accounts.names tables.holdings
  pub basis : HaveBasis tables.holdings
  pub levels : HaveLevels tables.holdings
