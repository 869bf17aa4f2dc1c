-- When two states are one, and rows that are no accounts.
use Rattle.std.proofs.Common.{◌≡◌, ◌∙◌, ap, Bool, true, false, refl, sym}
use Rattle.std.proofs.lemmas.Bool.{true≢false}
use Rattle.acl_names.specs.AuthId.{same_auth}
use Rattle.acl_names.specs.declared.auth.AuthId.{AuthId}
use Rattle.acl_names.proofs.SameAuth.{equal_from_same_auth, same_auth_itself}
use Rattle.acl_model.specs.Rows.{same_row}
use Rattle.acl_model.specs.State.{State}
use Rattle.acl_model.specs.declared.row.Row.{Row}
use Rattle.acl_model.specs.declared.row.Row.TheVariants.{Account}
use Rattle.numbered_rows.specs.Conditions.{is_account}
use Rattle.numbered_rows.specs.Numbering.{holding_of, holds_some}
use Rattle.numbered_rows.specs.RowChanges.{data_with, data_without}
use Rattle.numbered_rows.specs.Tables.{Tables, has_row}

-- states that answer alike are one
pub same_state : (s t : State) → ((row : Row) → s.rows row ≡ t.rows row) → ((a : AuthId) → s.account_data a ≡ t.account_data a)
    → s.mandatory ≡ t.mandatory → s.activate_all ≡ t.activate_all → s ≡ t
same_state s t rows known names active = λ i. record {
  rows = λ row. rows row i;
  account_data = λ a. known a i;
  mandatory = names i;
  activate_all = active i;
}

-- any other row than an account stands where it is held
pub has_row-holding : (tables : Tables) (row : Row) → is_account row ≡ false → has_row tables row ≡ holds_some tables.holdings (holding_of tables.accounts.names row)
has_row-holding tables (Account a) other = cc
has_row-holding tables _ other = refl

-- no other row is an account
pub account_is_no_grant : (a : AuthId) (row : Row) → is_account row ≡ false → same_row (Account a) row ≡ false
account_is_no_grant a (Account b) other = cc
account_is_no_grant a _ other = refl

pub grant_is_no_account : (row : Row) (a : AuthId) → is_account row ≡ false → same_row row (Account a) ≡ false
grant_is_no_account (Account b) a other = cc
grant_is_no_account _ a other = refl

-- another row brings no data, and takes none
pub no_data_comes : (row : Row) (state : State) (a : AuthId) → is_account row ≡ false → data_with row state a ≡ state.account_data a
no_data_comes (Account b) state a other = cc
no_data_comes _ state a other = refl

pub no_data_goes : (row : Row) (state : State) (a : AuthId) → is_account row ≡ false → data_without row state a ≡ state.account_data a
no_data_goes (Account b) state a other = cc
no_data_goes _ state a other = refl

-- a law for account rows and one for the others is one for all
pub by_kind : (P : Row → Type 0) → ((a : AuthId) → P (Account a)) → ((row : Row) → is_account row ≡ false → P row) → (row : Row) → P row
by_kind P accounts others (Account a) = accounts a
by_kind P accounts others row = others row refl

both_ways_false : (a b : AuthId) → same_auth a b ≡ false → (t : Bool) → same_auth b a ≡ t → t ≡ false
both_ways_false a b differ false same = refl
both_ways_false a b differ true same =
    absurd (true≢false (sym (same_auth_itself a) ∙ ap (same_auth a) (sym (equal_from_same_auth b a same)) ∙ differ))

pub differ_back : (a b : AuthId) → same_auth a b ≡ false → same_auth b a ≡ false
differ_back a b differ = both_ways_false a b differ (same_auth b a) refl
