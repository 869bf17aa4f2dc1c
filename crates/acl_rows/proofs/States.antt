-- When two states are one.
use Rattle.std.proofs.Common.{◌≡◌, ◌∙◌, ap, Bool, true, false, List, refl}
use Rattle.std.specs.List.{list_any}
use Rattle.acl_names.specs.AuthId.{same_auth}
use Rattle.acl_names.specs.declared.auth.AuthId.{AuthId}
use Rattle.acl_names.proofs.SameAuth.{equal_from_same_auth, same_auth_itself}
use Rattle.acl_model.specs.Rows.{same_row}
use Rattle.acl_model.specs.State.{State}
use Rattle.acl_model.specs.declared.account_data.AccountData.{AccountData}
use Rattle.acl_model.specs.declared.row.Row.{Row}
use Rattle.acl_model.specs.declared.row.Row.TheVariants.{Account}
use Rattle.acl_rows.specs.Conditions.{is_account}
use Rattle.acl_rows.specs.Tables.{has_row}

-- states that answer alike are one
pub same_state : (s t : State) → ((row : Row) → s.rows row ≡ t.rows row) → ((a : AuthId) → s.account_data a ≡ t.account_data a)
    → s.mandatory ≡ t.mandatory → s.activate_all ≡ t.activate_all → s ≡ t
same_state s t rows known names active = λ i. record {
  rows = λ row. rows row i;
  account_data = λ a. known a i;
  mandatory = names i;
  activate_all = active i;
}

-- any other row than an account stands where it is listed
pub has_row-grant : (accounts : List (AuthId × AccountData)) (grants : List Row) (row : Row) → is_account row ≡ false
    → has_row accounts grants row ≡ list_any (same_row row) grants
has_row-grant accounts grants (Account a) other = cc
has_row-grant accounts grants _ other = refl

-- no other row is an account
pub account_is_no_grant : (a : AuthId) (row : Row) → is_account row ≡ false → same_row (Account a) row ≡ false
account_is_no_grant a (Account b) other = cc
account_is_no_grant a _ other = refl

both_ways_false : (a b : AuthId) → same_auth a b ≡ false → (t : Bool) → same_auth b a ≡ t → t ≡ false
both_ways_false a b differ false same = refl
both_ways_false a b differ true same =
    let equal : b ≡ a = equal_from_same_auth b a same in
    let itself : same_auth a a ≡ true = same_auth_itself a in
    let differs : same_auth a a ≡ false = rw equal at differ in
    cc

pub differ_back : (a b : AuthId) → same_auth a b ≡ false → same_auth b a ≡ false
differ_back a b differ = both_ways_false a b differ (same_auth b a) refl

-- whether two accounts are the same, asked the other way
pub same_auth_back : (a b : AuthId) (t : Bool) → same_auth a b ≡ t → same_auth b a ≡ t
same_auth_back a b true same = ap (λ (x : AuthId). same_auth b x) (equal_from_same_auth a b same) ∙ same_auth_itself b
same_auth_back a b false differ = differ_back a b differ

pub no_account : (row : Row) → ((a : AuthId) → row ≡ Account a → ⊥) → is_account row ≡ false
no_account (Account a) other = absurd (other a refl)
no_account _ other = refl
