-- What stands at a moment, and what stands before the first statement (MySQL 8.0 Reference Manual, "Grant Tables",
-- "Securing the Initial MySQL Account"; the account that is there at first is this product's own choice).
use Rattle.std.specs.Prelude.{Bool, false, ◌&&◌, nat_lt, List, [], ◌∷◌, Option, Some, None, if◌then◌else◌, codes}
use Rattle.acl_names.specs.AuthId.{same_auth}
use Rattle.acl_names.specs.declared.auth.AuthId.{AuthId}
use Rattle.acl_names.specs.declared.policy.LockTime.TheVariants.{Days}
use Rattle.acl_names.specs.declared.policy.Policy.{Policy}
use Rattle.acl_names.specs.Verifiers.{empty_verifier}
use Rattle.acl_model.specs.Rows.{lists}
use Rattle.acl_model.specs.declared.account_data.AccountData.{AccountData}
use Rattle.acl_model.specs.declared.row.Row.{Row}
use Rattle.acl_model.specs.declared.row.Row.TheVariants.{Account, Global, Dynamic, DynamicGrant}

pub record State : Type 0 where
  -- whether a row stands
  pub rows : Row → Bool
  -- password, lock and policy of each account that stands
  pub account_data : AuthId → Option AccountData
  -- the value of mandatory_roles, in its order
  pub mandatory : List AuthId
  -- the value of activate_all_roles_on_login
  pub activate_all : Bool

-- whether an account stands
abbrev pub stands : State → AuthId → Bool
stands state account = state.rows (Account account)

abbrev pub is_mandatory : State → AuthId → Bool
is_mandatory state role = lists state.mandatory role

-- wrong passwords are not counted
abbrev pub no_policy : Policy
no_policy = record { attempts = 0; days = Days 0 }

abbrev pub root : AuthId
root = record { user = codes "root"; host = codes "localhost" }

-- root holds each privilege on `*.*`, and may grant each
abbrev pub opening_rows : Row → Bool
opening_rows (Account a) = same_auth a root
opening_rows (Global a p) = same_auth a root && nat_lt p 31
opening_rows (Dynamic a d) = same_auth a root && nat_lt d 20
opening_rows (DynamicGrant a d) = same_auth a root && nat_lt d 20
opening_rows _ = false

-- the state before the first statement
abbrev pub opening : State
opening = record {
  rows = opening_rows;
  account_data = λ a. if same_auth a root then Some (record { verifier = empty_verifier; locked = false; policy = no_policy }) else None;
  mandatory = [];
  activate_all = false;
}
