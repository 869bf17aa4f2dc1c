-- Password, lock and policy of an account after a statement (MySQL 8.0 Reference Manual, "CREATE USER Statement", "ALTER USER
-- Statement", "CREATE ROLE Statement", "SET PASSWORD Statement").
use Rattle.std.specs.Prelude.{Bool, true, false, ◌&&◌, not, List, [], ◌∷◌, Option, Some, None, if◌then◌else◌}
use Rattle.std.specs.Option.{option_map}
use Rattle.acl_names.specs.AuthId.{same_auth}
use Rattle.acl_names.specs.Verifiers.{empty_verifier}
use Rattle.acl_names.specs.declared.auth.AuthId.{AuthId}
use Rattle.acl_names.specs.declared.policy.Verifier.{Verifier}
use Rattle.acl_model.specs.Renames.{name_before}
use Rattle.acl_model.specs.Rows.{lists}
use Rattle.acl_model.specs.State.{State, no_policy, stands}
use Rattle.acl_model.specs.declared.account_data.AccountData.{AccountData}
use Rattle.acl_stmt.specs.declared.options.AccountOptions.{AccountOptions}
use Rattle.acl_stmt.specs.declared.statement.Statement.{Statement}
use Rattle.acl_stmt.specs.declared.statement.Statement.TheVariants.{CreateUser, AlterUser, DropUser, RenameUser, CreateRole, DropRole, SetPassword}

abbrev pub or_else : {A : Type 0} → Option A → A → A
or_else None otherwise = otherwise
or_else (Some value) otherwise = value

-- the options that are given, and the rest as it was
abbrev pub with_options : AccountOptions → AccountData → AccountData
with_options options before = record {
  verifier = before.verifier;
  locked = or_else options.locked before.locked;
  policy = record { attempts = or_else options.attempts before.policy.attempts; days = or_else options.days before.policy.days };
}

abbrev pub with_verifier : Verifier → AccountData → AccountData
with_verifier verifier before = record { verifier = verifier; locked = before.locked; policy = before.policy }

-- an account with the empty password, open, without a policy
abbrev pub new_account : AccountData
new_account = record { verifier = empty_verifier; locked = false; policy = no_policy }

-- CREATE USER: the first naming of the account counts
abbrev pub first_verifier : AuthId → List (AuthId × Verifier) → Option Verifier
first_verifier a [] = None
first_verifier a (pair ∷ pairs) = if same_auth a pair.0 then Some pair.1 else first_verifier a pairs

-- ALTER USER: the last password that is given for the account counts
abbrev pub last_verifier : AuthId → List (AuthId × Option Verifier) → Verifier → Verifier
last_verifier a [] before = before
last_verifier a (pair ∷ pairs) before = last_verifier a pairs (if same_auth a pair.0 then or_else pair.1 before else before)

abbrev pub is_altered : AuthId → List (AuthId × Option Verifier) → Bool
is_altered a [] = false
is_altered a (pair ∷ pairs) = if same_auth a pair.0 then true else is_altered a pairs

-- an account that stands is passed over
abbrev pub created : AccountOptions → Option Verifier → Bool → Option AccountData → Option AccountData
created options None stood before = before
created options (Some verifier) true before = before
created options (Some verifier) false before = Some (with_options options (with_verifier verifier new_account))

abbrev pub data_of_old : State → Option AuthId → Option AccountData
data_of_old before None = None
data_of_old before (Some old) = before.account_data old

-- what is known of an account after the statement
abbrev pub data_after : Statement → State → AuthId → Option AccountData
data_after (CreateUser if_not_exists accounts options) before a =
    created options (first_verifier a accounts) (stands before a) (before.account_data a)
data_after (CreateRole if_not_exists roles) before a =
    if lists roles a && not (stands before a) then Some (record { verifier = empty_verifier; locked = true; policy = no_policy }) else before.account_data a
data_after (AlterUser accounts options) before a =
    if is_altered a accounts
    then option_map (λ old. with_options options (with_verifier (last_verifier a accounts old.verifier) old)) (before.account_data a)
    else before.account_data a
data_after (DropUser if_exists accounts) before a = if lists accounts a then None else before.account_data a
data_after (DropRole if_exists roles) before a = if lists roles a then None else before.account_data a
data_after (RenameUser pairs) before a = data_of_old before (name_before pairs a)
data_after (SetPassword (Some account) verifier) before a =
    if same_auth a account then option_map (with_verifier verifier) (before.account_data a) else before.account_data a
data_after _ before a = before.account_data a
