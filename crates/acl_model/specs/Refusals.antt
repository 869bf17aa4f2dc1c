-- Why a statement is refused, and which refusal comes first (MySQL 8.0 Reference Manual, "Account Management Statements";
-- the order of the refusals is this product's own choice).
use Rattle.std.specs.Prelude.{ℕ, Bool, true, ◌&&◌, ◌||◌, not, List, [], ◌∷◌, Option, Some, None, if◌then◌else◌, map}
use Rattle.std.specs.List.{find}
use Rattle.std.specs.Option.{option_map, option_or}
use Rattle.acl_names.specs.AuthId.{same_auth}
use Rattle.acl_names.specs.declared.auth.AuthId.{AuthId}
use Rattle.acl_model.specs.Roles.{is_granted}
use Rattle.acl_model.specs.State.{State, is_mandatory, stands}
use Rattle.acl_model.specs.Words.{names_static}
use Rattle.acl_model.specs.declared.row.Row.TheVariants.{Edge, Function, Global, Procedure, Schema}
use Rattle.acl_stmt.specs.Requests.{all_below}
use Rattle.acl_stmt.specs.declared.privileges.PrivList.{PrivList}
use Rattle.acl_stmt.specs.declared.refusal.Refusal.{Refusal}
use Rattle.acl_stmt.specs.declared.refusal.Refusal.TheVariants.{AccountExists, Mandatory, NoSuchAccount, NoSuchGrant, NotGranted}
use Rattle.acl_stmt.specs.declared.roles.DefaultForm.{DefaultForm}
use Rattle.acl_stmt.specs.declared.roles.DefaultForm.TheVariants as form
use Rattle.acl_stmt.specs.declared.statement.Statement.{Statement}
use Rattle.acl_stmt.specs.declared.statement.Statement.TheVariants.{CreateUser, AlterUser, DropUser, RenameUser, CreateRole, DropRole, Grant, GrantRoles, Revoke, RevokeAll, RevokeRoles, SetDefaultRole, SetPassword, SetMandatory, SetActivateAll}
use Rattle.acl_stmt.specs.declared.target.Target.{Target}
use Rattle.acl_stmt.specs.declared.target.Target.TheVariants as on
use Rattle.priv_sets.specs.declared.level.Level.TheVariants as level

-- the first account that stands, or that the list has already
abbrev pub first_taken : (AuthId → Bool) → List AuthId → Option AuthId
first_taken taken [] = None
first_taken taken (account ∷ accounts) =
    if taken account then Some account else first_taken (λ other. same_auth other account || taken other) accounts

-- the first account that does not stand, or that the list has already
abbrev pub first_gone : (AuthId → Bool) → List AuthId → Option AuthId
first_gone there [] = None
first_gone there (account ∷ accounts) =
    if there account then first_gone (λ other. not (same_auth other account) && there other) accounts else Some account

-- the first account that does not stand
abbrev pub no_account : State → List AuthId → Option Refusal
no_account state accounts = option_map (λ a. NoSuchAccount a) (find (λ a. not (stands state a)) accounts)

-- pair by pair on what the earlier pairs leave: the old name has to stand, and the new one must not
abbrev pub no_renaming : (AuthId → Bool) → List (AuthId × AuthId) → Option Refusal
no_renaming there [] = None
no_renaming there (pair ∷ pairs) =
    if there pair.0
    then (if there pair.1 then Some (AccountExists pair.1)
    else no_renaming (λ other. same_auth other pair.1 || (not (same_auth other pair.0) && there other)) pairs)
    else Some (NoSuchAccount pair.0)

-- the first pair of a role and an account that fails the test, account by account and role by role within it
abbrev pub first_pair : (AuthId → AuthId → Bool) → List AuthId → List AuthId → Option Refusal
first_pair holds roles [] = None
first_pair holds roles (account ∷ accounts) =
    option_or (option_map (λ role. NotGranted role account) (find (λ role. not (holds role account)) roles)) (first_pair holds roles accounts)

abbrev pub holds_some : (ℕ → Bool) → Bool
holds_some row = not (all_below 31 (λ p. not (row p)))

-- whether REVOKE at a schema or a routine finds something of the account's there; at a table `HasNothingOn` says it
abbrev pub may_revoke : State → PrivList → Target → AuthId → Bool
may_revoke state privileges (on.Schema schema) a = holds_some (λ p. state.rows (Schema a schema p)) || holds_some (λ p. names_static privileges level.Schema p && state.rows (Global a p))
may_revoke state privileges (on.Function schema f) a = holds_some (λ p. state.rows (Function a schema f p))
may_revoke state privileges (on.Procedure schema f) a = holds_some (λ p. state.rows (Procedure a schema f p))
may_revoke state privileges on.Global a = true
may_revoke state privileges (on.Table schema t) a = true

abbrev pub roles_of_form : DefaultForm → List AuthId
roles_of_form form.Nothing = []
roles_of_form form.All = []
roles_of_form (form.List roles) = roles

-- the first refusal of a statement that is found without following roles or counting rows
unfoldable pub first_fault : State → Statement → Option Refusal
first_fault state (CreateUser if_not_exists accounts options) =
    if if_not_exists then None else option_map (λ a. AccountExists a) (first_taken (stands state) (map (λ pair. pair.0) accounts))
first_fault state (CreateRole if_not_exists roles) =
    if if_not_exists then None else option_map (λ a. AccountExists a) (first_taken (stands state) roles)
first_fault state (AlterUser accounts options) = no_account state (map (λ pair. pair.0) accounts)
first_fault state (DropUser if_exists accounts) =
    option_or (if if_exists then None else option_map (λ a. NoSuchAccount a) (first_gone (stands state) accounts))
    (option_map (λ a. Mandatory a) (find (λ a. stands state a && is_mandatory state a) accounts))
first_fault state (DropRole if_exists roles) =
    option_or (if if_exists then None else option_map (λ a. NoSuchAccount a) (first_gone (stands state) roles))
    (option_map (λ a. Mandatory a) (find (λ a. stands state a && is_mandatory state a) roles))
first_fault state (RenameUser pairs) =
    option_or (no_renaming (stands state) pairs) (option_map (λ a. Mandatory a) (find (is_mandatory state) (map (λ pair. pair.0) pairs)))
first_fault state (Grant privileges target accounts with_grant_option) = no_account state accounts
first_fault state (GrantRoles roles accounts with_admin_option) = option_or (no_account state roles) (no_account state accounts)
first_fault state (Revoke privileges target accounts) =
    option_or (no_account state accounts) (option_map (λ a. NoSuchGrant a) (find (λ a. not (may_revoke state privileges target a)) accounts))
first_fault state (RevokeAll accounts) = no_account state accounts
first_fault state (RevokeRoles roles accounts) =
    option_or (no_account state roles) (option_or (no_account state accounts)
    (option_or (option_map (λ a. Mandatory a) (find (is_mandatory state) roles)) (first_pair (λ role a. state.rows (Edge role a)) roles accounts)))
first_fault state (SetDefaultRole form accounts) =
    option_or (no_account state (roles_of_form form)) (option_or (no_account state accounts)
    (first_pair (λ role a. is_granted state a role) (roles_of_form form) accounts))
first_fault state (SetPassword None verifier) = None
first_fault state (SetPassword (Some account) verifier) = no_account state (account ∷ [])
first_fault state (SetMandatory roles) = None
first_fault state (SetActivateAll on) = None
