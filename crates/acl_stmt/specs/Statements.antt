-- Which statements there are: the rules of each kind.
use Rattle.std.specs.Prelude.{ℕ, Bool, true, ◌&&◌, not, nat_le, List, length, Option, Some, None}
use Rattle.std.specs.List.{list_all}
use Rattle.acl_names.specs.declared.auth.AuthId.{AuthId}
use Rattle.acl_names.specs.declared.policy.LockTime.{LockTime}
use Rattle.acl_names.specs.declared.policy.LockTime.TheVariants.{Days, Unbounded}
use Rattle.acl_stmt.specs.Lists.{is_some_list}
use Rattle.acl_stmt.specs.Requests.{is_request}
use Rattle.acl_stmt.specs.declared.options.AccountOptions.{AccountOptions}
use Rattle.acl_stmt.specs.declared.roles.DefaultForm.{DefaultForm}
use Rattle.acl_stmt.specs.declared.roles.DefaultForm.TheVariants as form
use Rattle.acl_stmt.specs.declared.statement.Statement.{Statement}
use Rattle.acl_stmt.specs.declared.statement.Statement.TheVariants.{CreateUser, AlterUser, DropUser, RenameUser, CreateRole, DropRole, Grant, GrantRoles, Revoke, RevokeAll, RevokeRoles, SetDefaultRole, SetPassword, SetMandatory, SetActivateAll}
use Rattle.priv_sets.specs.Levels.{grant_option}
use Rattle.priv_sets.specs.StaticSet.{holds}

-- an account whose user is not blank
abbrev pub is_named : AuthId → Bool
is_named account = is_some_list account.user

-- one role or more, none of them with a blank user
abbrev pub are_roles : List AuthId → Bool
are_roles roles = is_some_list roles && list_all is_named roles

abbrev pub is_option_number : Option ℕ → Bool
is_option_number None = true
is_option_number (Some number) = nat_le number 32767

abbrev pub is_lock_time : Option LockTime → Bool
is_lock_time None = true
is_lock_time (Some Unbounded) = true
is_lock_time (Some (Days number)) = nat_le number 32767

abbrev pub are_options : AccountOptions → Bool
are_options options = is_option_number options.attempts && is_lock_time options.days

abbrev pub is_default_form : DefaultForm → Bool
is_default_form form.Nothing = true
is_default_form form.All = true
is_default_form (form.List roles) = are_roles roles

-- the rules that a statement keeps whatever it stands in
unfoldable pub is_statement : Statement → Bool
is_statement (CreateUser if_not_exists accounts options) = is_some_list accounts && are_options options
is_statement (AlterUser accounts options) = is_some_list accounts && are_options options
is_statement (DropUser if_exists accounts) = is_some_list accounts
is_statement (RenameUser pairs) = is_some_list pairs && list_all (λ pair. is_named pair.1) pairs
is_statement (CreateRole if_not_exists roles) = are_roles roles
is_statement (DropRole if_exists roles) = are_roles roles
is_statement (Grant privileges target accounts with_grant_option) =
    is_request privileges target && not (holds privileges.plain grant_option) && is_some_list accounts
is_statement (GrantRoles roles accounts with_admin_option) = are_roles roles && is_some_list accounts
is_statement (Revoke privileges target accounts) = is_request privileges target && is_some_list accounts
is_statement (RevokeAll accounts) = is_some_list accounts
is_statement (RevokeRoles roles accounts) = are_roles roles && is_some_list accounts
is_statement (SetDefaultRole form accounts) = is_default_form form && is_some_list accounts
is_statement (SetPassword account verifier) = true
is_statement (SetMandatory roles) = nat_le (length roles) 4096 && list_all is_named roles
is_statement (SetActivateAll on) = true
