-- The one text that each statement is written as. MySQL 8.0 Reference Manual, "Account Management Statements".
use Rattle.std.specs.Prelude.{ℕ, Bool, if◌then◌else◌, List, [], ◌++◌, Option, Some, None, codes}
use Rattle.acl_names.specs.AuthId.{auth_text}
use Rattle.acl_names.specs.declared.auth.AuthId.{AuthId}
use Rattle.acl_names.specs.declared.policy.Verifier.{Verifier}
use Rattle.acl_stmt.specs.declared.options.AccountOptions.{AccountOptions}
use Rattle.acl_stmt.specs.declared.privileges.PrivList.{PrivList}
use Rattle.acl_stmt.specs.declared.roles.DefaultForm.{DefaultForm}
use Rattle.acl_stmt.specs.declared.roles.DefaultForm.TheVariants as form
use Rattle.acl_stmt.specs.declared.statement.Statement.{Statement}
use Rattle.acl_stmt.specs.declared.statement.Statement.TheVariants.{CreateUser, AlterUser, DropUser, RenameUser, CreateRole, DropRole, Grant, GrantRoles, Revoke, RevokeAll, RevokeRoles, SetDefaultRole, SetPassword, SetMandatory, SetActivateAll}
use Rattle.acl_stmt.specs.declared.target.Target.{Target}
use Rattle.mandatory_roles.specs.Text.{roles_text}
use Rattle.canonical_texts.specs.Lists.{text_if}
use Rattle.canonical_texts.specs.Privileges.{privileges_text}
use Rattle.canonical_texts.specs.Quotes.{string_text}
use Rattle.canonical_texts.specs.Texts.{accounts_text, altered_text, digits_text, members_text, new_text, options_text, renamed_text, target_text}

abbrev pub default_text : DefaultForm → List ℕ
default_text form.Nothing = codes " NONE"
default_text form.All = codes " ALL"
default_text (form.List roles) = accounts_text roles

abbrev pub for_text : Option AuthId → List ℕ
for_text None = []
for_text (Some account) = codes " FOR " ++ auth_text account

abbrev pub create_user_text : Bool → List (AuthId × Verifier) → AccountOptions → List ℕ
create_user_text if_not_exists accounts options =
    codes "CREATE USER" ++ (text_if if_not_exists (codes " IF NOT EXISTS") ++ (members_text new_text accounts ++ options_text options))

abbrev pub alter_user_text : List (AuthId × Option Verifier) → AccountOptions → List ℕ
alter_user_text accounts options = codes "ALTER USER" ++ (members_text altered_text accounts ++ options_text options)

abbrev pub create_role_text : Bool → List AuthId → List ℕ
create_role_text if_not_exists roles = codes "CREATE ROLE" ++ (text_if if_not_exists (codes " IF NOT EXISTS") ++ accounts_text roles)

-- DROP USER and DROP ROLE
abbrev pub drop_text : List ℕ → Bool → List AuthId → List ℕ
drop_text words if_exists accounts = words ++ (text_if if_exists (codes " IF EXISTS") ++ accounts_text accounts)

abbrev pub grant_text : PrivList → Target → List AuthId → Bool → List ℕ
grant_text privileges target accounts with_grant_option =
    codes "GRANT" ++ (privileges_text privileges ++ (codes " ON" ++ (target_text target ++ (codes " TO" ++ (accounts_text accounts ++ text_if with_grant_option (codes " WITH GRANT OPTION"))))))

abbrev pub grant_roles_text : List AuthId → List AuthId → Bool → List ℕ
grant_roles_text roles accounts with_admin_option =
    codes "GRANT" ++ (accounts_text roles ++ (codes " TO" ++ (accounts_text accounts ++ text_if with_admin_option (codes " WITH ADMIN OPTION"))))

abbrev pub revoke_text : PrivList → Target → List AuthId → List ℕ
revoke_text privileges target accounts =
    codes "REVOKE" ++ (privileges_text privileges ++ (codes " ON" ++ (target_text target ++ (codes " FROM" ++ accounts_text accounts))))

abbrev pub revoke_roles_text : List AuthId → List AuthId → List ℕ
revoke_roles_text roles accounts = codes "REVOKE" ++ (accounts_text roles ++ (codes " FROM" ++ accounts_text accounts))

abbrev pub default_role_text : DefaultForm → List AuthId → List ℕ
default_role_text form accounts = codes "SET DEFAULT ROLE" ++ (default_text form ++ (codes " TO" ++ accounts_text accounts))

abbrev pub set_password_text : Option AuthId → Verifier → List ℕ
set_password_text account verifier = codes "SET PASSWORD" ++ (for_text account ++ (codes " = VERIFIER" ++ digits_text verifier))

abbrev pub mandatory_text : List AuthId → List ℕ
mandatory_text roles = codes "SET PERSIST mandatory_roles = " ++ string_text (roles_text roles)

abbrev pub activate_text : Bool → List ℕ
activate_text on = codes "SET PERSIST activate_all_roles_on_login = " ++ (if on then codes "ON" else codes "OFF")

-- keywords are in capitals, and the two settings in small letters; one space stands between words and round `=`
unfoldable pub canonical_text : Statement → List ℕ
canonical_text (CreateUser if_not_exists accounts options) = create_user_text if_not_exists accounts options
canonical_text (AlterUser accounts options) = alter_user_text accounts options
canonical_text (DropUser if_exists accounts) = drop_text (codes "DROP USER") if_exists accounts
canonical_text (RenameUser pairs) = codes "RENAME USER" ++ members_text renamed_text pairs
canonical_text (CreateRole if_not_exists roles) = create_role_text if_not_exists roles
canonical_text (DropRole if_exists roles) = drop_text (codes "DROP ROLE") if_exists roles
canonical_text (Grant privileges target accounts with_grant_option) = grant_text privileges target accounts with_grant_option
canonical_text (GrantRoles roles accounts with_admin_option) = grant_roles_text roles accounts with_admin_option
canonical_text (Revoke privileges target accounts) = revoke_text privileges target accounts
canonical_text (RevokeAll accounts) = codes "REVOKE ALL PRIVILEGES, GRANT OPTION FROM" ++ accounts_text accounts
canonical_text (RevokeRoles roles accounts) = revoke_roles_text roles accounts
canonical_text (SetDefaultRole form accounts) = default_role_text form accounts
canonical_text (SetPassword account verifier) = set_password_text account verifier
canonical_text (SetMandatory roles) = mandatory_text roles
canonical_text (SetActivateAll on) = activate_text on
