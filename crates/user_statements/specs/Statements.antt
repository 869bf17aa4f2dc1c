-- Statements on accounts, on roles and on settings: all kinds but those that name privileges (MySQL 8.0 Reference Manual,
-- "Account Management Statements").
use Rattle.std.specs.Prelude.{ℕ, Bool, true, false, is_some, List, [], Option, Some, None, codes}
use Rattle.acl_names.specs.declared.auth.AuthId.{AuthId}
use Rattle.acl_names.specs.declared.policy.Verifier.{Verifier}
use Rattle.acl_stmt.specs.declared.roles.DefaultForm.{DefaultForm}
use Rattle.acl_stmt.specs.declared.roles.DefaultForm.TheVariants as form
use Rattle.acl_stmt.specs.declared.statement.Statement.{Statement}
use Rattle.acl_stmt.specs.declared.statement.Statement.TheVariants.{CreateUser, AlterUser, DropUser, RenameUser, CreateRole, DropRole, GrantRoles, RevokeAll, RevokeRoles, SetDefaultRole, SetPassword, SetMandatory, SetActivateAll}
use Rattle.grant_words.specs.Classes.{Class, word}
use Rattle.grant_words.specs.Classes.Class.{mark, valued}
use Rattle.grant_words.specs.Classes.Sort.{string}
use Rattle.grant_words.specs.Names.{account, role}
use Rattle.grant_words.specs.Syntax.{Syntax}
use Rattle.grant_words.specs.Syntax.Syntax.{token, after, empty, both, to, choice, list}
use Rattle.grant_words.specs.Lists.{accounts, comma, roles}
use Rattle.mandatory_roles.specs.Roles.{roles_in}
use Rattle.user_statements.specs.Flags.{if_exists, if_not_exists, with_admin_option}
use Rattle.user_statements.specs.Options.{options}
use Rattle.user_statements.specs.Secrets.{auth, secret, verifier_of}

-- `=`
abbrev pub equals : Class
equals = mark 61

-- an account and its password, which is the empty one where none is given
unfoldable pub new_account : Syntax (AuthId × Verifier)
new_account = both account (choice auth (empty (verifier_of [])))

-- CREATE USER [ IF NOT EXISTS ] account [ auth ], .. [ options ]
unfoldable pub create_user : Syntax Statement
create_user = to (λ v. CreateUser v.0 v.1.0 v.1.1) (both if_not_exists (both (list comma new_account) options))

unfoldable pub altered_account : Syntax (AuthId × Option Verifier)
altered_account = both account (choice (to Some auth) (empty None))

-- ALTER USER account [ auth ], .. [ options ]
unfoldable pub alter_user : Syntax Statement
alter_user = to (λ v. AlterUser v.0 v.1) (both (list comma altered_account) options)

-- DROP USER [ IF EXISTS ] account, ..
unfoldable pub drop_user : Syntax Statement
drop_user = to (λ v. DropUser v.0 v.1) (both if_exists accounts)

-- an account, and the new name, whose user is not empty
unfoldable pub renaming : Syntax (AuthId × AuthId)
renaming = both account (after (word (codes "TO")) role)

-- RENAME USER account TO account, ..
unfoldable pub rename_user : Syntax Statement
rename_user = to RenameUser (list comma renaming)

-- CREATE ROLE [ IF NOT EXISTS ] role, ..
unfoldable pub create_role : Syntax Statement
create_role = to (λ v. CreateRole v.0 v.1) (both if_not_exists roles)

-- DROP ROLE [ IF EXISTS ] role, ..
unfoldable pub drop_role : Syntax Statement
drop_role = to (λ v. DropRole v.0 v.1) (both if_exists roles)

-- GRANT role, .. TO account, .. [ WITH ADMIN OPTION ]
unfoldable pub grant_roles : Syntax Statement
grant_roles = to (λ v. GrantRoles v.0 v.1.0 v.1.1) (both roles (after (word (codes "TO")) (both accounts with_admin_option)))

-- [ PRIVILEGES ]
unfoldable pub maybe_privileges : Syntax (Unit {0})
maybe_privileges = choice (after (word (codes "PRIVILEGES")) (empty tt)) (empty tt)

-- REVOKE ALL [ PRIVILEGES ], GRANT OPTION FROM account, ..
unfoldable pub revoke_all : Syntax Statement
revoke_all =
    to (λ v. RevokeAll v.1)
    (both maybe_privileges (after comma (after (word (codes "GRANT")) (after (word (codes "OPTION")) (after (word (codes "FROM")) accounts)))))

-- REVOKE role, .. FROM account, ..
unfoldable pub revoke_roles : Syntax Statement
revoke_roles = to (λ v. RevokeRoles v.0 v.1) (both roles (after (word (codes "FROM")) accounts))

-- NONE, ALL or roles
unfoldable pub default_form : Syntax DefaultForm
default_form = choice (after (word (codes "NONE")) (empty form.Nothing)) (choice (after (word (codes "ALL")) (empty form.All)) (to form.List roles))

-- SET DEFAULT ROLE form TO account, ..
unfoldable pub set_default_role : Syntax Statement
set_default_role = to (λ v. SetDefaultRole v.0 v.1) (both default_form (after (word (codes "TO")) accounts))

-- [ FOR account ]
unfoldable pub for_account : Syntax (Option AuthId)
for_account = choice (after (word (codes "FOR")) (to Some account)) (empty None)

-- SET PASSWORD [ FOR account ] = secret
unfoldable pub set_password : Syntax Statement
set_password = to (λ v. SetPassword v.0 v.1) (both for_account (after equals secret))

abbrev pub is_role_list : List ℕ → Bool
is_role_list text = is_some (roles_in text)

abbrev pub roles_or_none : Option (List AuthId) → List AuthId
roles_or_none (Some roles) = roles
roles_or_none None = []

abbrev pub roles_of : List ℕ → List AuthId
roles_of text = roles_or_none (roles_in text)

-- a string that is a list of roles, by law one that `SpellsRoles` tells
abbrev pub roles_class : Class
roles_class = valued string is_role_list []

-- SET PERSIST mandatory_roles = string
unfoldable pub set_mandatory : Syntax Statement
set_mandatory = to SetMandatory (after equals (token roles_class roles_of))

-- ON or OFF
unfoldable pub on_or_off : Syntax Bool
on_or_off = choice (after (word (codes "ON")) (empty true)) (after (word (codes "OFF")) (empty false))

-- SET PERSIST activate_all_roles_on_login = ON or OFF
unfoldable pub set_activate_all : Syntax Statement
set_activate_all = to SetActivateAll (after equals on_or_off)

unfoldable pub create : Syntax Statement
create = choice (after (word (codes "USER")) create_user) (after (word (codes "ROLE")) create_role)

unfoldable pub drop : Syntax Statement
drop = choice (after (word (codes "USER")) drop_user) (after (word (codes "ROLE")) drop_role)

unfoldable pub revoke : Syntax Statement
revoke = choice (after (word (codes "ALL")) revoke_all) revoke_roles

unfoldable pub set_persist : Syntax Statement
set_persist = choice (after (word (codes "MANDATORY_ROLES")) set_mandatory) (after (word (codes "ACTIVATE_ALL_ROLES_ON_LOGIN")) set_activate_all)

unfoldable pub set : Syntax Statement
set =
    choice (after (word (codes "DEFAULT")) (after (word (codes "ROLE")) set_default_role))
    (choice (after (word (codes "PASSWORD")) set_password) (after (word (codes "PERSIST")) set_persist))

-- on roles that are granted, and on settings
unfoldable pub on_grants : Syntax Statement
on_grants = choice (after (word (codes "GRANT")) grant_roles) (choice (after (word (codes "REVOKE")) revoke) (after (word (codes "SET")) set))

-- a statement that names no privileges, without a semicolon
unfoldable pub user_statement : Syntax Statement
user_statement =
    choice (after (word (codes "CREATE")) create)
    (choice (after (word (codes "ALTER")) (after (word (codes "USER")) alter_user))
    (choice (after (word (codes "DROP")) drop) (choice (after (word (codes "RENAME")) (after (word (codes "USER")) rename_user)) on_grants)))
