-- Commands of a script: all but statements, and without the moment of a CONNECT.
use Rattle.std.specs.Prelude.{ℕ, Bool, is_none, List, [], Some, None, codes}
use Rattle.std.specs.Str.{str_to_ascii_lowercase}
use Rattle.account_match.specs.declared.client.Client.{Client}
use Rattle.account_match.specs.declared.client.Client.TheVariants.{Local, Tcp}
use Rattle.acl_names.specs.Limits.{host_limit}
use Rattle.acl_names.specs.Name.{name_fault}
use Rattle.acl_names.specs.declared.auth.AuthId.{AuthId}
use Rattle.acl_names.specs.declared.policy.Verifier.{Verifier}
use Rattle.acl_stmt.specs.declared.roles.RoleForm.{RoleForm}
use Rattle.acl_stmt.specs.declared.roles.RoleForm.TheVariants as form
use Rattle.grant_words.specs.Classes.{Class, word}
use Rattle.grant_words.specs.Classes.Class.{valued}
use Rattle.grant_words.specs.Classes.Sort.{string}
use Rattle.grant_words.specs.Lists.{roles}
use Rattle.grant_words.specs.Names.{account, ident, same, user_class}
use Rattle.grant_words.specs.Numbers.{number_of}
use Rattle.grant_words.specs.Syntax.{Syntax}
use Rattle.grant_words.specs.Syntax.Syntax.{token, after, empty, both, to, choice}
use Rattle.privilege_statements.specs.Statements.{request}
use Rattle.user_statements.specs.Secrets.{password_class, verifier_of}
use Rattle.script_commands.specs.Numbers.{length_class, turns_class}
use Rattle.script_commands.specs.declared.command.Connect.{Connect}
use Rattle.script_commands.specs.declared.command.RawCommand.{RawCommand}
use Rattle.script_commands.specs.declared.command.RawCommand.TheVariants as raw
use Rattle.script_commands.specs.declared.command.RawCommand.TheVariants.{Disconnect, UseSchema, SetRole, Check, ShowGrants, Await}

-- a host within its limit
abbrev pub is_host_text : List ℕ → Bool
is_host_text text = is_none (name_fault host_limit text)

-- the address or the name of a client
abbrev pub client_class : Class
client_class = valued string is_host_text []

unfoldable pub client_text : Syntax (List ℕ)
client_text = token client_class str_to_ascii_lowercase

-- [ NAME string ]
unfoldable pub client_name : Syntax (List ℕ)
client_name = choice (after (word (codes "NAME")) client_text) (empty [])

-- LOCAL, or string [ NAME string ]
unfoldable pub client : Syntax Client
client = choice (after (word (codes "LOCAL")) (empty Local)) (to (λ v. Tcp v.0 v.1) (both client_text client_name))

-- [ PASSWORD string ]
unfoldable pub password : Syntax Verifier
password = choice (after (word (codes "PASSWORD")) (token password_class verifier_of)) (empty (verifier_of []))

abbrev pub connect_of : List ℕ × (Client × Verifier) → Connect
connect_of v = record { user = v.0; client = v.1.0; verifier = v.1.1 }

-- user FROM client [ PASSWORD string ]
unfoldable pub connection : Syntax Connect
connection = to connect_of (both (token user_class same) (after (word (codes "FROM")) (both client password)))

-- CONNECT user FROM client [ PASSWORD string ]
unfoldable pub connect : Syntax Connect
connect = after (word (codes "CONNECT")) connection

-- ALL, or ALL EXCEPT role, .., each behind its first word
unfoldable pub all_roles : Syntax RoleForm
all_roles = choice (after (word (codes "EXCEPT")) (to form.AllExcept roles)) (empty form.All)

-- DEFAULT, NONE, ALL [ EXCEPT role, .. ] or role, ..
unfoldable pub role_form : Syntax RoleForm
role_form =
    choice (after (word (codes "DEFAULT")) (empty form.Default))
    (choice (after (word (codes "NONE")) (empty form.Nothing)) (choice (after (word (codes "ALL")) all_roles) (to form.List roles)))

-- [ USING role, .. ]
unfoldable pub using_roles : Syntax (List AuthId)
using_roles = choice (after (word (codes "USING")) roles) (empty [])

-- [ FOR account [ USING role, .. ] ]
unfoldable pub grants_of : Syntax RawCommand
grants_of = choice (after (word (codes "FOR")) (to (λ v. ShowGrants (Some v.0) v.1) (both account using_roles))) (empty (ShowGrants None []))

-- n WITHIN t
unfoldable pub awaited : Syntax RawCommand
awaited = to (λ v. Await v.0 v.1) (both (token length_class number_of) (after (word (codes "WITHIN")) (token turns_class number_of)))

-- the commands of a session that is connected
unfoldable pub session_command : Syntax RawCommand
session_command =
    choice (after (word (codes "USE")) (to UseSchema ident))
    (choice (after (word (codes "SET")) (after (word (codes "ROLE")) (to SetRole role_form)))
    (choice (after (word (codes "CHECK")) (to (λ v. Check v.0 v.1) request)) (after (word (codes "SHOW")) (after (word (codes "GRANTS")) grants_of))))

-- a command, without the moment of a CONNECT
unfoldable pub command : Syntax RawCommand
command =
    choice (to raw.Connect connect)
    (choice (after (word (codes "DISCONNECT")) (empty Disconnect)) (choice (after (word (codes "AWAIT")) awaited) session_command))
