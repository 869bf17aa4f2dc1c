-- Worked examples: the texts of lines.
use Rattle.std.specs.Prelude.{◌≡◌, ℕ, ◌==◌, ◌||◌, if◌then◌else◌, true, false, List, [], ◌∷◌, ◌++◌, map, codes, refl}
use Rattle.acl_names.specs.declared.auth.AuthId.{AuthId}
use Rattle.acl_model.specs.Effects.{becomes, changed}
use Rattle.acl_model.specs.State.{State, opening, root}
use Rattle.acl_model.specs.declared.row.Row.{Row}
use Rattle.acl_model.specs.declared.row.Row.TheVariants.{Column, Edge, Restriction, Schema, Table}
use Rattle.acl_stmt.specs.Columns.{is_column_list}
use Rattle.acl_stmt.specs.declared.statement.Statement.{Statement}
use Rattle.acl_stmt.specs.declared.statement.Statement.TheVariants.{CreateRole, Grant, GrantRoles, Revoke}
use Rattle.acl_stmt.specs.declared.target.Target.TheVariants as on
use Rattle.canonical_texts.specs.Statements.{canonical_text}
use Rattle.listed_privileges.specs.Sets.{bits_below}
use Rattle.priv_items.specs.Canonical.{each_below}
use Rattle.priv_sets.specs.DynamicNames.{dynamic_names}
use Rattle.priv_sets.specs.Levels.{grant_option, has_level}
use Rattle.priv_sets.specs.PlainNames.{plain_names}
use Rattle.priv_sets.specs.StaticSet.{holds}
use Rattle.show_grants.specs.Keys.{in_order, put_in}
use Rattle.show_grants.specs.Lines.{column_privileges, dynamic_list, lines_of, plain_list, shown}
use Rattle.shown_texts.specs.Lines.{line_text}

abbrev ann : AuthId
ann = record { user = codes "ann"; host = codes "%" }

abbrev reader : AuthId
reader = record { user = codes "reader"; host = codes "%" }

abbrev writer : AuthId
writer = record { user = codes "writer"; host = codes "%" }

abbrev world : List ℕ
world = codes "world"

abbrev next : Statement → State → State
next statement before = changed [] statement before

abbrev nothing_held : State
nothing_held = next (CreateRole false (ann ∷ reader ∷ writer ∷ [])) opening

abbrev texts : State → List Row → AuthId → List (List ℕ)
texts state rows a = map line_text (shown state rows (a ∷ []) a)

example-nothing : texts nothing_held [] ann ≡ codes "GRANT USAGE ON *.* TO `ann`@`%`" ∷ []
unfolding lines_of in_order bits_below becomes changed line_text canonical_text holds each_below plain_names
example-nothing = refl

-- restrictions
abbrev restricted : State
restricted =
    next (Revoke (plain_list (λ p. p == 1 || p == 3)) (on.Schema world) (ann ∷ []))
    (next (Grant (plain_list (λ p. p == 0 || p == 1 || p == 3)) on.Global (ann ∷ []) false) nothing_held)

example-restricted :
    texts restricted (Restriction ann 1 world ∷ Restriction ann 3 world ∷ []) ann
    ≡ codes "GRANT SELECT, INSERT, DELETE ON *.* TO `ann`@`%`" ∷ codes "REVOKE INSERT, DELETE ON `world`.* FROM `ann`@`%`" ∷ []
unfolding lines_of in_order put_in bits_below becomes changed line_text canonical_text holds each_below plain_names
example-restricted = refl

-- a schema that is named with an escape, and its grant option alone
abbrev escaped : State
escaped = next (Grant (plain_list (λ p. false)) (on.Schema (codes "a\\_b")) (ann ∷ []) true) nothing_held

example-escaped :
    texts escaped (Schema ann (codes "a\\_b") grant_option ∷ []) ann
    ≡ codes "GRANT USAGE ON *.* TO `ann`@`%`" ∷ codes "GRANT USAGE ON `a\\\\_b`.* TO `ann`@`%` WITH GRANT OPTION" ∷ []
unfolding lines_of in_order put_in bits_below becomes changed line_text canonical_text holds each_below plain_names
example-escaped = refl

-- a privilege on the table, and on two columns, which are in order
abbrev select_columns : ℕ → List (List ℕ)
select_columns p = if p == 0 then codes "c" ∷ codes "a" ∷ [] else []

abbrev columns_granted : State
columns_granted = next (Grant (column_privileges (λ p. p == 0) select_columns) (on.Table world (codes "city")) (ann ∷ []) false) nothing_held

example-columns :
    texts columns_granted (Table ann world (codes "city") 0 ∷ Column ann world (codes "city") (codes "c") 0 ∷ Column ann world (codes "city") (codes "a") 0 ∷ []) ann
    ≡ codes "GRANT USAGE ON *.* TO `ann`@`%`" ∷ codes "GRANT SELECT, SELECT (`a`, `c`) ON `world`.`city` TO `ann`@`%`" ∷ []
unfolding lines_of in_order put_in bits_below becomes changed line_text canonical_text holds each_below plain_names is_column_list has_level
example-columns = refl

-- dynamic privileges
abbrev dynamics : State
dynamics = next (Grant (dynamic_list (λ d. d == 2 || d == 3)) on.Global (ann ∷ []) true) nothing_held

example-dynamic :
    texts dynamics [] ann ≡ codes "GRANT USAGE ON *.* TO `ann`@`%`" ∷ codes "GRANT BACKUP_ADMIN,BINLOG_ADMIN ON *.* TO `ann`@`%` WITH GRANT OPTION" ∷ []
unfolding lines_of in_order bits_below becomes changed line_text canonical_text holds each_below plain_names dynamic_names
example-dynamic = refl

-- roles
abbrev roles_granted : State
roles_granted = next (GrantRoles (writer ∷ reader ∷ []) (ann ∷ []) false) nothing_held

example-roles :
    texts roles_granted (Edge writer ann ∷ Edge reader ann ∷ []) ann
    ≡ codes "GRANT USAGE ON *.* TO `ann`@`%`" ∷ codes "GRANT `reader`@`%`,`writer`@`%` TO `ann`@`%`" ∷ []
unfolding lines_of in_order put_in bits_below becomes changed line_text canonical_text holds each_below plain_names
example-roles = refl

-- the first account
example-root :
    texts opening [] root
    ≡ (codes "GRANT SELECT, INSERT, UPDATE, DELETE, CREATE, DROP, RELOAD, SHUTDOWN, PROCESS, FILE, REFERENCES, INDEX, ALTER, SHOW DATABASES, SUPER, "
    ++ codes "CREATE TEMPORARY TABLES, LOCK TABLES, EXECUTE, REPLICATION SLAVE, REPLICATION CLIENT, CREATE VIEW, SHOW VIEW, CREATE ROUTINE, "
    ++ codes "ALTER ROUTINE, CREATE USER, EVENT, TRIGGER, CREATE TABLESPACE, CREATE ROLE, DROP ROLE ON *.* TO `root`@`localhost` WITH GRANT OPTION")
    ∷ (codes "GRANT APPLICATION_PASSWORD_ADMIN,AUDIT_ADMIN,BACKUP_ADMIN,BINLOG_ADMIN,BINLOG_ENCRYPTION_ADMIN,CLONE_ADMIN,CONNECTION_ADMIN,"
    ++ codes "ENCRYPTION_KEY_ADMIN,GROUP_REPLICATION_ADMIN,PERSIST_RO_VARIABLES_ADMIN,REPLICATION_APPLIER,REPLICATION_SLAVE_ADMIN,"
    ++ codes "RESOURCE_GROUP_ADMIN,RESOURCE_GROUP_USER,ROLE_ADMIN,SESSION_VARIABLES_ADMIN,SET_USER_ID,SYSTEM_USER,SYSTEM_VARIABLES_ADMIN,"
    ++ codes "XA_RECOVER_ADMIN ON *.* TO `root`@`localhost` WITH GRANT OPTION")
    ∷ []
unfolding lines_of in_order bits_below line_text canonical_text holds each_below plain_names dynamic_names
example-root = refl

-- with the rights of two roles beside those of the account; the roles are those of the account alone
abbrev app : List ℕ
app = codes "app_db"

abbrev roles_with_rights : State
roles_with_rights =
    next (Grant (plain_list (λ p. p == 1 || p == 2 || p == 3)) (on.Schema app) (writer ∷ []) false)
    (next (Grant (plain_list (λ p. p == 0)) (on.Schema app) (reader ∷ []) false) (next (GrantRoles (reader ∷ writer ∷ []) (ann ∷ []) false) nothing_held))

abbrev rows_with_rights : List Row
rows_with_rights = Schema reader app 0 ∷ Schema writer app 1 ∷ Schema writer app 2 ∷ Schema writer app 3 ∷ Edge reader ann ∷ Edge writer ann ∷ []

example-with_roles :
    map line_text (shown roles_with_rights rows_with_rights (ann ∷ reader ∷ writer ∷ []) ann)
    ≡ codes "GRANT USAGE ON *.* TO `ann`@`%`" ∷ codes "GRANT SELECT, INSERT, UPDATE, DELETE ON `app_db`.* TO `ann`@`%`"
    ∷ codes "GRANT `reader`@`%`,`writer`@`%` TO `ann`@`%`" ∷ []
unfolding lines_of in_order put_in bits_below becomes changed line_text canonical_text holds each_below plain_names
example-with_roles = refl

example-without_roles :
    texts roles_with_rights rows_with_rights ann ≡ codes "GRANT USAGE ON *.* TO `ann`@`%`" ∷ codes "GRANT `reader`@`%`,`writer`@`%` TO `ann`@`%`" ∷ []
unfolding lines_of in_order put_in bits_below becomes changed line_text canonical_text holds each_below plain_names
example-without_roles = refl
