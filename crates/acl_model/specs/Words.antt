-- What a statement says of an account and a privilege: one word for each kind of change (MySQL 8.0 Reference Manual,
-- "Account Management Statements").
use Rattle.std.specs.Prelude.{ℕ, Bool, true, false, ◌&&◌, ◌||◌, ◌==◌, not, nat_lt, List}
use Rattle.std.specs.Int.{bit_at}
use Rattle.std.specs.List.{list_any}
use Rattle.acl_names.specs.AuthId.{same_auth}
use Rattle.acl_names.specs.Text.{text_eq}
use Rattle.acl_names.specs.declared.auth.AuthId.{AuthId}
use Rattle.acl_model.specs.Rows.{lists}
use Rattle.acl_stmt.specs.Targets.{level_of}
use Rattle.acl_stmt.specs.declared.limit.Limit.{Limit}
use Rattle.acl_stmt.specs.declared.privileges.PrivList.{PrivList}
use Rattle.acl_stmt.specs.declared.statement.Statement.{Statement}
use Rattle.acl_stmt.specs.declared.statement.Statement.TheVariants.{CreateUser, DropUser, CreateRole, DropRole, Grant, GrantRoles, Revoke, RevokeAll, RevokeRoles, SetDefaultRole}
use Rattle.acl_stmt.specs.declared.target.Target.{Target}
use Rattle.acl_stmt.specs.declared.target.Target.TheVariants as on
use Rattle.priv_sets.specs.Levels.{grant_option, has_level}
use Rattle.priv_sets.specs.StaticSet.{bits_of, holds}
use Rattle.priv_sets.specs.declared.level.Level.{Level}

-- CREATE USER and CREATE ROLE
abbrev pub creates : Statement → AuthId → Bool
creates (CreateUser if_not_exists accounts options) a = list_any (λ pair. same_auth a pair.0) accounts
creates (CreateRole if_not_exists roles) a = lists roles a
creates _ a = false

-- DROP USER and DROP ROLE
abbrev pub drops : Statement → AuthId → Bool
drops (DropUser if_exists accounts) a = lists accounts a
drops (DropRole if_exists roles) a = lists roles a
drops _ a = false

abbrev pub same_target : Target → Target → Bool
same_target on.Global on.Global = true
same_target (on.Schema s) (on.Schema t) = text_eq s t
same_target (on.Table s t) (on.Table u v) = text_eq s u && text_eq t v
same_target (on.Function s f) (on.Function u g) = text_eq s u && text_eq f g
same_target (on.Procedure s f) (on.Procedure u g) = text_eq s u && text_eq f g
same_target _ _ = false

-- the static privileges of a list at a level, GRANT OPTION where it is named: ALL is each one of the level but GRANT OPTION
abbrev pub names_static : PrivList → Level → ℕ → Bool
names_static privileges level p =
    (privileges.all && has_level level p && not (p == grant_option)) || holds privileges.plain p

-- the dynamic privileges of a list on `*.*`
abbrev pub names_dynamic : PrivList → ℕ → Bool
names_dynamic privileges d = (privileges.all && nat_lt d 20) || bit_at privileges.dynamic d == 1

-- a privilege of a list on a column
abbrev pub names_column : PrivList → ℕ → List ℕ → Bool
names_column privileges p column = list_any (λ c. c.privilege == p && list_any (text_eq column) c.names) privileges.columns

-- a list that names dynamic privileges and nothing else
abbrev pub is_dynamic_alone : PrivList → Bool
is_dynamic_alone privileges = not privileges.all && bits_of privileges.plain == 0 && not (privileges.dynamic == 0)

-- whether WITH GRANT OPTION at the target means the static GRANT OPTION
abbrev pub gives_grant_option : PrivList → Target → Bool
gives_grant_option privileges on.Global = not (is_dynamic_alone privileges)
gives_grant_option privileges _ = true

-- GRANT of a static privilege at a target, GRANT OPTION where it is given
abbrev pub grants : Statement → Target → AuthId → ℕ → Bool
grants (Grant privileges target accounts with_grant_option) at a p =
    same_target target at && lists accounts a
    && (names_static privileges (level_of target) p || (with_grant_option && p == grant_option && gives_grant_option privileges target))
grants _ at a p = false

abbrev pub grants_column : Statement → Target → AuthId → List ℕ → ℕ → Bool
grants_column (Grant privileges target accounts with_grant_option) at a column p =
    same_target target at && lists accounts a && names_column privileges p column
grants_column _ at a column p = false

abbrev pub grants_dynamic : Statement → AuthId → ℕ → Bool
grants_dynamic (Grant privileges on.Global accounts with_grant_option) a d = lists accounts a && names_dynamic privileges d
grants_dynamic _ a d = false

abbrev pub grants_dynamic_option : Statement → AuthId → ℕ → Bool
grants_dynamic_option (Grant privileges on.Global accounts with_grant_option) a d =
    with_grant_option && lists accounts a && names_dynamic privileges d
grants_dynamic_option _ a d = false

-- REVOKE of a static privilege at a target, GRANT OPTION where it is named
abbrev pub revokes : Statement → Target → AuthId → ℕ → Bool
revokes (Revoke privileges target accounts) at a p = same_target target at && lists accounts a && names_static privileges (level_of target) p
revokes _ at a p = false

abbrev pub revokes_column : Statement → Target → AuthId → List ℕ → ℕ → Bool
revokes_column (Revoke privileges target accounts) at a column p = same_target target at && lists accounts a && names_column privileges p column
revokes_column _ at a column p = false

abbrev pub revokes_dynamic : Statement → AuthId → ℕ → Bool
revokes_dynamic (Revoke privileges on.Global accounts) a d = lists accounts a && names_dynamic privileges d
revokes_dynamic _ a d = false

-- REVOKE ALL PRIVILEGES, GRANT OPTION
abbrev pub revokes_all : Statement → AuthId → Bool
revokes_all (RevokeAll accounts) a = lists accounts a
revokes_all _ a = false

abbrev pub grants_role : Statement → AuthId → AuthId → Bool
grants_role (GrantRoles roles accounts with_admin_option) role a = lists roles role && lists accounts a
grants_role _ role a = false

abbrev pub grants_admin : Statement → AuthId → AuthId → Bool
grants_admin (GrantRoles roles accounts with_admin_option) role a = with_admin_option && lists roles role && lists accounts a
grants_admin _ role a = false

abbrev pub revokes_role : Statement → AuthId → AuthId → Bool
revokes_role (RevokeRoles roles accounts) role a = lists roles role && lists accounts a
revokes_role _ role a = false

-- SET DEFAULT ROLE of an account
abbrev pub sets_default : Statement → AuthId → Bool
sets_default (SetDefaultRole form accounts) a = lists accounts a
sets_default _ a = false

-- whether the grantor's own restriction of the privilege on the schema is handed on
abbrev pub limited : List Limit → List ℕ → ℕ → Bool
limited limits schema p = list_any (λ limit. text_eq schema limit.schema && holds limit.privileges p) limits
