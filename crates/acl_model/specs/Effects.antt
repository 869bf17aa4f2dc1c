-- What a statement gives, what it takes, and what stands after it (MySQL 8.0 Reference Manual, "GRANT Statement", "REVOKE
-- Statement", "Privilege Restriction Using Partial Revokes"; how restrictions move where the manual is silent is this
-- product's own choice).
use Rattle.std.specs.Prelude.{Bool, false, ◌&&◌, ◌||◌, not, List, [], ◌∷◌, Option, Some, None}
use Rattle.acl_names.specs.declared.auth.AuthId.{AuthId}
use Rattle.acl_model.specs.Accounts.{data_after}
use Rattle.acl_model.specs.Renames.{row_before}
use Rattle.acl_model.specs.Roles.{is_granted}
use Rattle.acl_model.specs.Rows.{lists, some_name}
use Rattle.acl_model.specs.State.{State}
use Rattle.acl_model.specs.Words.{creates, drops, grants, grants_admin, grants_column, grants_dynamic, grants_dynamic_option, grants_role, limited, revokes, revokes_all, revokes_column, revokes_dynamic, revokes_role, sets_default}
use Rattle.acl_model.specs.declared.row.Row.{Row}
use Rattle.acl_model.specs.declared.row.Row.TheVariants.{Account, Global, Dynamic, DynamicGrant, Schema, Table, Column, Function, Procedure, Edge, Admin, Default, Restriction}
use Rattle.acl_stmt.specs.declared.entry.Entry.{Entry}
use Rattle.acl_stmt.specs.declared.limit.Limit.{Limit}
use Rattle.acl_stmt.specs.declared.roles.DefaultForm.TheVariants as form
use Rattle.acl_stmt.specs.declared.statement.Statement.{Statement}
use Rattle.acl_stmt.specs.declared.statement.Statement.TheVariants.{RenameUser, SetDefaultRole, SetMandatory, SetActivateAll}
use Rattle.acl_stmt.specs.declared.target.Target.TheVariants as on
use Rattle.priv_sets.specs.Levels.{grant_option}

-- the roles that SET DEFAULT ROLE makes default for an account
abbrev pub makes_default : Statement → State → AuthId → AuthId → Bool
makes_default (SetDefaultRole form.Nothing accounts) before a role = false
makes_default (SetDefaultRole form.All accounts) before a role = lists accounts a && is_granted before a role
makes_default (SetDefaultRole (form.List roles) accounts) before a role = lists accounts a && lists roles role
makes_default _ before a role = false

-- whether the statement makes the row stand, whatever stood of it before
abbrev pub gives : List Limit → Statement → State → Row → Bool
gives limits s before (Account a) = creates s a
gives limits s before (Global a p) = grants s on.Global a p
gives limits s before (Dynamic a d) = grants_dynamic s a d
gives limits s before (DynamicGrant a d) = grants_dynamic_option s a d
gives limits s before (Schema a schema p) = grants s (on.Schema schema) a p && not (before.rows (Restriction a p schema))
gives limits s before (Table a schema t p) = grants s (on.Table schema t) a p
gives limits s before (Column a schema t c p) = grants_column s (on.Table schema t) a c p
gives limits s before (Function a schema f p) = grants s (on.Function schema f) a p
gives limits s before (Procedure a schema f p) = grants s (on.Procedure schema f) a p
gives limits s before (Edge role to) = grants_role s role to
gives limits s before (Admin role to) = grants_admin s role to
gives limits s before (Default of role) = makes_default s before of role
gives limits s before (Restriction a p schema) =
    (revokes s (on.Schema schema) a p && before.rows (Global a p))
    || (grants s on.Global a p && limited limits schema p && not (before.rows (Global a p)) && not (before.rows (Schema a schema p)))

-- whether the statement takes a row of this kind away where it stood; dropping an account is beside this
abbrev pub takes_away : List Limit → Statement → Row → Bool
takes_away limits s (Account a) = false
takes_away limits s (Global a p) = revokes s on.Global a p || revokes_all s a
takes_away limits s (Dynamic a d) = revokes_dynamic s a d || revokes_all s a
takes_away limits s (DynamicGrant a d) = revokes_dynamic s a d || revokes s on.Global a grant_option || revokes_all s a
takes_away limits s (Schema a schema p) = revokes s (on.Schema schema) a p || revokes_all s a
takes_away limits s (Table a schema t p) = revokes s (on.Table schema t) a p || revokes_all s a
takes_away limits s (Column a schema t c p) = revokes_column s (on.Table schema t) a c p || revokes_all s a
takes_away limits s (Function a schema f p) = revokes s (on.Function schema f) a p || revokes_all s a
takes_away limits s (Procedure a schema f p) = revokes s (on.Procedure schema f) a p || revokes_all s a
takes_away limits s (Edge role to) = revokes_role s role to
takes_away limits s (Admin role to) = revokes_role s role to
takes_away limits s (Default of role) = sets_default s of || revokes_role s role of
takes_away limits s (Restriction a p schema) =
    grants s (on.Schema schema) a p || (grants s on.Global a p && not (limited limits schema p)) || revokes s on.Global a p || revokes_all s a

-- whether the statement takes the row, or drops an account that it names
abbrev pub takes : List Limit → Statement → Row → Bool
takes limits s row = some_name (drops s) row || takes_away limits s row

-- what the statement makes of a row that stood or did not
unfoldable pub becomes : List Limit → Statement → State → Row → Bool → Bool
becomes limits s before row stood = gives limits s before row || (stood && not (takes limits s row))

-- whether the row stood under the names that were there before a renaming
abbrev pub stood_before : Statement → State → Row → Bool
stood_before (RenameUser pairs) before row = stood_as before (row_before pairs row)
  where
    stood_as : State → Option Row → Bool
    stood_as before None = false
    stood_as before (Some old) = before.rows old
stood_before _ before row = before.rows row

abbrev pub mandatory_after : Statement → State → List AuthId
mandatory_after (SetMandatory roles) before = roles
mandatory_after _ before = before.mandatory

abbrev pub activation_after : Statement → State → Bool
activation_after (SetActivateAll on) before = on
activation_after _ before = before.activate_all

-- the state after a statement, whose grant on `*.*` hands on these limits
unfoldable pub changed : List Limit → Statement → State → State
changed limits s before = record {
  rows = λ row. becomes limits s before row (stood_before s before row);
  account_data = data_after s before;
  mandatory = mandatory_after s before;
  activate_all = activation_after s before;
}

-- the state after an accepted statement
unfoldable pub after : Entry → State → State
after entry before = changed entry.limits entry.statement before

-- the state after a list of accepted statements, the oldest first
unfoldable pub state_after : List Entry → State → State
state_after [] before = before
state_after (entry ∷ entries) before = state_after entries (after entry before)
