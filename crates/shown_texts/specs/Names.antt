-- Names within their rules, in lines and in the rows that they show.
use Rattle.std.specs.Prelude.{Bool, false, ◌&&◌, IsTrue}
use Rattle.std.specs.List.{list_all}
use Rattle.acl_model.specs.State.{State}
use Rattle.acl_model.specs.declared.row.Row.{Row}
use Rattle.acl_model.specs.declared.row.Row.TheVariants.{Account, Global, Dynamic, DynamicGrant, Schema, Table, Column, Function, Procedure, Edge, Admin, Default, Restriction}
use Rattle.acl_stmt.specs.declared.entry.Entry.{Entry}
use Rattle.acl_stmt.specs.declared.statement.Statement.{Statement}
use Rattle.acl_stmt.specs.declared.statement.Statement.TheVariants.{CreateRole, CreateUser, Grant, GrantRoles, RenameUser, Revoke}
use Rattle.canonical_texts.specs.Rules.{account_keeps_rules}
use Rattle.grant_words.specs.Classes.{is_identifier}
use Rattle.privilege_texts.specs.Rules.{names_keep_rules}

-- of a row: accounts and roles as statements may name them, schemas and what is in them as identifiers
abbrev pub row_names_keep_rules : Row → Bool
row_names_keep_rules (Account a) = account_keeps_rules a
row_names_keep_rules (Global a p) = account_keeps_rules a
row_names_keep_rules (Dynamic a d) = account_keeps_rules a
row_names_keep_rules (DynamicGrant a d) = account_keeps_rules a
row_names_keep_rules (Schema a s p) = account_keeps_rules a && is_identifier s
row_names_keep_rules (Table a s t p) = account_keeps_rules a && is_identifier s && is_identifier t
row_names_keep_rules (Column a s t c p) = account_keeps_rules a && is_identifier s && is_identifier t && is_identifier c
row_names_keep_rules (Function a s f p) = account_keeps_rules a && is_identifier s && is_identifier f
row_names_keep_rules (Procedure a s f p) = account_keeps_rules a && is_identifier s && is_identifier f
row_names_keep_rules (Edge role to) = account_keeps_rules role && account_keeps_rules to
row_names_keep_rules (Admin role to) = account_keeps_rules role && account_keeps_rules to
row_names_keep_rules (Default of role) = account_keeps_rules of && account_keeps_rules role
row_names_keep_rules (Restriction a p s) = account_keeps_rules a && is_identifier s

-- of each row that stands
pub record NamesKeepRules (state : State) : Type 0 where
  pub each : (row : Row) → IsTrue (state.rows row) → IsTrue (row_names_keep_rules row)

-- of a line, which is a GRANT or a REVOKE; nothing else is one
abbrev pub line_names_keep_rules : Statement → Bool
line_names_keep_rules (Grant privileges target accounts with_grant_option) = names_keep_rules (Grant privileges target accounts with_grant_option)
line_names_keep_rules (Revoke privileges target accounts) = names_keep_rules (Revoke privileges target accounts)
line_names_keep_rules (GrantRoles roles accounts with_admin_option) = list_all account_keeps_rules roles && list_all account_keeps_rules accounts
line_names_keep_rules _ = false

-- of an accepted statement: the names of accounts that it makes, columns, and what privileges and restrictions are on
abbrev pub statement_names_keep_rules : Statement → Bool
statement_names_keep_rules (CreateUser if_not_exists accounts options) = list_all (λ pair. account_keeps_rules pair.0) accounts
statement_names_keep_rules (CreateRole if_not_exists roles) = list_all account_keeps_rules roles
statement_names_keep_rules (RenameUser pairs) = list_all (λ pair. account_keeps_rules pair.1) pairs
statement_names_keep_rules statement = names_keep_rules statement

abbrev pub entry_names_keep_rules : Entry → Bool
entry_names_keep_rules entry = statement_names_keep_rules entry.statement && list_all (λ limit. is_identifier limit.schema) entry.limits
