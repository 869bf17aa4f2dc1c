-- Names within their rules, as a GRANT or a REVOKE of privileges holds them.
use Rattle.std.specs.Prelude.{Bool, true, ◌&&◌, List}
use Rattle.std.specs.List.{list_all}
use Rattle.std.specs.Str.{IsUtf8}
use Rattle.acl_names.specs.declared.auth.AuthId.{AuthId}
use Rattle.acl_stmt.specs.declared.columns.ColumnPriv.{ColumnPriv}
use Rattle.acl_stmt.specs.declared.statement.Statement.{Statement}
use Rattle.acl_stmt.specs.declared.statement.Statement.TheVariants.{Grant, Revoke}
use Rattle.acl_stmt.specs.declared.target.Target.{Target}
use Rattle.acl_stmt.specs.declared.target.Target.TheVariants as on
use Rattle.canonical_texts.specs.Rules.{account_keeps_rules}
use Rattle.grant_words.specs.Classes.{is_identifier}
use Rattle.grant_words.specs.declared.lexeme.Lexeme.{Lexeme}

-- the token stands for UTF-8
abbrev pub IsText : Lexeme → Type 0
IsText lexeme = IsUtf8 lexeme.value

abbrev pub columns_keep_rules : ColumnPriv → Bool
columns_keep_rules columns = list_all is_identifier columns.names

abbrev pub target_keeps_rules : Target → Bool
target_keeps_rules on.Global = true
target_keeps_rules (on.Schema schema) = is_identifier schema
target_keeps_rules (on.Table schema table) = is_identifier schema && is_identifier table
target_keeps_rules (on.Function schema routine) = is_identifier schema && is_identifier routine
target_keeps_rules (on.Procedure schema routine) = is_identifier schema && is_identifier routine

abbrev pub parts_keep_rules : List ColumnPriv → Target → List AuthId → Bool
parts_keep_rules columns target accounts =
    list_all columns_keep_rules columns && target_keeps_rules target && list_all account_keeps_rules accounts

-- nothing is said of other statements
abbrev pub names_keep_rules : Statement → Bool
names_keep_rules (Grant privileges target accounts with_grant_option) = parts_keep_rules privileges.columns target accounts
names_keep_rules (Revoke privileges target accounts) = parts_keep_rules privileges.columns target accounts
names_keep_rules _ = true
