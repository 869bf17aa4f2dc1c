-- The commands that a run takes so far.
use Rattle.std.specs.Prelude.{Bool, true, false, ◌&&◌, ◌==◌, not, is_some, []}
use Rattle.std.specs.List.{list_all}
use Rattle.account_match.specs.declared.client.Client.{Client}
use Rattle.account_match.specs.declared.client.Client.TheVariants.{Local}
use Rattle.acl_names.specs.Text.{text_eq}
use Rattle.acl_names.specs.Verifiers.{empty_verifier}
use Rattle.acl_names.specs.declared.policy.Verifier.{Verifier}
use Rattle.acl_stmt.specs.Entries.{is_entry}
use Rattle.acl_stmt.specs.declared.options.AccountOptions.{AccountOptions}
use Rattle.acl_stmt.specs.declared.privileges.PrivList.{PrivList}
use Rattle.acl_stmt.specs.declared.statement.Statement.{Statement as AnyStatement}
use Rattle.acl_stmt.specs.declared.statement.Statement.TheVariants.{CreateUser, DropUser, Grant, RenameUser, Revoke, RevokeAll}
use Rattle.script_read.specs.declared.command.Command.{Command}
use Rattle.script_read.specs.declared.command.Command.TheVariants.{Connect, Disconnect, UseSchema, Check, Statement}

abbrev pub is_local : Client → Bool
is_local Local = true
is_local _ = false

-- the verifier is that of the empty password
abbrev pub has_no_password : Verifier → Bool
has_no_password verifier = text_eq verifier.0 empty_verifier.0

-- the list names no dynamic privilege
abbrev pub is_static : PrivList → Bool
is_static privileges = privileges.dynamic == 0

abbrev pub has_no_options : AccountOptions → Bool
has_no_options options = not (is_some options.attempts) && not (is_some options.days) && not (is_some options.locked)

-- CREATE USER without passwords and options, DROP USER, RENAME USER, GRANT and REVOKE of static privileges, REVOKE ALL
abbrev pub is_built_statement : AnyStatement → Bool
is_built_statement (CreateUser if_not_exists accounts options) = list_all (λ account. has_no_password account.1) accounts && has_no_options options
is_built_statement (DropUser if_exists accounts) = true
is_built_statement (RenameUser pairs) = true
is_built_statement (RevokeAll accounts) = true
is_built_statement (Grant privileges target accounts with_grant_option) = is_static privileges
is_built_statement (Revoke privileges target accounts) = is_static privileges
is_built_statement _ = false

-- CONNECT of a local client without a password and a moment, DISCONNECT, USE, CHECK of static privileges, and these statements
abbrev pub is_built : Command → Bool
is_built (Connect user client verifier moment) = is_local client && has_no_password verifier && not (is_some moment)
is_built Disconnect = true
is_built (UseSchema schema) = true
is_built (Check request) = is_static request.privileges
is_built (Statement statement) = is_built_statement statement
is_built _ = false

-- a statement keeps the rules of a history
abbrev pub keeps_rules : Command → Bool
keeps_rules (Statement statement) = is_entry [] statement
keeps_rules _ = true
