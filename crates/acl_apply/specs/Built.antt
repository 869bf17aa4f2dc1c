-- The statements that can be carried out so far.
use Rattle.std.specs.Prelude.{Bool, true, false}
use Rattle.acl_stmt.specs.declared.statement.Statement.{Statement}
use Rattle.acl_stmt.specs.declared.statement.Statement.TheVariants.{CreateUser, DropUser, Grant, RenameUser, Revoke, RevokeAll}

abbrev pub is_built : Statement → Bool
is_built (CreateUser if_not_exists accounts options) = true
is_built (DropUser if_exists accounts) = true
is_built (RenameUser pairs) = true
is_built (Grant privileges target accounts with_grant_option) = true
is_built (Revoke privileges target accounts) = true
is_built (RevokeAll accounts) = true
is_built _ = false
