-- What the lines of a session ask for, and what they are answered (MySQL 8.0 Reference Manual, "Access Control and Account
-- Management").
use Rattle.std.specs.Prelude.{ℕ, Bool, List, Option}
use Rattle.acl_names.specs.declared.auth.AuthId.{AuthId}
use Rattle.acl_stmt.specs.declared.privileges.PrivList.{PrivList}
use Rattle.acl_stmt.specs.declared.refusal.Missing.{Missing}
use Rattle.acl_stmt.specs.declared.refusal.Refusal.{Refusal}
use Rattle.acl_stmt.specs.declared.roles.RoleForm.{RoleForm}
use Rattle.acl_stmt.specs.declared.statement.Statement.{Statement}
use Rattle.acl_stmt.specs.declared.target.Target.{Target}
use Rattle.book_log.specs.Items.{Knock, LoginRefusal}

pub data Command : Type 0 where
  Connect : Knock → Command
  Disconnect : Command
  -- the schema becomes the current one
  UseSchema : List ℕ → Command
  SetRole : RoleForm → Command
  -- whether the session has these privileges on the target
  Check : PrivList → Target → Command
  -- SHOW GRANTS of an account, its own where none is given, using these roles
  ShowGrants : Option AuthId → List AuthId → Command
  -- until so many statements are published, and so many looks at most
  Await : ℕ → ℕ → Command
  Issue : Statement → Command

-- what SHOW GRANTS is answered
pub data Shown : Type 0 where
  Lines : List (List ℕ) → Shown
  NoSuchAccount : AuthId → Shown
  RoleNotGranted : AuthId → Shown

pub data Answer : Type 0 where
  Connected : AuthId → Answer
  Bye : Answer
  Schema : List ℕ → Answer
  Roles : List AuthId → Answer
  Allowed : Answer
  Denied : Missing → Answer
  Showing : Shown → Answer
  -- SHOW GRANTS of another account, by a session that may not see it
  MayNotSee : Missing → Answer
  Reached : Answer
  NotYet : Answer
  -- the statement is accepted, and published or not yet
  Done : ℕ → Bool → Answer
  RefusedStatement : Refusal → Answer
  RefusedLogin : LoginRefusal → Answer
  RefusedRole : AuthId → Answer
  NotConnected : Answer
  NoMemory : Answer
  NoEntry : Answer
