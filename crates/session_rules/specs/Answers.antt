-- How the answers of a run are told.
use Rattle.std.specs.Prelude.{ℕ, ◌==◌, true, List, [], Option, Some, None, if◌then◌else◌, slice_get}
use Rattle.std.specs.List.{find}
use Rattle.acl_stmt.specs.declared.columns.ColumnPriv.{ColumnPriv}
use Rattle.acl_stmt.specs.declared.privileges.PrivList.{PrivList}
use Rattle.acl_stmt.specs.declared.refusal.Missing.{Missing}
use Rattle.acl_stmt.specs.declared.refusal.Refusal.{Refusal}
use Rattle.acl_stmt.specs.declared.refusal.Refusal.TheVariants as why
use Rattle.acl_stmt.specs.declared.target.Target.{Target}
use Rattle.acl_stmt.specs.declared.target.Target.TheVariants as on
use Rattle.book_log.specs.Items.{LoginRefusal}
use Rattle.book_log.specs.Items.LoginRefusal.{NoAccount}
use Rattle.legal_runs.specs.Commands.{Answer, Command}
use Rattle.legal_runs.specs.Commands.Answer.{Allowed, Bye, Connected, Denied, Done, NoMemory, NotConnected, RefusedLogin, RefusedStatement, Schema}
use Rattle.legal_runs.specs.Commands.Command.{Check}
use Rattle.line_answers.specs.declared.answer.Answer.{Answer as ToldAnswer}
use Rattle.line_answers.specs.declared.answer.Answer.TheVariants as told
use Rattle.line_answers.specs.declared.answer.Denial.{Denial}
use Rattle.line_answers.specs.declared.answer.LineRefusal.TheVariants as refused
use Rattle.line_answers.specs.declared.answer.LoginRefusal.TheVariants as login
use Rattle.priv_sets.specs.declared.privilege.Privilege.{Privilege}
use Rattle.priv_sets.specs.declared.privilege.Privilege.TheVariants.{Plain, Dynamic}

abbrev pub names_in : Option ColumnPriv → List (List ℕ)
names_in None = []
names_in (Some columns) = columns.names

-- the columns that a request names for a privilege
abbrev pub columns_of : PrivList → Privilege → List (List ℕ)
columns_of privileges (Plain p) = names_in (find (λ columns. columns.privilege == p) privileges.columns)
columns_of privileges (Dynamic d) = []

abbrev pub column_at : List (List ℕ) → Option ℕ → Option (List ℕ)
column_at names None = None
column_at names (Some place) = slice_get names place

-- what is told of a missing privilege of a request
abbrev pub denial_for : PrivList → Target → Missing → Denial
denial_for privileges target missing = record {
  missing = missing;
  target = if missing.on_target then target else on.Global;
  column = column_at (columns_of privileges missing.privilege) missing.column;
}

-- what is told of a privilege that a statement needs on `*.*`
abbrev pub denial_on_all : Missing → Denial
denial_on_all missing = record { missing = missing; target = on.Global; column = None }

abbrev pub told_denial : Command → Missing → Option ToldAnswer
told_denial (Check privileges target) missing = Some (told.Denied (denial_for privileges target missing))
told_denial _ missing = None

-- no statement meets a fault of a disk, since none is written
abbrev pub told_refusal : Refusal → Option ToldAnswer
told_refusal (why.Denied missing) = Some (told.Refused (refused.Denied (denial_on_all missing)))
told_refusal why.DiskFault = None
told_refusal other = Some (told.Refused (refused.Statement other))

-- no account is blocked or locked, and none has a password
abbrev pub told_login : LoginRefusal → Option ToldAnswer
told_login NoAccount = Some (told.Refused (refused.Login login.NoAccount))
told_login _ = None

-- how an answer is told; none for one that no line has so far
abbrev pub told_answer : Command → Answer → Option ToldAnswer
told_answer command (Connected account) = Some (told.Connected account)
told_answer command Bye = Some told.Bye
told_answer command (Schema schema) = Some (told.Schema schema)
told_answer command Allowed = Some told.Allowed
told_answer command (Denied missing) = told_denial command missing
told_answer command (Done position true) = Some (told.Done position)
told_answer command (RefusedStatement why) = told_refusal why
told_answer command (RefusedLogin why) = told_login why
told_answer command NotConnected = Some (told.Refused refused.NotConnected)
told_answer command NoMemory = Some (told.Refused refused.NoMemory)
told_answer command _ = None
