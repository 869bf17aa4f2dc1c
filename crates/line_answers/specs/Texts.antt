-- The text of each answer.
use Rattle.std.specs.Prelude.{ℕ, List, [], ◌++◌, Option, Some, None, codes, decimal}
use Rattle.acl_names.specs.AuthId.{auth_text}
use Rattle.acl_names.specs.Quoted.{pair_text, quoted}
use Rattle.acl_stmt.specs.declared.refusal.Full.{Full as FullOf}
use Rattle.acl_stmt.specs.declared.refusal.Full.TheVariants as full
use Rattle.acl_stmt.specs.declared.refusal.Refusal.{Refusal}
use Rattle.acl_stmt.specs.declared.refusal.Refusal.TheVariants.{Closed, Denied as DeniedStatement, NoSuchAccount, AccountExists, Mandatory, NotGranted, Loop, NoSuchGrant, Full, HistoryFull, DiskFault, NoMemory as NoMemoryForStatement}
use Rattle.acl_stmt.specs.declared.refusal.Why.{Why}
use Rattle.acl_stmt.specs.declared.refusal.Why.TheVariants.{NoGrant, Restricted}
use Rattle.acl_stmt.specs.declared.target.Target.{Target}
use Rattle.acl_stmt.specs.declared.target.Target.TheVariants as on
use Rattle.priv_sets.specs.Privileges.{privilege_name}
use Rattle.line_answers.specs.declared.answer.Answer.{Answer}
use Rattle.line_answers.specs.declared.answer.Answer.TheVariants.{Connected, Bye, Schema, Allowed, Denied as DeniedCheck, Done, Refused}
use Rattle.line_answers.specs.declared.answer.Denial.{Denial}
use Rattle.line_answers.specs.declared.answer.LineRefusal.{LineRefusal}
use Rattle.line_answers.specs.declared.answer.LineRefusal.TheVariants.{NotConnected, Denied, Statement, Login, NoMemory}
use Rattle.line_answers.specs.declared.answer.LoginRefusal.{LoginRefusal}
use Rattle.line_answers.specs.declared.answer.LoginRefusal.TheVariants.{NoAccount}

-- what a privilege is missing on
abbrev pub object_text : Target → List ℕ
object_text on.Global = codes "*.*"
object_text (on.Schema schema) = quoted schema ++ codes ".*"
object_text (on.Table schema table) = pair_text schema table
object_text (on.Function schema name) = codes "FUNCTION " ++ pair_text schema name
object_text (on.Procedure schema name) = codes "PROCEDURE " ++ pair_text schema name

abbrev pub column_text : Option (List ℕ) → List ℕ
column_text None = []
column_text (Some column) = codes " (" ++ (quoted column ++ codes ")")

abbrev pub why_text : Why → List ℕ
why_text NoGrant = []
why_text Restricted = codes " restricted"

-- a privilege that is missing
abbrev pub denial_text : Denial → List ℕ
denial_text denial =
    codes "denied " ++ (privilege_name denial.missing.privilege ++ (column_text denial.column ++
    (codes " ON " ++ (object_text denial.target ++ why_text denial.missing.why))))

-- a limit that would be exceeded
abbrev pub full_text : FullOf → List ℕ
full_text full.Accounts = codes "full accounts 4096"
full_text full.Schemas = codes "full schemas 4096"
full_text full.Pairs = codes "full pairs 262144"
full_text full.Objects = codes "full objects 65536"
full_text full.Edges = codes "full edges 65536"

-- why a statement is refused
abbrev pub refusal_text : Refusal → List ℕ
refusal_text Closed = codes "closed"
refusal_text (DeniedStatement missing) = codes "denied"
refusal_text (NoSuchAccount account) = codes "no such account " ++ auth_text account
refusal_text (AccountExists account) = codes "account exists " ++ auth_text account
refusal_text (Mandatory role) = codes "mandatory role " ++ auth_text role
refusal_text (NotGranted role account) = codes "not granted " ++ (auth_text role ++ (codes " to " ++ auth_text account))
refusal_text (Loop role account) = codes "loop " ++ (auth_text role ++ (codes " to " ++ auth_text account))
refusal_text (NoSuchGrant account) = codes "no such grant for " ++ auth_text account
refusal_text (Full what) = full_text what
refusal_text HistoryFull = codes "history full"
refusal_text DiskFault = codes "disk fault"
refusal_text NoMemoryForStatement = codes "no memory"

-- why a login is refused
abbrev pub login_text : LoginRefusal → List ℕ
login_text NoAccount = codes "no account"

-- why a line is refused
abbrev pub reason_text : LineRefusal → List ℕ
reason_text NotConnected = codes "not connected"
reason_text (Denied denial) = denial_text denial
reason_text (Statement refusal) = refusal_text refusal
reason_text (Login refusal) = login_text refusal
reason_text NoMemory = codes "no memory"

-- an answer
abbrev pub answer_text : Answer → List ℕ
answer_text (Connected account) = codes "connected " ++ auth_text account
answer_text Bye = codes "bye"
answer_text (Schema schema) = codes "schema " ++ quoted schema
answer_text Allowed = codes "allowed"
answer_text (DeniedCheck denial) = denial_text denial
answer_text (Done position) = codes "done " ++ decimal position
answer_text (Refused why) = codes "refused " ++ reason_text why
