-- Worked examples: reports that are not legal, each for one rule that it breaks.
use Rattle.std.specs.Prelude.{ℕ, true, false, List, [], ◌∷◌, None, Ok, Err, codes}
use Rattle.account_match.specs.declared.client.Client.TheVariants.{Local}
use Rattle.acl_model.specs.State.{root}
use Rattle.acl_names.specs.Verifiers.{empty_verifier}
use Rattle.acl_stmt.specs.declared.refusal.Missing.{Missing}
use Rattle.acl_stmt.specs.declared.refusal.Refusal.TheVariants.{AccountExists}
use Rattle.acl_stmt.specs.declared.roles.RoleForm.TheVariants as form
use Rattle.acl_stmt.specs.declared.statement.Statement.{Statement}
use Rattle.acl_stmt.specs.declared.statement.Statement.TheVariants.{GrantRoles}
use Rattle.acl_stmt.specs.declared.target.Target.TheVariants.{Global}
use Rattle.book_log.specs.ExampleLogs.{ann, as_root, bob, create}
use Rattle.book_log.specs.Items.{Item, Knock, asked}
use Rattle.book_log.specs.Items.Call.{Knocks}
use Rattle.book_log.specs.Items.Reply.{ToLogin}
use Rattle.legal_runs.specs.Commands.{Answer, Command}
use Rattle.legal_runs.specs.Commands.Answer.{Connected, Denied, Done, RefusedStatement, Roles, Schema}
use Rattle.legal_runs.specs.Commands.Command.{Check, Connect, Issue, SetRole, UseSchema}
use Rattle.legal_runs.specs.ExampleRuns.{pay}
use Rattle.legal_runs.specs.Report.{LineAnswer, Report}
use Rattle.legal_runs.specs.Rules.{select_alone}
use Rattle.priv_map.specs.declared.held.Held.{Held}

abbrev pub knock : Knock
knock = record { user = codes "root"; client = Local; verifier = empty_verifier; moment = None }

-- root is let in after so many statements
abbrev pub let_in : ℕ → Held → ℕ → Item
let_in caller held position = record {
  caller = caller;
  number = 0;
  call = Knocks knock;
  reply = ToLogin (Ok (record { acting = as_root held; shown = root; position = position }));
}

-- an answer after which the session has read so many statements, and knows so many
abbrev pub line : ℕ → ℕ → Answer → LineAnswer
line read now answer = record { answer = answer; global = read; schema = read; now = now }

abbrev pub connected : ℕ → LineAnswer
connected position = line position position (Connected root)

abbrev pub ann_once : List (List Command)
ann_once = (Connect knock ∷ Issue (create ann) ∷ []) ∷ []

-- one statement of the session, and it stands in the log twice
abbrev pub called_twice : Held → Report
called_twice held = record {
  log = let_in 0 held 0 ∷ asked 0 1 (as_root held) (create ann) (Ok 1) ∷ asked 0 2 (as_root held) (create ann) (Err (AccountExists ann)) ∷ [];
  sessions = (connected 0 ∷ line 0 1 (Done 1 true) ∷ []) ∷ [];
}

-- a statement that the account system refused, and the log knows nothing of it
abbrev pub call_lost : Held → Report
call_lost held = record {
  log = let_in 0 held 0 ∷ [];
  sessions = (connected 0 ∷ line 0 0 (RefusedStatement (AccountExists ann)) ∷ []) ∷ [];
}

abbrev pub ann_and_bob : List (List Command)
ann_and_bob = (Connect knock ∷ Issue (create ann) ∷ Issue (create bob) ∷ []) ∷ []

-- the third call of the session has the number of a fourth
abbrev pub number_left_out : Held → Report
number_left_out held = record {
  log = let_in 0 held 0 ∷ asked 0 1 (as_root held) (create ann) (Ok 1) ∷ asked 0 3 (as_root held) (create bob) (Ok 2) ∷ [];
  sessions = (connected 0 ∷ line 0 1 (Done 1 true) ∷ line 0 2 (Done 2 true) ∷ []) ∷ [];
}

abbrev pub bob_to_root : Statement
bob_to_root = GrantRoles (bob ∷ []) (root ∷ []) false

-- session 0 creates ann and bob, then session 1 is let in, then session 0 grants bob to root
abbrev pub with_two_sessions : Held → List LineAnswer → Report
with_two_sessions held answers = record {
  log =
      let_in 0 held 0 ∷ asked 0 1 (as_root held) (create ann) (Ok 1) ∷ asked 0 2 (as_root held) (create bob) (Ok 2) ∷ let_in 1 held 2
      ∷ asked 0 3 (as_root held) bob_to_root (Ok 3) ∷ [];
  sessions = (connected 0 ∷ line 0 1 (Done 1 true) ∷ line 0 2 (Done 2 true) ∷ line 0 3 (Done 3 true) ∷ []) ∷ answers ∷ [];
}

abbrev pub by_root : List Command
by_root = Connect knock ∷ Issue (create ann) ∷ Issue (create bob) ∷ Issue bob_to_root ∷ []

abbrev pub used_twice : List (List Command)
used_twice = by_root ∷ (Connect knock ∷ UseSchema pay ∷ UseSchema pay ∷ []) ∷ []

-- the second look shows less than the first
abbrev pub now_falls : Held → Report
now_falls held = with_two_sessions held (connected 2 ∷ line 3 3 (Schema pay) ∷ line 2 2 (Schema pay) ∷ [])

abbrev pub checked_after : List (List Command)
checked_after = (Connect knock ∷ Issue (create ann) ∷ Check select_alone Global ∷ []) ∷ []

-- a check that knows nothing, after the session was told of its own statement
abbrev pub check_behind : Held → Missing → Report
check_behind held missing = record {
  log = let_in 0 held 0 ∷ asked 0 1 (as_root held) (create ann) (Ok 1) ∷ [];
  sessions = (connected 0 ∷ line 0 0 (Done 1 true) ∷ line 0 0 (Denied missing) ∷ []) ∷ [];
}

abbrev pub role_set : List (List Command)
role_set = by_root ∷ (Connect knock ∷ SetRole (form.List (bob ∷ [])) ∷ []) ∷ []

-- the role is granted by the third statement, and the session knows two
abbrev pub answered_later : Held → Report
answered_later held = with_two_sessions held (connected 2 ∷ line 2 2 (Roles (bob ∷ [])) ∷ [])
