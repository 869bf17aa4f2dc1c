-- What a line does and how it is answered, by the statements that are accepted before it and after it.
use Rattle.std.specs.Prelude.{◌≡◌, ℕ, true, false, List, [], ◌∷◌, length, None, Some}
use Rattle.acl_model.specs.Accounts.{new_account}
use Rattle.acl_model.specs.Effects.{state_after}
use Rattle.acl_model.specs.State.{State, opening, stands}
use Rattle.acl_model.specs.declared.row.Row.TheVariants.{Edge}
use Rattle.acl_names.specs.declared.auth.AuthId.{AuthId}
use Rattle.acl_stmt.specs.declared.entry.Entry.{Entry}
use Rattle.acl_stmt.specs.declared.statement.Statement.{Statement}
use Rattle.book_log.specs.Histories.{stored}
use Rattle.book_log.specs.Logs.{IsReply, entries_at, with_end}
use Rattle.book_log.specs.Pasts.{Past}
use Rattle.legal_runs.specs.Sessions.{Part}
use Rattle.legal_runs.specs.Sessions.Part.{Called}
use Rattle.serial_runs.specs.Parts.{looked_parts, told_part}
use Rattle.serial_runs.specs.Serial.{Doing, is_told}
use Rattle.serial_runs.specs.Serial.Doing.{Calls, Looks}
use Rattle.session_rules.specs.Setting.{origin, rules}

-- what stands after the accepted statements
abbrev pub state_now : List Entry → State
state_now entries = state_after entries opening

-- every account is open to the empty password, and no role is granted or mandatory
pub record IsOpen (state : State) : Type 0 where
  pub accounts : (account : AuthId) → stands state account ≡ true → state.account_data account ≡ Some new_account
  pub no_edges : (role account : AuthId) → state.rows (Edge role account) ≡ false
  pub no_mandatory : state.mandatory ≡ []

-- the parts of a line of the session with this number, which has made so many calls before
abbrev pub parts_for : List Entry → List Entry → ℕ → ℕ → Doing → List Part
parts_for before after caller number (Looks looks) = looked_parts (length before) looks
parts_for before after caller number (Calls chosen call reply) =
    Called (record { caller = caller; number = number; call = call; reply = reply }) ∷ told_part (length after) (is_told reply)

-- what is accepted by it
abbrev pub stored_for : ℕ → ℕ → Doing → List Entry
stored_for caller number (Looks looks) = []
stored_for caller number (Calls chosen call reply) = stored rules caller number call reply

-- the reply is that of the rules after each log by which these statements are accepted
abbrev pub IsRepliedAfter : List Entry → ℕ → ℕ → Doing → Type 0
IsRepliedAfter before caller number (Looks looks) = Unit {0}
IsRepliedAfter before caller number (Calls chosen call reply) =
    (past : Past) → entries_at origin past ≡ before →
    IsReply (with_end None origin) past (record { item = record { caller = caller; number = number; call = call; reply = reply }; chosen = chosen })

-- the statement as a caller's next call, on behalf of its account
pub record IsEntryOf (caller number : ℕ) (account : AuthId) (statement : Statement) (entry : Entry) : Type 0 where
  pub caller_is : entry.caller.0 ≡ caller
  pub number_is : entry.number ≡ number
  pub by_is : entry.by ≡ account
  pub no_limits : entry.limits ≡ []
  pub statement_is : entry.statement ≡ statement
