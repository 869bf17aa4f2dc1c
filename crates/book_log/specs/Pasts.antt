-- What a log says of moments and of each account's failed logins (MySQL 8.0 Reference Manual, "CREATE USER Statement",
-- FAILED_LOGIN_ATTEMPTS and PASSWORD_LOCK_TIME).
use Rattle.std.specs.Prelude.{ℤ, pos, Bool, false, not, ◌&&◌, ◌||◌, List, [], ◌∷◌, ◌++◌, Option, Some, None, Result, Ok, Err, is_some, if◌then◌else◌}
use Rattle.std.specs.Int.{int_max}
use Rattle.std.specs.List.{list_any}
use Rattle.acl_model.specs.Accounts.{is_altered}
use Rattle.acl_model.specs.Words.{drops}
use Rattle.acl_names.specs.AuthId.{same_auth}
use Rattle.acl_names.specs.declared.auth.AuthId.{AuthId}
use Rattle.acl_stmt.specs.declared.options.AccountOptions.{AccountOptions}
use Rattle.acl_stmt.specs.declared.statement.Statement.{Statement}
use Rattle.acl_stmt.specs.declared.statement.Statement.TheVariants.{AlterUser, RenameUser}
use Rattle.book_log.specs.Items.{Call, Item, Login, LoginRefusal, Reply}
use Rattle.book_log.specs.Items.Call.{Asks, Knocks}
use Rattle.book_log.specs.Items.LoginRefusal.{BadPassword, Blocked, Ended, Locked, NoAccount}
use Rattle.book_log.specs.Items.Reply.{ToLogin, ToStatement}
use Rattle.login_throttle.specs.History.{Event}
use Rattle.login_throttle.specs.History.Event.{Answered, Cleared}
use Rattle.login_throttle.specs.declared.tracking.Tried.TheVariants as tried

-- an item, and the account that its login chose: none for a statement, and for a login that was compared with no account
pub record Noted : Type 0 where
  pub item : Item
  pub chosen : Option AuthId

-- the items so far, the newest first
abbrev pub Past : Type 0
Past = List Noted

-- the log of them, the oldest first
abbrev pub log_of : Past → List Item
log_of [] = []
log_of (noted ∷ past) = log_of past ++ noted.item ∷ []

-- a moment that is not given, or that is before the last one used, is the last one used
abbrev pub at_moment : ℤ → Option ℤ → ℤ
at_moment last None = last
at_moment last (Some given) = int_max last given

abbrev pub moment_after : ℤ → Call → ℤ
moment_after last (Asks acting statement) = last
moment_after last (Knocks knock) = at_moment last knock.moment

-- the greatest of 0 and of all moments that were given to logins
abbrev pub moment_of : Past → ℤ
moment_of [] = pos 0
moment_of (noted ∷ past) = moment_after (moment_of past) noted.item.call

-- ACCOUNT UNLOCK
abbrev pub unlocks : Option Bool → Bool
unlocks None = false
unlocks (Some locked) = not locked

-- FAILED_LOGIN_ATTEMPTS or PASSWORD_LOCK_TIME is given, or ACCOUNT UNLOCK
abbrev pub options_clear : AccountOptions → Bool
options_clear options = is_some options.attempts || is_some options.days || unlocks options.locked

-- an accepted statement that sets the account's failures to none: it drops the account, takes its name from it or gives it to
-- it, unlocks it, or sets an option of its policy
unfoldable pub clears : Statement → AuthId → Bool
clears (AlterUser accounts options) account = is_altered account accounts && options_clear options
clears (RenameUser pairs) account = list_any (λ pair. same_auth account pair.0 || same_auth account pair.1) pairs
clears other account = drops other account

-- what the answer to a login means for the account that it chose; a locked account was asked for its password, which was right
abbrev pub login_events : ℤ → Result Login LoginRefusal → List Event
login_events moment (Ok login) = Cleared ∷ []
login_events moment (Err NoAccount) = []
login_events moment (Err (Blocked left)) = Answered moment (tried.Blocked left) ∷ []
login_events moment (Err BadPassword) = Answered moment tried.Wrong ∷ []
login_events moment (Err (Locked account)) = Answered moment tried.Open ∷ []
login_events moment (Err Ended) = []

abbrev pub is_account : AuthId → Option AuthId → Bool
is_account account None = false
is_account account (Some chosen) = same_auth account chosen

-- what a call that was replied to at a moment means for an account
abbrev pub events_in : AuthId → Option AuthId → ℤ → Call → Reply → List Event
events_in account chosen moment (Asks acting statement) (ToStatement (Ok position)) = if clears statement account then Cleared ∷ [] else []
events_in account chosen moment (Knocks knock) (ToLogin answer) = if is_account account chosen then login_events moment answer else []
events_in account chosen moment _ _ = []

-- all that happened to an account, the newest first
abbrev pub events_of : AuthId → Past → List Event
events_of account [] = []
events_of account (noted ∷ past) =
    events_in account noted.chosen (moment_after (moment_of past) noted.item.call) noted.item.call noted.item.reply ++ events_of account past
