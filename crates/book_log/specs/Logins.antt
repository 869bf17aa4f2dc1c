-- The reply to a login (MySQL 8.0 Reference Manual, "Access Control, Stage 1: Connection Verification", "Using Roles"; the order of
-- the refusals is this product's own choice).
use Rattle.std.specs.Prelude.{◌≡◌, ℕ, ℤ, Bool, true, false, ◌&&◌, ◌||◌, List, Option, Some, None, Result, Ok, Err, AllPairs, slice_get}
use Rattle.std.specs.List.{list_any}
use Rattle.std.specs.Option.{ForSome, option_map}
use Rattle.std.specs.declared.cmp.Ordering.TheVariants.{Less}
use Rattle.account_match.specs.Choice.{IsChoice}
use Rattle.account_match.specs.declared.listed.Listed.{Listed}
use Rattle.acl_model.specs.Roles.{AreSources, is_granted}
use Rattle.acl_model.specs.Rows.{lists}
use Rattle.acl_model.specs.State.{State, stands}
use Rattle.acl_model.specs.declared.account_data.AccountData.{AccountData}
use Rattle.acl_model.specs.declared.row.Row.TheVariants.{Default}
use Rattle.acl_names.specs.AuthId.{auth_cmp, same_auth}
use Rattle.acl_names.specs.Text.{text_eq}
use Rattle.acl_names.specs.declared.auth.AuthId.{AuthId}
use Rattle.acl_names.specs.declared.policy.Verifier.{Verifier}
use Rattle.book_log.specs.Items.{Knock, Login, LoginRefusal}
use Rattle.book_log.specs.Items.LoginRefusal.{BadPassword, Blocked, Locked, NoAccount}
use Rattle.login_throttle.specs.History.{Event, blocking_failure}
use Rattle.login_throttle.specs.Tracking.{answer_of}
use Rattle.login_throttle.specs.declared.tracking.Tried.{Tried}
use Rattle.login_throttle.specs.declared.tracking.Tried.TheVariants as tried
use Rattle.priv_map.specs.Readings.{IsReadAt}

abbrev pub auth_at : List Listed → Option ℕ → Option AuthId
auth_at accounts None = None
auth_at accounts (Some place) = option_map (λ listed. listed.auth) (slice_get accounts place)

-- the account that the client is let in by, of those that stand; none where none admits it
pub record IsChosenAccount (state : State) (knock : Knock) (chosen : Option AuthId) : Type 0 where
  pub accounts : List Listed
  pub place : Option ℕ
  pub just_standing : (account : AuthId) → stands state account ≡ list_any (λ listed. same_auth account listed.auth) accounts
  pub is_choice : IsChoice accounts knock.user knock.client place
  pub chosen_is : chosen ≡ auth_at accounts place

-- the account by the choice in use: the manual's, or the other one
abbrev pub IsChosenBy : Option (State → Knock → Option AuthId) → State → Knock → Option AuthId → Type 0
IsChosenBy None state knock chosen = IsChosenAccount state knock chosen
IsChosenBy (Some choice) state knock chosen = (chosen ≡ choice state knock) × ForSome chosen (λ account. stands state account ≡ true)

-- the roles that are active at login, each once and in order: the default ones of those that are granted, or all of them
pub record AreActiveAtLogin (state : State) (account : AuthId) (roles : List AuthId) : Type 0 where
  pub in_order : AllPairs (λ one other. auth_cmp one other ≡ Less) roles
  pub just_these : (role : AuthId) → lists roles role ≡ (is_granted state account role && (state.activate_all || state.rows (Default account role)))

-- a session of the account, which has read its global level and chosen no schema, after so many accepted statements
pub record IsLogin (state : State) (position : ℕ) (account : AuthId) (login : Login) : Type 0 where
  pub sources : List AuthId
  pub shown_is : login.shown ≡ account
  pub account_is : login.acting.account ≡ account
  pub roles_are : AreActiveAtLogin state account login.acting.roles
  pub sources_are : AreSources state account login.acting.roles sources
  pub is_read : IsReadAt login.acting (record { state = state; sources = sources }) (record { state = state; sources = sources })
  pub no_schema : login.acting.current ≡ None
  pub position_is : login.position ≡ position

-- the password is right and the account not blocked
abbrev pub IsOpened : State → ℕ → AuthId → Bool → Result Login LoginRefusal → Type 0
IsOpened state position account true answer = answer ≡ Err (Locked account)
IsOpened state position account false answer = (login : Login) × (answer ≡ Ok login) × IsLogin state position account login

abbrev pub IsAnswerTo : State → ℕ → AuthId → AccountData → Tried → Result Login LoginRefusal → Type 0
IsAnswerTo state position account account_data (tried.Blocked left) answer = answer ≡ Err (Blocked left)
IsAnswerTo state position account account_data tried.Wrong answer = answer ≡ Err BadPassword
IsAnswerTo state position account account_data tried.Open answer = IsOpened state position account account_data.locked answer

abbrev pub is_password : Verifier → Verifier → Bool
is_password kept given = text_eq kept.0 given.0

-- what the password is told at a moment, by the failures that count of all that happened to the account
abbrev pub tried_at : AccountData → List Event → ℤ → Verifier → Tried
tried_at account_data events moment given =
    answer_of account_data.policy (blocking_failure account_data.policy events) moment (is_password account_data.verifier given)

-- the reply to a login at a moment, where it chose this account and this happened to each account
abbrev pub IsLoginReply : State → ℕ → (AuthId → List Event) → ℤ → Knock → Option AuthId → Result Login LoginRefusal → Type 0
IsLoginReply state position events moment knock None answer = answer ≡ Err NoAccount
IsLoginReply state position events moment knock (Some account) answer =
    (account_data : AccountData)
    × (state.account_data account ≡ Some account_data)
    × IsAnswerTo state position account account_data (tried_at account_data (events account) moment knock.verifier) answer
