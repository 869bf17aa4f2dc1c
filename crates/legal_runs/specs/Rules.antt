-- The answers of lines by what they read (MySQL 8.0 Reference Manual, "Access Control, Stage 2: Request Verification", "SET ROLE
-- Statement", "When Privilege Changes Take Effect").
use Rattle.std.specs.Prelude.{◌≡◌, Bool, false, not, ◌&&◌, IsTrue, List, [], Option, Some, None, AllPairs, codes, refl}
use Rattle.std.specs.Bool.{MatchBool}
use Rattle.std.specs.List.{find}
use Rattle.std.specs.declared.cmp.Ordering.TheVariants.{Less}
use Rattle.acl_model.specs.Effects.{state_after}
use Rattle.acl_model.specs.Roles.{AreSources, is_granted}
use Rattle.acl_model.specs.Rows.{lists}
use Rattle.acl_model.specs.State.{State}
use Rattle.acl_model.specs.Verdict.{Reading, Readings, verdict_of}
use Rattle.acl_model.specs.declared.row.Row.TheVariants.{Default as DefaultRow}
use Rattle.acl_names.specs.AuthId.{auth_cmp, same_auth}
use Rattle.acl_names.specs.declared.auth.AuthId.{AuthId}
use Rattle.acl_stmt.specs.Privileges.{is_priv_list}
use Rattle.acl_stmt.specs.declared.entry.Entry.{Entry}
use Rattle.acl_stmt.specs.declared.privileges.PrivList.{PrivList}
use Rattle.acl_stmt.specs.declared.refusal.Missing.{Missing}
use Rattle.acl_stmt.specs.declared.roles.RoleForm.{RoleForm}
use Rattle.acl_stmt.specs.declared.roles.RoleForm.TheVariants as form
use Rattle.acl_stmt.specs.declared.statement.Statement.{Statement}
use Rattle.acl_stmt.specs.declared.statement.Statement.TheVariants.{SetPassword}
use Rattle.acl_stmt.specs.declared.target.Target.{Target}
use Rattle.acl_stmt.specs.declared.target.Target.TheVariants as target
use Rattle.book_log.specs.Logs.{Origin}
use Rattle.legal_runs.specs.Commands.{Answer, Shown}
use Rattle.legal_runs.specs.Commands.Answer.{Allowed, Denied, MayNotSee, RefusedRole, Roles, Showing}
use Rattle.legal_runs.specs.Sessions.{Views, Who}
use Rattle.priv_map.specs.Readings.{IsReadAt, current_of}
use Rattle.priv_map.specs.declared.acting.Acting.{Acting}

-- what a run stands on: where its log begins, and what SHOW GRANTS shows a session where this stands
pub record Setting : Type 0 where
  pub origin : Origin
  pub shown : State → AuthId → List AuthId → Shown

-- what stands after these entries
abbrev pub state_of : Setting → List Entry → State
state_of on entries = state_after entries on.origin.start

-- what a session reads there: the state, and its sources in it
pub record IsReading (on : Setting) (who : Who) (entries : List Entry) (reading : Reading) : Type 0 where
  pub state_is : reading.state ≡ state_of on entries
  pub sources_are : AreSources reading.state who.account who.roles reading.sources

-- the session's copies, as they were read
pub record IsActing (on : Setting) (who : Who) (level schema : List Entry) (acting : Acting) : Type 0 where
  pub at_login : Reading
  pub at_use : Reading
  pub login_is : IsReading on who level at_login
  pub use_is : IsReading on who schema at_use
  pub account_is : acting.account ≡ who.account
  pub roles_are : acting.roles ≡ who.roles
  pub current_is : current_of acting ≡ who.current
  pub is_read : IsReadAt acting at_login at_use

abbrev pub verdict_answer : Option Missing → Answer
verdict_answer None = Allowed
verdict_answer (Some missing) = Denied missing

-- all three readings of a session
pub record AreReadings (on : Setting) (at : Views) (who : Who) (readings : Readings) : Type 0 where
  pub login_is : IsReading on who at.level readings.at_login
  pub use_is : IsReading on who at.schema readings.at_use
  pub present_is : IsReading on who at.present readings.at_present
  pub current_is : readings.current ≡ who.current

-- the verdict over what the session reads
pub record IsCheckAnswer (on : Setting) (at : Views) (who : Who) (privileges : PrivList) (target : Target) (answer : Answer) : Type 0 where
  pub readings : Readings
  pub are_read : AreReadings on at who readings
  pub answer_is : answer ≡ verdict_answer (verdict_of readings privileges target)

-- the roles that a form makes active
abbrev pub is_made_active : State → AuthId → RoleForm → AuthId → Bool
is_made_active state account form.Default role = is_granted state account role && state.rows (DefaultRow account role)
is_made_active state account form.Nothing role = false
is_made_active state account form.All role = is_granted state account role
is_made_active state account (form.AllExcept roles) role = is_granted state account role && not (lists roles role)
is_made_active state account (form.List roles) role = lists roles role

-- these, each once and in order
pub record AreMadeActive (state : State) (account : AuthId) (form : RoleForm) (roles : List AuthId) : Type 0 where
  pub in_order : AllPairs (λ one other. auth_cmp one other ≡ Less) roles
  pub just_these : (role : AuthId) → lists roles role ≡ is_made_active state account form role

-- the first of a list of roles that is not granted
abbrev pub not_granted : State → AuthId → RoleForm → Option AuthId
not_granted state account (form.List roles) = find (λ role. not (is_granted state account role)) roles
not_granted state account _ = None

abbrev pub IsRolesAnswerBy : State → AuthId → RoleForm → Option AuthId → Answer → Type 0
IsRolesAnswerBy state account form (Some role) answer = answer ≡ RefusedRole role
IsRolesAnswerBy state account form None answer = (roles : List AuthId) × (answer ≡ Roles roles) × AreMadeActive state account form roles

abbrev pub IsRolesAnswer : Setting → List Entry → Who → RoleForm → Answer → Type 0
IsRolesAnswer on present who form answer =
    IsRolesAnswerBy (state_of on present) who.account form (not_granted (state_of on present) who.account form) answer

-- the privilege by which other accounts are seen: SELECT on the schema `mysql`
pub select-listed : IsTrue (is_priv_list false (record { 0 = 1 }) [] 0)
unfolding is_priv_list
select-listed = refl

abbrev pub select_alone : PrivList
select_alone = record { all = false; plain = record { 0 = 1 }; columns = []; dynamic = 0; listed = select-listed }

abbrev pub show_answer : Option Missing → Shown → Answer
show_answer None shown = Showing shown
show_answer (Some missing) shown = MayNotSee missing

-- another account is shown to those who may see it
pub record IsShownOther (on : Setting) (at : Views) (who : Who) (account : AuthId) (roles : List AuthId) (answer : Answer) : Type 0 where
  pub readings : Readings
  pub are_read : AreReadings on at who readings
  pub answer_is : answer ≡ show_answer (verdict_of readings select_alone (target.Schema (codes "mysql"))) (on.shown (state_of on at.present) account roles)

-- the own account is shown to everybody
abbrev pub IsShowAnswer : Setting → Views → Who → Option AuthId → List AuthId → Answer → Type 0
IsShowAnswer on at who None roles answer = answer ≡ Showing (on.shown (state_of on at.present) who.account roles)
IsShowAnswer on at who (Some account) roles answer =
    MatchBool (same_auth account who.account)
    (answer ≡ Showing (on.shown (state_of on at.present) who.account roles))
    (IsShownOther on at who account roles answer)

-- SET PASSWORD without an account is for the session's own
abbrev pub completed : AuthId → Statement → Statement
completed account (SetPassword None verifier) = SetPassword (Some account) verifier
completed account other = other
