-- Stamps answer as the count over the log does.
use Rattle.std.proofs.Common.{◌≡◌, ℤ, ◌≤ℤ◌, Bool, Some}
use Rattle.std.specs.Option.{ForSome}
use Rattle.acl_model.specs.declared.account_data.AccountData.{AccountData}
use Rattle.acl_names.specs.declared.auth.AuthId.{AuthId}
use Rattle.book_log.proofs.Counted.{is_followed, is_history}
use Rattle.book_log.specs.Logs.{IsLegalPast, Origin, state_at}
use Rattle.book_log.specs.Pasts.{Past, events_of, moment_of}
use Rattle.login_throttle.proofs.Histories.{answers_by_count, block_began, some_stamp}
use Rattle.login_throttle.specs.History.{IsStampOf, blocking_failure}
use Rattle.login_throttle.specs.Tracking.{answer_of}
use Rattle.login_throttle.specs.declared.stamp.Stamp.{Stamp}

pub stamp_exists : (origin : Origin) (past : Past) (account : AuthId) (account_data : AccountData) → IsLegalPast origin past →
    (state_at origin past).account_data account ≡ Some account_data → (stamp : Stamp) × IsStampOf account_data.policy (events_of account past) stamp
stamp_exists origin past account account_data legal known =
    some_stamp account_data.policy (events_of account past) (is_history origin past account account_data legal known)

pub stamp_answers : (origin : Origin) (past : Past) (account : AuthId) (account_data : AccountData) (stamp : Stamp) (moment : ℤ) (right : Bool) →
    IsLegalPast origin past → (state_at origin past).account_data account ≡ Some account_data →
    IsStampOf account_data.policy (events_of account past) stamp → moment_of past ≤ℤ moment →
    answer_of account_data.policy stamp.blocked_at moment right ≡ answer_of account_data.policy (blocking_failure account_data.policy (events_of account past)) moment right
stamp_answers origin past account account_data stamp moment right legal known is order =
    answers_by_count account_data.policy (events_of account past) stamp moment right (is_history origin past account account_data legal known) is
    (is_followed origin past account moment legal order)

pub stamp_began : (origin : Origin) (past : Past) (account : AuthId) (account_data : AccountData) (stamp : Stamp) (moment : ℤ) →
    IsLegalPast origin past → IsStampOf account_data.policy (events_of account past) stamp → moment_of past ≤ℤ moment →
    ForSome stamp.blocked_at (λ since. since ≤ℤ moment)
stamp_began origin past account account_data stamp moment legal is order =
    block_began account_data.policy (events_of account past) stamp moment is (is_followed origin past account moment legal order)
