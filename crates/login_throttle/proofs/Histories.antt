-- The stamps that a history leaves, by what an attempt promises of each.
use Rattle.std.proofs.Common.{◌≡◌, ◌∙◌, refl, sym, ap, subst, ℕ, ◌+◌, ◌%◌, ◌<◌, ◌==◌, ℤ, ◌≤ℤ◌, Bool, true, false, if◌then◌else◌, Option, Some, None, IfSome, List, [], ◌∷◌, IsTrue, arith}
use Rattle.std.proofs.Math.Nat.{mod-lt}
use Rattle.std.proofs.lemmas.Bool.{true≢false}
use Rattle.std.proofs.lemmas.Int.{ints}
use Rattle.std.specs.Int.Signed.{≤ℤ_refl}
use Rattle.std.specs.Option.{ForSome}
use Rattle.acl_names.specs.declared.policy.Policy.{Policy}
use Rattle.login_throttle.proofs.Counting.{blocked_by, cleared_shows, fresh_shows, open_answer, rest_of, shown_after, shown_answer, some_attempts, untracked_open}
use Rattle.login_throttle.specs.declared.stamp.Stamp.{Stamp}
use Rattle.login_throttle.specs.declared.tracking.Tried.{Tried}
use Rattle.login_throttle.specs.declared.tracking.Tried.TheVariants.{Open, Wrong, Blocked}
use Rattle.login_throttle.specs.History.{Event, Answered, Cleared, Follows, IsHistory, MayLeave, IsStampOf, ShowsCount, blocking_failure, failure_count}
use Rattle.login_throttle.specs.Stamp.{fresh}
use Rattle.login_throttle.specs.Steps.{stamp_after}
use Rattle.login_throttle.specs.Tracking.{answer_of, has_ended, is_blocked, is_tracked, stamp_at}

-- where failures are counted, the stamp shows their count
pub stamp_shows : (policy : Policy) (past : List Event) (stamp : Stamp) (moment : ℤ) → IsTrue (is_tracked policy) → IsHistory policy past →
    IsStampOf policy past stamp → Follows past moment → ShowsCount policy past stamp moment
stamp_shows policy [] stamp moment tracked history is follows =
    let P : Stamp → Type 0 = λ s. ShowsCount policy [] s moment in subst P (sym is) (fresh_shows policy moment)
stamp_shows policy (Cleared ∷ past) stamp moment tracked history is follows =
    let P : Stamp → Type 0 = λ s. ShowsCount policy (Cleared ∷ past) s moment in subst P (sym is) (cleared_shows policy past moment)
stamp_shows policy (Answered earlier answer ∷ past) stamp moment tracked history is follows =
    is.2.0 tracked past (stamp_shows policy past is.0 earlier tracked history.0 is.1 history.1) moment follows

-- and else it is fresh
pub is_fresh : (policy : Policy) (past : List Event) (stamp : Stamp) → is_tracked policy ≡ false → IsStampOf policy past stamp → stamp ≡ fresh
is_fresh policy [] stamp untracked is = is
is_fresh policy (Cleared ∷ past) stamp untracked is = is
is_fresh policy (Answered earlier answer ∷ past) stamp untracked is = is.2.1 untracked ∙ is_fresh policy past is.0 untracked is.1

-- the answer by the stamp is the answer by the count
pub answers_by_count : (policy : Policy) (past : List Event) (stamp : Stamp) (moment : ℤ) (right : Bool) → IsHistory policy past →
    IsStampOf policy past stamp → Follows past moment →
    answer_of policy stamp.blocked_at moment right ≡ answer_of policy (blocking_failure policy past) moment right
answers_by_count policy past stamp moment right history is follows = by_tracking (is_tracked policy) refl
  where
    by_tracking : (tracked : Bool) → is_tracked policy ≡ tracked →
        answer_of policy stamp.blocked_at moment right ≡ answer_of policy (blocking_failure policy past) moment right
    by_tracking true tracked = shown_answer policy past stamp moment right (stamp_shows policy past stamp moment tracked history is follows)
    by_tracking false untracked =
        open_answer policy stamp.blocked_at moment right (untracked_open policy stamp.blocked_at moment untracked)
        ∙ sym (open_answer policy (blocking_failure policy past) moment right (untracked_open policy (blocking_failure policy past) moment untracked))

≤ℤ_trans : (a b c : ℤ) → a ≤ℤ b → b ≤ℤ c → a ≤ℤ c
≤ℤ_trans a b c ab bc = omega (arith, ints)

fresh_began : (stamp : Stamp) (moment : ℤ) → stamp ≡ fresh → ForSome stamp.blocked_at (λ since. since ≤ℤ moment)
fresh_began stamp moment is =
    let P : Stamp → Type 0 = λ s. ForSome s.blocked_at (λ since. since ≤ℤ moment) in subst P (sym is) (λ since none. cc)

-- a block began no later than a moment that follows
pub block_began : (policy : Policy) (past : List Event) (stamp : Stamp) (moment : ℤ) → IsStampOf policy past stamp → Follows past moment →
    ForSome stamp.blocked_at (λ since. since ≤ℤ moment)
block_began policy [] stamp moment is follows since held = fresh_began stamp moment is since held
block_began policy (Cleared ∷ past) stamp moment is follows since held = fresh_began stamp moment is since held
block_began policy (Answered earlier answer ∷ past) stamp moment is follows since held =
    ≤ℤ_trans since earlier moment (is.2.2 since held) follows

fresh_left : (policy : Policy) (stamp : Stamp) → IsTrue (is_tracked policy) → stamp ≡ fresh → stamp.failures < policy.attempts
fresh_left policy stamp tracked is =
    let P : Stamp → Type 0 = λ s. s.failures < policy.attempts in subst P (sym is) (some_attempts policy.attempts _ tracked)

-- without a block attempts are left
pub attempts_left : (policy : Policy) (past : List Event) (stamp : Stamp) → IsTrue (is_tracked policy) → IsStampOf policy past stamp →
    stamp.blocked_at ≡ None → stamp.failures < policy.attempts
attempts_left policy [] stamp tracked is none = fresh_left policy stamp tracked is
attempts_left policy (Cleared ∷ past) stamp tracked is none = fresh_left policy stamp tracked is
attempts_left policy (Answered earlier answer ∷ past) stamp tracked is none = is.2.3 tracked none

-- what is answered by the stamp is history
pub history_grows : (policy : Policy) (past : List Event) (stamp : Stamp) (moment : ℤ) (right : Bool) → IsHistory policy past →
    IsStampOf policy past stamp → Follows past moment →
    IsHistory policy (Answered moment (answer_of policy stamp.blocked_at moment right) ∷ past)
history_grows policy past stamp moment right history is follows =
    (history, follows, (right, answers_by_count policy past stamp moment right history is follows))

-- a block that is read at a moment began no later
kept_bound : (ended : Bool) (stamp : Stamp) (moment : ℤ) → ForSome stamp.blocked_at (λ since. since ≤ℤ moment) →
    ForSome (if ended then fresh else stamp).blocked_at (λ since. since ≤ℤ moment)
kept_bound true stamp moment bound since is = cc
kept_bound false stamp moment bound since is = bound since is

answered_bound : (policy : Policy) (stamp : Stamp) (moment : ℤ) (answer : Tried) → ForSome stamp.blocked_at (λ since. since ≤ℤ moment) →
    ForSome (stamp_after policy stamp moment answer).blocked_at (λ since. since ≤ℤ moment)
answered_bound policy stamp moment Open bound = bound
answered_bound policy stamp moment (Blocked left) bound = bound
answered_bound policy stamp moment Wrong bound = by (is_tracked policy) (stamp.failures + 1 == policy.attempts)
  where
    by : (tracked reached : Bool) → ForSome (if tracked then (record { failures = stamp.failures + 1; blocked_at = if reached then Some moment else None }) else stamp).blocked_at (λ since. since ≤ℤ moment)
    by true true since is = let P : Option ℤ → Type 0 = λ held. IfSome held (λ s. s ≤ℤ moment) in subst P is (≤ℤ_refl moment)
    by true false since is = cc
    by false reached since is = bound since is

-- a stamp that blocks no account has attempts left, where it shows the count
few_failures : (policy : Policy) (failures rest : ℕ) (held block : Option ℤ) (moment : ℤ) (shut : Bool) →
    held ≡ None → is_blocked policy block moment ≡ shut → rest < policy.attempts →
    stamp_at policy (record { failures = failures; blocked_at = held }) moment ≡ (if shut then blocked_by policy block else rest_of rest) →
    failures < policy.attempts
few_failures policy failures rest (Some since) block moment shut none is_shut few same = cc
few_failures policy failures rest None block moment true none is_shut few same =
    let P : Option ℤ → Type 0 = λ block. is_blocked policy block moment ≡ true in
    absurd (true≢false (sym (subst P (sym (ap (λ (stamp : Stamp). stamp.blocked_at) same)) is_shut)))
few_failures policy failures rest None block moment false none is_open few same =
    let same_number : failures ≡ rest = ap (λ (stamp : Stamp). stamp.failures) same in
    omega (arith, same_number, few)

-- where failures are not counted, an answer leaves the stamp
kept_untracked : (policy : Policy) (stamp : Stamp) (moment : ℤ) (answer : Tried) → is_tracked policy ≡ false →
    stamp_after policy (stamp_at policy stamp moment) moment answer ≡ stamp
kept_untracked policy stamp moment answer untracked = after answer ∙ never stamp.blocked_at
  where
    after : (answer : Tried) → stamp_after policy (stamp_at policy stamp moment) moment answer ≡ stamp_at policy stamp moment
    after Open = refl
    after Wrong = rw untracked refl
    after (Blocked left) = refl

    never : (held : Option ℤ) → (if has_ended policy held moment then fresh else stamp) ≡ stamp
    never None = refl
    never (Some since) = rw untracked refl

-- what an attempt makes of the stamp of a history is the stamp of the history with its answer
stamp_left : (policy : Policy) (past : List Event) (before : Stamp) (moment : ℤ) (answer : Tried) →
    IsHistory policy (Answered moment answer ∷ past) → IsStampOf policy past before →
    MayLeave policy before moment answer (stamp_after policy (stamp_at policy before moment) moment answer)
stamp_left policy past before moment answer history is =
    let right : Bool = history.2.0 in
    let made : Stamp = stamp_after policy (stamp_at policy before moment) moment answer in
    let now : List Event = Answered moment answer ∷ past in
    let answered : answer ≡ answer_of policy before.blocked_at moment right =
    history.2.1 ∙ sym (answers_by_count policy past before moment right history.0 is history.1) in
    let shows : IsTrue (is_tracked policy) → (events : List Event) → ShowsCount policy events before moment →
    (later : ℤ) → moment ≤ℤ later → ShowsCount policy (Answered moment answer ∷ events) made later =
    λ tracked events shown later order. shown_after policy events before moment later right answer made tracked order shown answered refl in (
      shows,
      kept_untracked policy before moment answer,
      answered_bound policy (stamp_at policy before moment) moment answer
          (kept_bound (has_ended policy before.blocked_at moment) before moment (block_began policy past before moment is history.1)),
      λ tracked none. few_failures policy made.failures (failure_count now % policy.attempts) made.blocked_at (blocking_failure policy now)
          moment (is_blocked policy (blocking_failure policy now) moment) none refl (mod-lt (failure_count now) (some_attempts policy.attempts _ tracked))
          (shows tracked past (stamp_shows policy past before moment tracked history.0 is history.1) moment (≤ℤ_refl moment)),
    )

-- after each history there is a stamp
pub some_stamp : (policy : Policy) (past : List Event) → IsHistory policy past → (stamp : Stamp) × IsStampOf policy past stamp
some_stamp policy [] history = (fresh, refl)
some_stamp policy (Cleared ∷ past) history = (fresh, refl)
some_stamp policy (Answered moment answer ∷ past) history =
    let earlier : (stamp : Stamp) × IsStampOf policy past stamp = some_stamp policy past history.0 in (
      stamp_after policy (stamp_at policy earlier.0 moment) moment answer,
      (earlier.0, earlier.1, stamp_left policy past earlier.0 moment answer history earlier.1),
    )
