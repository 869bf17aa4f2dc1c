-- What the rule of failed logins comes to over all that happened to an account: its wrong passwords are counted.
use Rattle.std.specs.Prelude.{◌≡◌, ◌<◌, ◌+◌, ◌%◌, ◌==◌, ◌&&◌, ◌≤ℤ◌, ℕ, ℤ, pos, Bool, not, List, [], ◌∷◌, IsTrue, Option, Some, None, if◌then◌else◌, refl, true, false}
use Rattle.std.specs.Option.{ForSome}
use Rattle.acl_names.specs.declared.policy.LockTime.TheVariants.{Days}
use Rattle.acl_names.specs.declared.policy.Policy.{Policy}
use Rattle.login_throttle.specs.declared.stamp.Stamp.{Stamp}
use Rattle.login_throttle.specs.declared.tracking.Tried.{Tried}
use Rattle.login_throttle.specs.declared.tracking.Tried.TheVariants.{Open, Wrong, Blocked}
use Rattle.login_throttle.specs.Stamp.{fresh}
use Rattle.login_throttle.specs.Tracking.{answer_of, is_blocked, is_tracked, stamp_at}

-- What happened to an account: an attempt at a moment, with its answer, or that its failures were cleared, by a
-- success or by a statement. Lists of events have the newest first.
pub data Event : Type 0 where
  Answered : ℤ → Tried → Event
  Cleared : Event

-- how many passwords were answered as wrong since the failures were last cleared
abbrev pub failure_count : List Event → ℕ
failure_count [] = 0
failure_count (Answered moment Open ∷ past) = failure_count past
failure_count (Answered moment Wrong ∷ past) = failure_count past + 1
failure_count (Answered moment (Blocked left) ∷ past) = failure_count past
failure_count (Cleared ∷ past) = 0

-- the moment of the last of them
abbrev pub last_failure : List Event → Option ℤ
last_failure [] = None
last_failure (Answered moment Open ∷ past) = last_failure past
last_failure (Answered moment Wrong ∷ past) = Some moment
last_failure (Answered moment (Blocked left) ∷ past) = last_failure past
last_failure (Cleared ∷ past) = None

-- the moment from which the account is blocked: that of the last one, where their number is not 0 and the attempts divide it
abbrev pub blocking_failure : Policy → List Event → Option ℤ
blocking_failure policy past =
    if not (failure_count past == 0) && (failure_count past % policy.attempts == 0) then last_failure past else None

-- what the count says that a stamp has at a moment: while the account is blocked all attempts are used up, and else
-- those count that the last block left over
abbrev pub counted_stamp : Policy → List Event → ℤ → Stamp
counted_stamp policy past moment =
    if is_blocked policy (blocking_failure policy past) moment
    then (record { failures = policy.attempts; blocked_at = blocking_failure policy past })
    else (record { failures = failure_count past % policy.attempts; blocked_at = None })

-- whether the stamp shows at a moment what the count of the events says
abbrev pub ShowsCount : Policy → List Event → Stamp → ℤ → Type 0
ShowsCount policy past stamp moment = stamp_at policy stamp moment ≡ counted_stamp policy past moment

-- a moment that is not before the last attempt since then
abbrev pub Follows : List Event → ℤ → Type 0
Follows [] moment = Unit {0}
Follows (Answered earlier answer ∷ past) moment = earlier ≤ℤ moment
Follows (Cleared ∷ past) moment = Unit {0}

-- the answer to some password after these events, by their count
abbrev pub IsAnswer : Policy → List Event → ℤ → Tried → Type 0
IsAnswer policy past moment answer = (right : Bool) × (answer ≡ answer_of policy (blocking_failure policy past) moment right)

-- since the failures were last cleared, no attempt is before an earlier one, and each has its answer by the count
abbrev pub IsHistory : Policy → List Event → Type 0
IsHistory policy [] = Unit {0}
IsHistory policy (Answered moment answer ∷ past) = IsHistory policy past × Follows past moment × IsAnswer policy past moment answer
IsHistory policy (Cleared ∷ past) = Unit {0}

-- what an attempt with this answer at this moment may leave of a stamp: where failures are counted, one that shows the
-- count with this event more, and else the same one; its block began no later, and without a block some attempts remain
abbrev pub MayLeave : Policy → Stamp → ℤ → Tried → Stamp → Type 0
MayLeave policy before moment answer after =
    (IsTrue (is_tracked policy) → (past : List Event) → ShowsCount policy past before moment →
    (later : ℤ) → moment ≤ℤ later → ShowsCount policy (Answered moment answer ∷ past) after later)
    × (is_tracked policy ≡ false → after ≡ before)
    × (ForSome after.blocked_at (λ since. since ≤ℤ moment))
    × (IsTrue (is_tracked policy) → after.blocked_at ≡ None → after.failures < policy.attempts)

-- a stamp that was fresh at first and after each time the failures were cleared, and that each attempt since then left
abbrev pub IsStampOf : Policy → List Event → Stamp → Type 0
IsStampOf policy [] stamp = stamp ≡ fresh
IsStampOf policy (Answered moment answer ∷ past) stamp = (before : Stamp) × (IsStampOf policy past before) × (MayLeave policy before moment answer stamp)
IsStampOf policy (Cleared ∷ past) stamp = stamp ≡ fresh

-- three wrong passwords, and then the right one: half a day later, and a day after the last of them
three_of_a_day : Policy
three_of_a_day = record { attempts = 3; days = Days 1 }

wrong_thrice : List Event
wrong_thrice = Answered (pos 20) Wrong ∷ Answered (pos 10) Wrong ∷ Answered (pos 0) Wrong ∷ []

example-blocked : answer_of three_of_a_day (blocking_failure three_of_a_day wrong_thrice) (pos 43200) true ≡ Blocked (Some 43220)
unfolding three_of_a_day wrong_thrice
example-blocked = refl

example-open_again : answer_of three_of_a_day (blocking_failure three_of_a_day wrong_thrice) (pos 86420) true ≡ Open
unfolding three_of_a_day wrong_thrice
example-open_again = refl
