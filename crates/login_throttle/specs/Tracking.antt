-- The rule of failed logins at one account: what an attempt is answered, and what it makes of the stamp.
use Rattle.std.specs.Prelude.{◌≤◌, ◌*◌, ◌==◌, ◌&&◌, ℕ, ℤ, pos, ◌+ℤ◌, ◌-ℤ◌, Bool, true, false, not, Option, Some, None, int_lt, unsigned_abs, if◌then◌else◌}
use Rattle.acl_names.specs.declared.policy.LockTime.{LockTime}
use Rattle.acl_names.specs.declared.policy.LockTime.TheVariants.{Days, Unbounded}
use Rattle.acl_names.specs.declared.policy.Policy.{Policy}
use Rattle.login_throttle.specs.declared.stamp.Stamp.{Stamp}
use Rattle.login_throttle.specs.declared.tracking.Tried.{Tried}
use Rattle.login_throttle.specs.declared.tracking.Tried.TheVariants.{Open, Wrong, Blocked}
use Rattle.login_throttle.specs.Stamp.{fresh}

-- at most 32767 days
abbrev pub IsWithinLimit : LockTime → Type 0
IsWithinLimit (Days days) = days ≤ 32767
IsWithinLimit Unbounded = Unit {0}

-- whether an account can be blocked for that long at all
abbrev pub can_lock : LockTime → Bool
can_lock (Days days) = not (days == 0)
can_lock Unbounded = true

-- wrong passwords are counted where neither option is 0
abbrev pub is_tracked : Policy → Bool
is_tracked policy = not (policy.attempts == 0) && can_lock policy.days

-- the moment from which an account that was blocked at a moment is open again, `None` for never
abbrev pub opens_at : LockTime → ℤ → Option ℤ
opens_at (Days days) since = Some (since +ℤ pos (86400 * days))
opens_at Unbounded since = None

-- whether a moment is before that one
abbrev pub is_before : ℤ → Option ℤ → Bool
is_before moment None = true
is_before moment (Some opens) = int_lt moment opens

-- the seconds from a moment to that one
abbrev pub seconds_until : Option ℤ → ℤ → Option ℕ
seconds_until None moment = None
seconds_until (Some opens) moment = Some (unsigned_abs (opens -ℤ moment))

-- whether an account that a wrong password blocked at a moment, where there was one, is blocked still at another
abbrev pub is_blocked : Policy → Option ℤ → ℤ → Bool
is_blocked policy None moment = false
is_blocked policy (Some since) moment = is_tracked policy && is_before moment (opens_at policy.days since)

-- what is then answered, or else the answer to the password
abbrev pub answer_of : Policy → Option ℤ → ℤ → Bool → Tried
answer_of policy None moment right = if right then Open else Wrong
answer_of policy (Some since) moment right =
    if is_blocked policy (Some since) moment then Blocked (seconds_until (opens_at policy.days since) moment)
    else if right then Open else Wrong

-- whether its block has ended by a moment
abbrev pub has_ended : Policy → Option ℤ → ℤ → Bool
has_ended policy None moment = false
has_ended policy (Some since) moment = is_tracked policy && not (is_before moment (opens_at policy.days since))

-- the stamp as it counts at a moment: once a block has ended, as after a reset
abbrev pub stamp_at : Policy → Stamp → ℤ → Stamp
stamp_at policy stamp moment = if has_ended policy stamp.blocked_at moment then fresh else stamp
