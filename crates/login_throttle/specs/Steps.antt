-- What the code makes of a stamp at an attempt. No public clause cites this: they go by the count of failures (`History`).
use Rattle.std.specs.Prelude.{◌+◌, ◌==◌, ℤ, Some, None, if◌then◌else◌}
use Rattle.acl_names.specs.declared.policy.Policy.{Policy}
use Rattle.login_throttle.specs.declared.stamp.Stamp.{Stamp}
use Rattle.login_throttle.specs.declared.tracking.Tried.{Tried}
use Rattle.login_throttle.specs.declared.tracking.Tried.TheVariants.{Open, Wrong, Blocked}
use Rattle.login_throttle.specs.Tracking.{is_tracked}

-- the stamp with one wrong password more, which blocks the account where it reaches the number of attempts
abbrev pub with_failure : Policy → Stamp → ℤ → Stamp
with_failure policy stamp moment = record {
  failures = stamp.failures + 1;
  blocked_at = if stamp.failures + 1 == policy.attempts then Some moment else None;
}

-- what an answer at a moment makes of a stamp: only a wrong password that is counted changes it
abbrev pub stamp_after : Policy → Stamp → ℤ → Tried → Stamp
stamp_after policy stamp moment Open = stamp
stamp_after policy stamp moment Wrong = if is_tracked policy then with_failure policy stamp moment else stamp
stamp_after policy stamp moment (Blocked left) = stamp
