-- What is kept of an account's wrong passwords.
use Rattle.std.specs.Prelude.{None}
use Rattle.login_throttle.specs.declared.stamp.Stamp.{Stamp}

-- no wrong password counts
abbrev pub fresh : Stamp
fresh = record { failures = 0; blocked_at = None }
