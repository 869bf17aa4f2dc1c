use Rattle.std.specs.Prelude.{ℕ, List}
use Rattle.acl_ports.specs.Calls.{Calls}

-- the bytes that were written, how many a call takes at most, how many the sink holds at most, and the calls
pub record SinkState : Type 0 where
  pub written : List ℕ
  pub piece : ℕ
  pub room : ℕ
  pub calls : Calls
