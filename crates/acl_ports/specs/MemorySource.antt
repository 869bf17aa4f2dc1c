use Rattle.std.specs.Prelude.{ℕ, List}
use Rattle.acl_ports.specs.Calls.{Calls}

-- the bytes that are left, how many of them a read gives at most, and the calls
pub record SourceState : Type 0 where
  pub left : List ℕ
  pub piece : ℕ
  pub calls : Calls
