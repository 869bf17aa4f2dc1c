use Rattle.std.proofs.Common.{length, ap, arith}
use Rattle.role_graph.proofs.Graphs.{same_length}
use Rattle.role_graph.proofs.graph.Graph.reserve.Goals as goal

pub returns-clause-ok : goal.returns-clause-ok
returns-clause-ok c =
    let roles = c.self.inside.roles in
    let holders = c.self.inside.holders in
    omega (
      arith,
      same_length roles.items holders.items c.self.invariant,
      roles.ok.0,
      holders.ok.0,
      ap length c.in_ok-reserve.ensures.items,
      c.in_ok-reserve.ensures.ok,
      c.in_ok-reserve.ensures.len,
      c.in_ok-reserve-2.ensures.ok,
      c.in_ok-reserve-2.ensures.len,
    )
