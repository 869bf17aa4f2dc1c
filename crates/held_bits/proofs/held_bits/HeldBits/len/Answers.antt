use Rattle.std.proofs.Common.{arith}
use Rattle.held_bits.proofs.Changes.{held_length}
use Rattle.held_bits.proofs.held_bits.HeldBits.len.Goals as goal

pub returns : goal.returns
returns g c =
    let s = c.self.inside in
    rw (← c.self.view_is)
    (omega (arith, c.len.ensures, s.records.ok.0, held_length g.K.PartialEq.eq s.things.names s.records.items s.uses.items c.self.invariant))
