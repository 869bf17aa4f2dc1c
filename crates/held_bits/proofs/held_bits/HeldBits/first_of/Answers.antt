use Rattle.std.proofs.Common.{ap, length, arith}
use Rattle.held_bits.proofs.Sound.{first_is}
use Rattle.held_bits.proofs.held_bits.HeldBits.first_of.Goals as goal

pub returns : goal.returns
returns g c =
    let s = c.self.inside in
    let before = rw c.deref.ensures.value at c.rank_start.ensures.before in
    let after = rw c.deref.ensures.value at c.rank_start.ensures.after in
    rw (← c.self.view_is)
    (first_is g.K.PartialEq.eq s.things.names s.records.items s.uses.items c.self.invariant c.args.holder c.rank_start.result
    (omega (arith, c.rank_start.ensures.within, ap length c.deref.ensures.value))
    (λ k d early. omega (arith, before k d early, c.rank.ensures)) (λ k d late below. omega (arith, after k d late below, c.rank.ensures)))
