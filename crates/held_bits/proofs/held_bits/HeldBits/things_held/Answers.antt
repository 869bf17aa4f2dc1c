use Rattle.held_bits.proofs.Sound.{things_are}
use Rattle.held_bits.proofs.held_bits.HeldBits.things_held.Goals as goal

pub returns : goal.returns
returns g c =
    let s = c.self.inside in
    rw (← c.self.view_is)
    (things_are g.K.PartialEq.eq s.things.names s.records.items s.uses.items c.self.invariant g.met.K.Eq.laws c.has_each_name_once.ensures
    c.as_slice.result.now c.as_slice.ensures)
