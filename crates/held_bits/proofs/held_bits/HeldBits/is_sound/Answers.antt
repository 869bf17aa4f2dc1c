use Rattle.held_bits.proofs.Sound.{sound}
use Rattle.held_bits.proofs.held_bits.HeldBits.is_sound.Goals as goal

pub returns : goal.returns
returns g c =
    let s = c.self.inside in
    rw (← c.self.view_is)
    (sound g.K.PartialEq.eq s.things.names s.records.items s.uses.items c.self.invariant c.has_each_name_once.ensures)
