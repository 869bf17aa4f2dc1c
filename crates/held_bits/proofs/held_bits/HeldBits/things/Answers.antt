use Rattle.std.proofs.Common.{◌∙◌, ap}
use Rattle.held_bits.specs.HeldBits.{thing_count}
use Rattle.held_bits.proofs.Sound.{things_counted}
use Rattle.held_bits.proofs.held_bits.HeldBits.things.Goals as goal

pub returns : goal.returns
returns g c =
    let s = c.self.inside in
    c.len.ensures
    ∙ things_counted g.K.PartialEq.eq s.things.names s.records.items s.uses.items c.self.invariant g.met.K.Eq.laws c.has_each_name_once.ensures
    ∙ ap (λ v. thing_count g.K.PartialEq.eq v.entries) c.self.view_is
