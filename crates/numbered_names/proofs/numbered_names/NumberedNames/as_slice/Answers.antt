use Rattle.std.proofs.Common.{ap}
use Rattle.numbered_names.proofs.Lookups.{listed}
use Rattle.numbered_names.proofs.numbered_names.NumberedNames.as_slice.Goals as goal

pub returns : goal.returns
returns g c =
    let s = c.self.inside in
    rw (c.as_slice.ensures.keys)
    (listed g.K.PartialEq.eq g.met.K.Eq.laws s.names.keys s.numbers.items s.places.items c.args.self.now.names (ap (λ v. v.names) c.self.view_is)
    c.self.invariant.inverse c.self.invariant.distinct c.self.invariant.taken)
