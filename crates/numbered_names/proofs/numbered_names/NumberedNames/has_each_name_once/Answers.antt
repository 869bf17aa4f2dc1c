use Rattle.std.proofs.Common.{ap}
use Rattle.numbered_names.proofs.Lookups.{each_once}
use Rattle.numbered_names.proofs.numbered_names.NumberedNames.has_each_name_once.Goals as goal

pub returns : goal.returns
returns g c =
    let s = c.self.inside in
    each_once g.K.PartialEq.eq g.met.K.Eq.laws s.names.keys s.numbers.items s.places.items c.args.self.now.names (ap (λ v. v.names) c.self.view_is)
    c.self.invariant.inverse c.self.invariant.distinct
