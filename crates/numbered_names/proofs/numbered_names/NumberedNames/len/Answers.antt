use Rattle.std.proofs.Common.{◌∙◌, ap}
use Rattle.numbered_names.proofs.Counts.{count_names}
use Rattle.numbered_names.proofs.numbered_names.NumberedNames.len.Goals as goal

pub returns : goal.returns
returns g c =
    let s = c.self.inside in
    c.len.ensures.len
    ∙ count_names s.names.keys s.numbers.items s.places.items c.args.self.now.names (ap (λ v. v.names) c.self.view_is)
    c.self.invariant.inverse c.self.invariant.taken
