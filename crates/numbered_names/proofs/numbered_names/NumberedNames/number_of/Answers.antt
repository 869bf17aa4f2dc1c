use Rattle.std.proofs.Common.{◌∙◌, ap, sym, subst, is_some}
use Rattle.numbered_names.specs.Numbered.{IsNew}
use Rattle.numbered_names.proofs.Lookups.{new_from_none, none_is_exact, none_is_new, some_is_exact}
use Rattle.numbered_names.proofs.numbered_names.NumberedNames.number_of.Goals as goal

pub returns-in_err-place-clause-number : goal.returns-in_err-place-clause-number
returns-in_err-place-clause-number g c =
    none_is_exact g.K.PartialEq.eq c.args.name.now c.args.self.now.names c.from_residual.result c.from_residual.ensures
    (subst (λ v. IsNew g.K.PartialEq.eq v.names c.args.name.now) c.self.view_is
    (new_from_none g.K.PartialEq.eq c.args.name.now c.self.inside.names.keys c.self.inside.places.items
    (sym c.get_index_of.ensures.found ∙ ap is_some c.in_err-place.was)))

pub returns-in_err-place-clause-absent : goal.returns-in_err-place-clause-absent
returns-in_err-place-clause-absent g c =
    none_is_new g.K.PartialEq.eq c.args.name.now c.args.self.now.names c.from_residual.result
    (subst (λ v. IsNew g.K.PartialEq.eq v.names c.args.name.now) c.self.view_is
    (new_from_none g.K.PartialEq.eq c.args.name.now c.self.inside.names.keys c.self.inside.places.items
    (sym c.get_index_of.ensures.found ∙ ap is_some c.in_err-place.was)))

pub returns-clause-number : goal.returns-clause-number
returns-clause-number g c =
    let s = c.self.inside in
    some_is_exact g.K.PartialEq.eq c.args.name.now g.met.K.Eq.laws s.names.keys s.numbers.items s.places.items
    c.self.invariant.inverse c.self.invariant.taken c.self.invariant.distinct c.in_ok-place.place
    (sym c.get_index_of.ensures.index ∙ c.in_ok-place.was)
    c.args.self.now.names (ap (λ v. v.names) c.self.view_is) c.index.result.now c.index.ensures
