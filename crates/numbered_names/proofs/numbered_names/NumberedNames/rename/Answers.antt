use Rattle.std.proofs.Common.{ap, sym, subst}
use Rattle.numbered_names.specs.Numbered.{IsNew}
use Rattle.numbered_names.proofs.Lookups.{none_from_new}
use Rattle.numbered_names.proofs.Removing.{place_within, renamed}
use Rattle.numbered_names.proofs.numbered_names.NumberedNames.rename.Goals as goal

pub replace-requires-clause-place : goal.replace-requires-clause-place
replace-requires-clause-place g c =
    let s = c.self.inside in
    place_within s.names.keys s.numbers.items s.places.items c.args.self.now.names (ap (λ v. v.names) c.self.view_is) c.self.invariant.inverse
    c.args.number c.requires.stands c.index.result.now c.index.ensures

pub replace-requires-clause-new : goal.replace-requires-clause-new
replace-requires-clause-new g c =
    let s = c.self.inside in
    none_from_new g.K.PartialEq.eq c.args.name s.names.keys s.numbers.items s.places.items c.self.invariant.inverse c.self.invariant.taken
    (subst (λ v. IsNew g.K.PartialEq.eq v.names c.args.name) (sym c.self.view_is) c.requires.new)

pub returns-clause-names : goal.returns-clause-names
returns-clause-names g c =
    let s = c.self.inside in
    renamed s.names.keys s.numbers.items s.places.items c.args.self.now.names (ap (λ v. v.names) c.self.view_is) c.self.invariant.inverse
    c.args.number c.requires.stands c.index.result.now c.index.ensures c.replace.new.names.keys c.args.name c.replace.ensures.keys
