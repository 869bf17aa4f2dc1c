use Rattle.std.proofs.Common.{ap, sym, subst}
use Rattle.numbered_names.specs.Numbered.{IsNew}
use Rattle.numbered_names.proofs.Lookups.{none_from_new}
use Rattle.numbered_names.proofs.Adding.{number_was_free, new_where_none_free, added_name}
use Rattle.numbered_names.proofs.numbered_names.NumberedNames.add.Goals as goal

pub push-requires-clause-new : goal.push-requires-clause-new
push-requires-clause-new g c =
    let s = c.self.inside in
    none_from_new g.K.PartialEq.eq c.args.name s.names.keys s.numbers.items s.places.items c.self.invariant.inverse c.self.invariant.taken
    (subst (λ v. IsNew g.K.PartialEq.eq v.names c.args.name) (sym c.self.view_is) c.requires.new)

pub returns-clause-free : goal.returns-clause-free
returns-clause-free g c =
    let s = c.self.inside in
    number_was_free s.names.keys s.numbers.items s.places.items c.args.self.now.names (ap (λ v. v.names) c.self.view_is)
    c.self.invariant.inverse c.self.invariant.taken c.first_free-number.new.numbers.items c.first_free-number.new.places.items
    c.len-place.result c.first_free-number.result c.len-place.ensures.len c.first_free-number.ensures.places
    c.first_free-number.ensures.inverse c.first_free-number.ensures.number

pub returns-clause-none_free : goal.returns-clause-none_free
returns-clause-none_free g c =
    let s = c.self.inside in
    new_where_none_free s.names.keys s.numbers.items s.places.items c.args.self.now.names (ap (λ v. v.names) c.self.view_is)
    c.self.invariant.inverse c.self.invariant.taken c.first_free-number.new.numbers.items c.first_free-number.new.places.items
    c.len-place.result c.first_free-number.result c.len-place.ensures.len c.first_free-number.ensures.places
    c.first_free-number.ensures.inverse c.first_free-number.ensures.number

pub returns-clause-names : goal.returns-clause-names
returns-clause-names g c =
    let s = c.self.inside in
    added_name s.names.keys s.numbers.items s.places.items c.args.self.now.names (ap (λ v. v.names) c.self.view_is)
    c.self.invariant.inverse c.self.invariant.taken c.first_free-number.new.numbers.items c.first_free-number.new.places.items
    c.len-place.result c.first_free-number.result c.len-place.ensures.len c.first_free-number.ensures.places
    c.first_free-number.ensures.inverse c.first_free-number.ensures.number c.push.new.names.keys c.args.name c.push.ensures.keys
