use Rattle.std.proofs.Common.{◌∙◌, ap, sym, refl, arith}
use Rattle.std.proofs.lemmas.List.{get_or_default}
use Rattle.held_bits.specs.HeldBits.{uses_in}
use Rattle.held_bits.proofs.Entries.{uses_known, uses_new}
use Rattle.held_bits.proofs.Changes.{number_within}
use Rattle.held_bits.proofs.held_bits.HeldBits.uses_of.Goals as goal

pub index-requires : goal.index-requires
index-requires g c =
    let s = c.self.inside in
    omega (
      arith,
      s.uses.ok.0,
      number_within g.K.PartialEq.eq s.things.names s.records.items s.uses.items c.self.invariant
          c.in-Some.number c.args.thing.now ((c.in-Some.ensures.number c.in-Some.number).0 refl),
    )

pub returns-in-Some : goal.returns-in-Some
returns-in-Some g c =
    let s = c.self.inside in
    let is = (c.in-Some.ensures.number c.in-Some.number).0 refl in
    c.index.ensures
    ∙ get_or_default s.uses.items c.in-Some.number c.index.result.now 0
    (number_within g.K.PartialEq.eq s.things.names s.records.items s.uses.items c.self.invariant c.in-Some.number c.args.thing.now is)
    ∙ c.self.invariant.uses_are c.in-Some.number
    ∙ sym (uses_known g.K.PartialEq.eq g.met.K.Eq.laws s.things.names c.has_each_name_once.ensures s.records.items c.in-Some.number c.args.thing.now is)
    ∙ ap (λ v. uses_in g.K.PartialEq.eq v.entries c.args.thing.now) c.self.view_is

pub returns-in-None : goal.returns-in-None
returns-in-None g c =
    let s = c.self.inside in
    sym (uses_new g.K.PartialEq.eq s.things.names s.records.items c.args.thing.now c.in-None.ensures.absent)
    ∙ ap (λ v. uses_in g.K.PartialEq.eq v.entries c.args.thing.now) c.self.view_is
