use Rattle.std.proofs.Common.{◌∙◌, ap, sym, refl}
use Rattle.held_bits.specs.HeldBits.{bits_at}
use Rattle.held_bits.specs.Records.{bits_in}
use Rattle.held_bits.proofs.Entries.{bits_known, bits_new}
use Rattle.held_bits.proofs.held_bits.HeldBits.bits.Goals as goal

pub returns-in-Some-clause-is : goal.returns-in-Some-clause-is
returns-in-Some-clause-is g c =
    let s = c.self.inside in
    c.bits_of.ensures.is
    ∙ ap (λ rs. bits_in rs c.args.holder c.in-Some.number) c.deref.ensures.value
    ∙ sym (bits_known g.K.PartialEq.eq g.met.K.Eq.laws s.things.names c.has_each_name_once.ensures s.records.items c.args.holder
    c.in-Some.number c.args.thing.now ((c.in-Some.ensures.number c.in-Some.number).0 refl))
    ∙ ap (λ v. bits_at g.K.PartialEq.eq v.entries c.args.holder c.args.thing.now) c.self.view_is

pub returns-in-None-clause-is : goal.returns-in-None-clause-is
returns-in-None-clause-is g c =
    let s = c.self.inside in
    c.none.ensures.is
    ∙ sym (bits_new g.K.PartialEq.eq s.things.names s.records.items c.args.holder c.args.thing.now c.in-None.ensures.absent)
    ∙ ap (λ v. bits_at g.K.PartialEq.eq v.entries c.args.holder c.args.thing.now) c.self.view_is
