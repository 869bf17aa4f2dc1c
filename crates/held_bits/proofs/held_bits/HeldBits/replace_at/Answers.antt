use Rattle.std.proofs.Common.{◌∙◌, ap, sym, length, arith}
use Rattle.std.specs.Vec.{vec_capacity}
use Rattle.std.proofs.lemmas.Bool.{true≢false}
use Rattle.held_bits.proofs.Changes.{held_length}
use Rattle.held_bits.proofs.Places.{at_some, at_within, at_held, at_count, at_room, at_replaced}
use Rattle.held_bits.proofs.held_bits.HeldBits.replace_at.Goals as goal

pub index-record-requires : goal.index-record-requires
index-record-requires g c =
    let s = c.self.inside in
    omega (
      arith,
      c.requires,
      ap (λ v. length v.entries) c.self.view_is,
      held_length g.K.PartialEq.eq s.things.names s.records.items s.uses.items c.self.invariant,
      s.records.ok.0,
    )

pub write-requires-clause-thing : goal.write-requires-clause-thing
write-requires-clause-thing g c =
    let s = c.self.inside in
    omega (
      arith,
      s.uses.ok.0,
      at_within g.K.PartialEq.eq s.things.names s.records.items s.uses.items c.self.invariant c.args.place c.index-record.result.now
          (omega (arith, c.requires, ap (λ v. length v.entries) c.self.view_is, held_length g.K.PartialEq.eq s.things.names s.records.items s.uses.items c.self.invariant)) c.index-record.ensures,
    )

pub write-requires-clause-room : goal.write-requires-clause-room
write-requires-clause-room g c = λ none some.
    let s = c.self.inside in
    absurd (true≢false (sym none ∙ at_some g.K.PartialEq.eq s.things.names s.records.items s.uses.items c.self.invariant c.args.place c.index-record.result.now
    (omega (arith, c.requires, ap (λ v. length v.entries) c.self.view_is, held_length g.K.PartialEq.eq s.things.names s.records.items s.uses.items c.self.invariant)) c.index-record.ensures))

pub write-requires-clause-limit : goal.write-requires-clause-limit
write-requires-clause-limit g c = λ none some.
    let s = c.self.inside in
    absurd (true≢false (sym none ∙ at_some g.K.PartialEq.eq s.things.names s.records.items s.uses.items c.self.invariant c.args.place c.index-record.result.now
    (omega (arith, c.requires, ap (λ v. length v.entries) c.self.view_is, held_length g.K.PartialEq.eq s.things.names s.records.items s.uses.items c.self.invariant)) c.index-record.ensures))

pub release-requires : goal.release-requires
release-requires g c =
    let s = c.self.inside in
    omega (
      arith,
      c.write.ensures.written.numbers,
      ap length c.deref.ensures.value,
      at_within g.K.PartialEq.eq s.things.names s.records.items s.uses.items c.self.invariant c.args.place c.index-record.result.now
          (omega (arith, c.requires, ap (λ v. length v.entries) c.self.view_is, held_length g.K.PartialEq.eq s.things.names s.records.items s.uses.items c.self.invariant)) c.index-record.ensures,
    )

pub invariant_of-self : goal.invariant_of-self
invariant_of-self g c =
    let s = c.self.inside in
    at_held g.K.PartialEq.eq s.things.names s.records.items s.uses.items c.self.invariant c.args.place c.index-record.result.now
    (omega (arith, c.requires, ap (λ v. length v.entries) c.self.view_is, held_length g.K.PartialEq.eq s.things.names s.records.items s.uses.items c.self.invariant)) c.index-record.ensures g.met.K.Eq.laws c.release.new.things.names c.write.new.records.items c.write.new.uses.items
    c.has_each_name_once.ensures c.args.bits c.write.ensures.written c.release.ensures.len (rw c.deref.ensures.value at c.release.ensures.names)

pub returns-clause-entry : goal.returns-clause-entry
returns-clause-entry g c =
    let s = c.self.inside in
    rw (← c.self.view_is)
    (at_replaced g.K.PartialEq.eq s.things.names s.records.items s.uses.items c.self.invariant c.args.place c.index-record.result.now
    (omega (arith, c.requires, ap (λ v. length v.entries) c.self.view_is, held_length g.K.PartialEq.eq s.things.names s.records.items s.uses.items c.self.invariant)) c.index-record.ensures g.met.K.Eq.laws c.release.new.things.names c.write.new.records.items c.write.new.uses.items
    c.has_each_name_once.ensures c.args.bits c.write.ensures.written c.release.ensures.len (rw c.deref.ensures.value at c.release.ensures.names))

pub returns-clause-count : goal.returns-clause-count
returns-clause-count g c =
    let s = c.self.inside in
    rw (← c.self.view_is)
    (at_count g.K.PartialEq.eq s.things.names s.records.items s.uses.items c.self.invariant c.args.place c.index-record.result.now
    (omega (arith, c.requires, ap (λ v. length v.entries) c.self.view_is, held_length g.K.PartialEq.eq s.things.names s.records.items s.uses.items c.self.invariant)) c.index-record.ensures g.met.K.Eq.laws c.release.new.things.names c.write.new.records.items c.write.new.uses.items
    c.has_each_name_once.ensures c.args.bits c.write.ensures.written c.release.ensures.len (rw c.deref.ensures.value at c.release.ensures.names))

pub returns-clause-record_room : goal.returns-clause-record_room
returns-clause-record_room g c =
    let s = c.self.inside in
    rw (← c.self.view_is, c.write.ensures.capacity)
    (at_room g.K.PartialEq.eq s.things.names s.records.items s.uses.items c.self.invariant c.args.place c.index-record.result.now
    (omega (arith, c.requires, ap (λ v. length v.entries) c.self.view_is, held_length g.K.PartialEq.eq s.things.names s.records.items s.uses.items c.self.invariant)) c.index-record.ensures g.met.K.Eq.laws c.release.new.things.names c.write.new.records.items c.write.new.uses.items
    c.has_each_name_once.ensures c.args.bits c.write.ensures.written c.release.ensures.len (rw c.deref.ensures.value at c.release.ensures.names)
    (vec_capacity s.records) (omega arith) (omega arith))
