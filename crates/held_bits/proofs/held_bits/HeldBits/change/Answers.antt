use Rattle.std.proofs.Common.{◌∙◌, ap, sym, refl, length, ◌+◌, arith}
use Rattle.std.proofs.lemmas.Bool.{true≢false}
use Rattle.held_bits.specs.Bits.{record_count}
use Rattle.std.specs.Vec.{vec_capacity}
use Rattle.held_bits.specs.HeldBits.{bits_at}
use Rattle.held_bits.specs.Records.{entries_of}
use Rattle.held_bits.proofs.Writes.{none_is}
use Rattle.held_bits.proofs.Entries.{bits_new}
use Rattle.held_bits.proofs.Changes.{number_within, none_set, equal_is_new, keeps_in, released_held, sets_released, count_released, uses_released, things_released, room_released, new_none, same_uses}
use Rattle.held_bits.proofs.held_bits.HeldBits.change.Goals as goal

pub write-requires-clause-thing : goal.write-requires-clause-thing
write-requires-clause-thing g c =
    let s = c.self.inside in
    omega (
      arith,
      s.uses.ok.0,
      number_within g.K.PartialEq.eq s.things.names s.records.items s.uses.items c.self.invariant
          c.in-Some.number c.args.thing.now ((c.in-Some.ensures.number c.in-Some.number).0 refl),
    )

pub write-requires-clause-room : goal.write-requires-clause-room
write-requires-clause-room g c = λ none some.
    let s = c.self.inside in
    absurd (true≢false (sym none ∙ keeps_in g.K.PartialEq.eq g.met.K.Eq.laws s.things.names s.things.names s.records.items s.records.items s.uses.items s.uses.items
    c.self.invariant c.has_each_name_once.ensures c.args.holder c.in-Some.number c.args.thing.now c.args.bits ((c.in-Some.ensures.number c.in-Some.number).0 refl)
    (rw (← c.self.view_is) at c.requires) some))

pub write-requires-clause-limit : goal.write-requires-clause-limit
write-requires-clause-limit g c = λ none some.
    let s = c.self.inside in
    absurd (true≢false (sym none ∙ keeps_in g.K.PartialEq.eq g.met.K.Eq.laws s.things.names s.things.names s.records.items s.records.items s.uses.items s.uses.items
    c.self.invariant c.has_each_name_once.ensures c.args.holder c.in-Some.number c.args.thing.now c.args.bits ((c.in-Some.ensures.number c.in-Some.number).0 refl)
    (rw (← c.self.view_is) at c.requires) some))

pub release-requires : goal.release-requires
release-requires g c =
    let s = c.self.inside in
    omega (
      arith,
      c.write.ensures.written.numbers,
      ap length c.deref.ensures.value,
      number_within g.K.PartialEq.eq s.things.names s.records.items s.uses.items c.self.invariant
          c.in-Some.number c.args.thing.now ((c.in-Some.ensures.number c.in-Some.number).0 refl),
    )

pub invariant_of-self : goal.invariant_of-self
invariant_of-self g c =
    let s = c.self.inside in
    released_held g.K.PartialEq.eq g.met.K.Eq.laws s.things.names c.release.new.things.names s.records.items c.write.new.records.items s.uses.items c.write.new.uses.items
    c.self.invariant c.has_each_name_once.ensures c.args.holder c.in-Some.number c.args.thing.now c.args.bits ((c.in-Some.ensures.number c.in-Some.number).0 refl)
    (rw (← c.self.view_is) at c.requires) c.write.ensures.written c.release.ensures.len (rw c.deref.ensures.value at c.release.ensures.names)

pub returns-in-Some-clause-bits : goal.returns-in-Some-clause-bits
returns-in-Some-clause-bits g c =
    let s = c.self.inside in
    rw (← c.self.view_is)
    (sets_released g.K.PartialEq.eq g.met.K.Eq.laws s.things.names c.release.new.things.names s.records.items c.write.new.records.items s.uses.items c.write.new.uses.items
    c.self.invariant c.has_each_name_once.ensures c.args.holder c.in-Some.number c.args.thing.now c.args.bits ((c.in-Some.ensures.number c.in-Some.number).0 refl)
    (rw (← c.self.view_is) at c.requires) c.write.ensures.written c.release.ensures.len (rw c.deref.ensures.value at c.release.ensures.names))

pub returns-in-Some-clause-count : goal.returns-in-Some-clause-count
returns-in-Some-clause-count g c =
    let s = c.self.inside in
    rw (← c.self.view_is)
    (count_released g.K.PartialEq.eq g.met.K.Eq.laws s.things.names c.release.new.things.names s.records.items c.write.new.records.items s.uses.items c.write.new.uses.items
    c.self.invariant c.has_each_name_once.ensures c.args.holder c.in-Some.number c.args.thing.now c.args.bits ((c.in-Some.ensures.number c.in-Some.number).0 refl)
    (rw (← c.self.view_is) at c.requires) c.write.ensures.written c.release.ensures.len (rw c.deref.ensures.value at c.release.ensures.names))

pub returns-in-Some-clause-uses : goal.returns-in-Some-clause-uses
returns-in-Some-clause-uses g c =
    let s = c.self.inside in
    rw (← c.self.view_is)
    (uses_released g.K.PartialEq.eq g.met.K.Eq.laws s.things.names c.release.new.things.names s.records.items c.write.new.records.items s.uses.items c.write.new.uses.items
    c.self.invariant c.has_each_name_once.ensures c.args.holder c.in-Some.number c.args.thing.now c.args.bits ((c.in-Some.ensures.number c.in-Some.number).0 refl)
    (rw (← c.self.view_is) at c.requires) c.write.ensures.written c.release.ensures.len (rw c.deref.ensures.value at c.release.ensures.names))

pub returns-in-Some-clause-things : goal.returns-in-Some-clause-things
returns-in-Some-clause-things g c =
    let s = c.self.inside in
    rw (← c.self.view_is)
    (things_released g.K.PartialEq.eq g.met.K.Eq.laws s.things.names c.release.new.things.names s.records.items c.write.new.records.items s.uses.items c.write.new.uses.items
    c.self.invariant c.has_each_name_once.ensures c.args.holder c.in-Some.number c.args.thing.now c.args.bits ((c.in-Some.ensures.number c.in-Some.number).0 refl)
    (rw (← c.self.view_is) at c.requires) c.write.ensures.written c.release.ensures.len (rw c.deref.ensures.value at c.release.ensures.names))

pub returns-in-Some-clause-record_room : goal.returns-in-Some-clause-record_room
returns-in-Some-clause-record_room g c =
    let s = c.self.inside in
    rw (← c.self.view_is, c.write.ensures.capacity)
    (room_released g.K.PartialEq.eq g.met.K.Eq.laws s.things.names c.release.new.things.names s.records.items c.write.new.records.items s.uses.items c.write.new.uses.items
    c.self.invariant c.has_each_name_once.ensures c.args.holder c.in-Some.number c.args.thing.now c.args.bits ((c.in-Some.ensures.number c.in-Some.number).0 refl)
    (rw (← c.self.view_is) at c.requires) c.write.ensures.written c.release.ensures.len (rw c.deref.ensures.value at c.release.ensures.names)
    (vec_capacity s.records) (omega arith) (omega arith))

pub returns-in_default-clause-bits : goal.returns-in_default-clause-bits
returns-in_default-clause-bits g c =
    let s = c.self.inside in
    rw (← c.self.view_is)
    (none_set g.K.PartialEq.eq g.met.K.Eq.laws (entries_of s.things.names s.records.items) c.args.holder c.args.thing.now c.args.bits
    (equal_is_new g.K.PartialEq.eq g.met.K.Eq.laws s.things.names s.records.items c.args.thing.now c.in_default.ensures.absent)
    (new_none g.K.PartialEq.eq s.things.names s.records.items c.args.holder c.args.thing.now c.args.bits c.in_default.ensures.absent
    (rw (← c.self.view_is) at c.requires)))

pub returns-in_default-clause-count : goal.returns-in_default-clause-count
returns-in_default-clause-count g c =
    let s = c.self.inside in
    rw (← c.self.view_is)
    (ap (λ n. length (entries_of s.things.names s.records.items) + n)
    (ap record_count (bits_new g.K.PartialEq.eq s.things.names s.records.items c.args.holder c.args.thing.now c.in_default.ensures.absent)
    ∙ sym (ap record_count (none_is c.args.bits
    (new_none g.K.PartialEq.eq s.things.names s.records.items c.args.holder c.args.thing.now c.args.bits c.in_default.ensures.absent
    (rw (← c.self.view_is) at c.requires))))))

pub returns-in_default-clause-uses : goal.returns-in_default-clause-uses
returns-in_default-clause-uses g c =
    let s = c.self.inside in
    rw (← c.self.view_is)
    (same_uses g.K.PartialEq.eq (entries_of s.things.names s.records.items) c.args.thing.now
    (bits_at g.K.PartialEq.eq (entries_of s.things.names s.records.items) c.args.holder c.args.thing.now) c.args.bits
    (ap record_count (bits_new g.K.PartialEq.eq s.things.names s.records.items c.args.holder c.args.thing.now c.in_default.ensures.absent)
    ∙ sym (ap record_count (none_is c.args.bits
    (new_none g.K.PartialEq.eq s.things.names s.records.items c.args.holder c.args.thing.now c.args.bits c.in_default.ensures.absent
    (rw (← c.self.view_is) at c.requires))))))
