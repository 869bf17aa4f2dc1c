use Rattle.std.proofs.Common.{◌∙◌, ap, sym, arith}
use Rattle.std.specs.List.{list_any}
use Rattle.held_bits.specs.HeldBits.{is_on}
use Rattle.held_bits.proofs.Entries.{number_of_known}
use Rattle.std.specs.Vec.{vec_capacity}
use Rattle.held_bits.proofs.Changes.{put_held, sets_put, count_put, uses_put, things_put, room_put}
use Rattle.held_bits.proofs.held_bits.HeldBits.set.Goals as goal

pub invariant_of-self : goal.invariant_of-self
invariant_of-self g c =
    let s = c.self.inside in
    let p = c.number_for-number in
    put_held g.K.PartialEq.eq g.met.K.Eq.laws s.things.names p.new.things.names s.records.items c.write.new.records.items s.uses.items p.new.uses.items c.write.new.uses.items
    c.self.invariant c.has_each_name_once.ensures c.args.holder p.result c.args.thing c.args.bits p.ensures.is (sym c.if-are_none.ensures.is)
    (omega (arith, c.requires.record_room, ap (λ v. v.record_room) c.self.view_is)) p.ensures.numbers p.ensures.uses p.ensures.stood p.ensures.others c.write.ensures.written

pub returns-else-are_none-clause-bits : goal.returns-else-are_none-clause-bits
returns-else-are_none-clause-bits g c =
    let s = c.self.inside in
    let p = c.number_for-number in
    rw (← c.self.view_is)
    (sets_put g.K.PartialEq.eq g.met.K.Eq.laws s.things.names p.new.things.names s.records.items c.write.new.records.items s.uses.items p.new.uses.items c.write.new.uses.items
    c.self.invariant c.has_each_name_once.ensures c.args.holder p.result c.args.thing c.args.bits p.ensures.is (sym c.if-are_none.ensures.is)
    (omega (arith, c.requires.record_room, ap (λ v. v.record_room) c.self.view_is)) p.ensures.numbers p.ensures.uses p.ensures.stood p.ensures.others c.write.ensures.written)

pub returns-else-are_none-clause-count : goal.returns-else-are_none-clause-count
returns-else-are_none-clause-count g c =
    let s = c.self.inside in
    let p = c.number_for-number in
    rw (← c.self.view_is)
    (count_put g.K.PartialEq.eq g.met.K.Eq.laws s.things.names p.new.things.names s.records.items c.write.new.records.items s.uses.items p.new.uses.items c.write.new.uses.items
    c.self.invariant c.has_each_name_once.ensures c.args.holder p.result c.args.thing c.args.bits p.ensures.is (sym c.if-are_none.ensures.is)
    (omega (arith, c.requires.record_room, ap (λ v. v.record_room) c.self.view_is)) p.ensures.numbers p.ensures.uses p.ensures.stood p.ensures.others c.write.ensures.written)

pub returns-else-are_none-clause-uses : goal.returns-else-are_none-clause-uses
returns-else-are_none-clause-uses g c =
    let s = c.self.inside in
    let p = c.number_for-number in
    rw (← c.self.view_is)
    (uses_put g.K.PartialEq.eq g.met.K.Eq.laws s.things.names p.new.things.names s.records.items c.write.new.records.items s.uses.items p.new.uses.items c.write.new.uses.items
    c.self.invariant c.has_each_name_once.ensures c.args.holder p.result c.args.thing c.args.bits p.ensures.is (sym c.if-are_none.ensures.is)
    (omega (arith, c.requires.record_room, ap (λ v. v.record_room) c.self.view_is)) p.ensures.numbers p.ensures.uses p.ensures.stood p.ensures.others c.write.ensures.written)

pub returns-else-are_none-clause-things : goal.returns-else-are_none-clause-things
returns-else-are_none-clause-things g c =
    let s = c.self.inside in
    let p = c.number_for-number in
    rw (← c.self.view_is)
    (things_put g.K.PartialEq.eq g.met.K.Eq.laws s.things.names p.new.things.names s.records.items c.write.new.records.items s.uses.items p.new.uses.items c.write.new.uses.items
    c.self.invariant c.has_each_name_once.ensures c.args.holder p.result c.args.thing c.args.bits p.ensures.is (sym c.if-are_none.ensures.is)
    (omega (arith, c.requires.record_room, ap (λ v. v.record_room) c.self.view_is)) p.ensures.numbers p.ensures.uses p.ensures.stood p.ensures.others c.write.ensures.written)

pub returns-else-are_none-clause-record_room : goal.returns-else-are_none-clause-record_room
returns-else-are_none-clause-record_room g c =
    let s = c.self.inside in
    let p = c.number_for-number in
    rw (← c.self.view_is, c.write.ensures.capacity)
    (room_put g.K.PartialEq.eq g.met.K.Eq.laws s.things.names p.new.things.names s.records.items c.write.new.records.items s.uses.items p.new.uses.items c.write.new.uses.items
    c.self.invariant c.has_each_name_once.ensures c.args.holder p.result c.args.thing c.args.bits p.ensures.is (sym c.if-are_none.ensures.is)
    (omega (arith, c.requires.record_room, ap (λ v. v.record_room) c.self.view_is)) p.ensures.numbers p.ensures.uses p.ensures.stood p.ensures.others c.write.ensures.written
    (vec_capacity s.records) (omega arith) (omega arith))

pub returns-else-are_none-clause-known_thing : goal.returns-else-are_none-clause-known_thing
returns-else-are_none-clause-known_thing g c = λ known.
    let s = c.self.inside in
    let there = number_of_known g.K.PartialEq.eq s.things.names s.records.items c.args.thing
    (ap (λ v. list_any (is_on g.K.PartialEq.eq c.args.thing) v.entries) c.self.view_is ∙ known) in
    let rooms = c.number_for-number.ensures.known there.0 there.1 in
    rw (← c.self.view_is)
    (omega (arith, rooms.0, rooms.1, c.write.ensures.uses_capacity, c.write.ensures.written.numbers))
