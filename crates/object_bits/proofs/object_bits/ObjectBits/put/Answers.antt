use Rattle.std.proofs.Common.{◌≡◌, ◌∙◌, ◌≤◌, ◌/◌, ap, min, subst, sym, false, arith}
use Rattle.held_bits.specs.declared.bits.Bits.{Bits}
use Rattle.held_bits.specs.Bits.{are_none}
use Rattle.object_bits.specs.Keys.{on_objects}
use Rattle.object_bits.specs.Kept.{only_granted}
use Rattle.object_bits.proofs.Moves.{IsMoved, added, few_uses, replaced, room_stays}
use Rattle.object_bits.proofs.object_bits.ObjectBits.put.Goals as goal

pub take_key-key-requires-clause-few : goal.take_key-key-requires-clause-few
take_key-key-requires-clause-few c = few_uses c.self.inside.names.uses c.self.inside.bits.entries c.self.invariant

held_some : (b : Bits) (found : Bits) → found ≡ b → false ≡ are_none found → are_none b ≡ false
held_some b found same some = ap are_none (sym same) ∙ sym some

again : (c : goal.After-give_back_key) →
    IsMoved c.args.self.now.entries (on_objects c.give_back_key.new.names.names c.set_bits.new.bits.entries) c.args.holder c.args.object
    (only_granted c.args.granted)
again c =
    let s = c.self.inside in
    let middle = c.take_key-key.new.names in
    replaced s.names.names middle.names s.names.uses middle.uses s.bits.entries c.set_bits.new.bits.entries c.args.self.now.entries c.args.holder c.args.object
    c.take_key-key.result (only_granted c.args.granted) (ap (λ v. v.entries) c.self.view_is) c.are_counted.ensures.counted
    c.are_counted-else-granted-eq0.ensures.counted c.are_counted-else-granted-eq0.ensures.once c.self.invariant c.take_key-key.ensures.key
    c.take_key-key.ensures.uses c.take_key-key.ensures.stood c.set_bits.ensures.set c.give_back_key.new.names.names c.give_back_key.new.names.uses
    (held_some _ c.bits_of-held.result c.bits_of-held.ensures c.if-not-are_none.ensures.is) c.give_back_key.ensures.uses c.give_back_key.ensures.kept

first : (c : goal.Else-not-are_none) →
    IsMoved c.args.self.now.entries (on_objects c.take_key-key.new.names.names c.set_bits.new.bits.entries) c.args.holder c.args.object
    (only_granted c.args.granted)
first c =
    let s = c.self.inside in
    let middle = c.take_key-key.new.names in
    added s.names.names middle.names s.names.uses middle.uses s.bits.entries c.set_bits.new.bits.entries c.args.self.now.entries c.args.holder c.args.object
    c.take_key-key.result (only_granted c.args.granted) (ap (λ v. v.entries) c.self.view_is) c.are_counted.ensures.counted
    c.are_counted-else-granted-eq0.ensures.counted c.are_counted-else-granted-eq0.ensures.once c.self.invariant c.take_key-key.ensures.key
    c.take_key-key.ensures.uses c.take_key-key.ensures.stood c.set_bits.ensures.set

pub returns-then-not-are_none-clause-bits : goal.returns-then-not-are_none-clause-bits
returns-then-not-are_none-clause-bits c = (again c).sets

pub returns-then-not-are_none-clause-count : goal.returns-then-not-are_none-clause-count
returns-then-not-are_none-clause-count c = (again c).count

pub returns-else-not-are_none-clause-bits : goal.returns-else-not-are_none-clause-bits
returns-else-not-are_none-clause-bits c = (first c).sets

pub returns-else-not-are_none-clause-count : goal.returns-else-not-are_none-clause-count
returns-else-not-are_none-clause-count c = (first c).count

pub returns-then-not-are_none-clause-known_thing : goal.returns-then-not-are_none-clause-known_thing
returns-then-not-are_none-clause-known_thing c = λ held.
    let s = c.self.inside in
    let middle = c.take_key-key.new.names in
    let after = c.give_back_key.new.names in
    subst (λ n. n ≤ min c.set_bits.new.bits.thing_room (after.room / 3)) (ap (λ v. v.thing_room) c.self.view_is)
    (room_stays s.names.names middle.names s.names.uses middle.uses s.bits.entries c.set_bits.new.bits.entries c.args.self.now.entries c.args.holder
    c.args.object c.take_key-key.result (only_granted c.args.granted) (ap (λ v. v.entries) c.self.view_is) c.are_counted.ensures.counted
    c.are_counted-else-granted-eq0.ensures.counted c.are_counted-else-granted-eq0.ensures.once c.self.invariant c.take_key-key.ensures.key
    c.take_key-key.ensures.uses c.take_key-key.ensures.stood c.set_bits.ensures.set s.bits.thing_room c.set_bits.new.bits.thing_room s.names.room after.room
    c.set_bits.ensures.known_thing (λ k is. omega (arith, c.take_key-key.ensures.known k is, c.give_back_key.ensures.room)) held)

pub returns-else-not-are_none-clause-known_thing : goal.returns-else-not-are_none-clause-known_thing
returns-else-not-are_none-clause-known_thing c = λ held.
    let s = c.self.inside in
    let middle = c.take_key-key.new.names in
    subst (λ n. n ≤ min c.set_bits.new.bits.thing_room (middle.room / 3)) (ap (λ v. v.thing_room) c.self.view_is)
    (room_stays s.names.names middle.names s.names.uses middle.uses s.bits.entries c.set_bits.new.bits.entries c.args.self.now.entries c.args.holder
    c.args.object c.take_key-key.result (only_granted c.args.granted) (ap (λ v. v.entries) c.self.view_is) c.are_counted.ensures.counted
    c.are_counted-else-granted-eq0.ensures.counted c.are_counted-else-granted-eq0.ensures.once c.self.invariant c.take_key-key.ensures.key
    c.take_key-key.ensures.uses c.take_key-key.ensures.stood c.set_bits.ensures.set s.bits.thing_room c.set_bits.new.bits.thing_room s.names.room middle.room
    c.set_bits.ensures.known_thing c.take_key-key.ensures.known held)
