use Rattle.std.proofs.Common.{ap, arith}
use Rattle.holding_lists.specs.Additions.{held_on_objects, is_on_object, with_bit}
use Rattle.holding_lists.specs.Said.{object_says}
use Rattle.object_bits.specs.Kept.{only_granted}
use Rattle.object_bits.specs.Seen.{seen}
use Rattle.holding_lists.proofs.Additions.{adds_same}
use Rattle.holding_lists.proofs.Entries.{all_said, entry_said, none_said}
use Rattle.holding_lists.proofs.Readings.{object_together, objects_read}
use Rattle.holding_lists.proofs.objects.add_objects.Goals as goal
use Rattle.holding_lists.proofs.objects.add_objects.Goals.{in-Some+in_ok-add_on_object, in_default}

pub loop-place-init : goal.loop-place-init
loop-place-init c =
    none_said object_says c.args.held.now.entries c.args.account c.first_of-place.result c.args.list.now.items c.first_of-place.ensures

pub loop-place-preserved : goal.loop-place-preserved
loop-place-preserved c = elim c.match-get.branch [
  | in-Some+in_ok-add_on_object w ↦
      entry_said object_says c.args.held.now.entries c.args.account c.loop-place.place c.first_of-place.result c.first_of-place-end.result
      w.in-Some.field-0-0 (seen w.in-Some.object) (only_granted w.in-Some.bits) c.args.list.now.items c.loop-place.list.items w.add_on_object.new.list.items c.match-get.list.items
      c.first_of-place.ensures c.first_of-place-end.ensures c.loop-place.auto.place c.loop-place-test.true w.in-Some.ensures.entry
      c.loop-place.invariant
      (adds_same c.loop-place.list.items w.add_on_object.new.list.items (with_bit (is_on_object c.args.account (seen w.in-Some.object)) w.in-Some.bits)
      (λ h. object_says h (record { holder = c.args.account; thing = seen w.in-Some.object; bits = only_granted w.in-Some.bits }))
      (object_together w.in-Some.bits c.args.account (seen w.in-Some.object)) w.in_ok-add_on_object.ensures)
      (ap (λ v. v.items) w.list-is)
  | in_default w ↦ absurd (omega (arith, c.first_of-place-end.ensures.inside, c.loop-place-test.true, w.in_default.ensures.none))
]

pub returns : goal.returns
returns c =
    all_said object_says c.args.held.now.entries c.args.account c.first_of-place-end.result c.loop-place.place c.args.list.now.items c.loop-place.list.items
    (held_on_objects c.args.held.now.entries c.args.account) c.first_of-place-end.ensures c.loop-place-test.false
    (objects_read c.args.held.now.entries c.is_sound.ensures.sound c.args.account) c.loop-place.invariant
