use Rattle.std.proofs.Common.{ap, arith}
use Rattle.holding_lists.specs.Additions.{held_on_schemas}
use Rattle.holding_lists.specs.Said.{schema_says}
use Rattle.holding_lists.proofs.Entries.{all_said, entry_said, none_said}
use Rattle.holding_lists.proofs.Readings.{schemas_read}
use Rattle.holding_lists.proofs.schemas.add_schemas.Goals as goal
use Rattle.holding_lists.proofs.schemas.add_schemas.Goals.{in-Some+in_ok-add_schema, in_default}

pub loop-place-init : goal.loop-place-init
loop-place-init c =
    none_said schema_says c.args.held.now.entries c.args.account c.first_of-place.result c.args.list.now.items c.first_of-place.ensures

pub loop-place-preserved : goal.loop-place-preserved
loop-place-preserved c = elim c.match-get.branch [
  | in-Some+in_ok-add_schema w ↦
      entry_said schema_says c.args.held.now.entries c.args.account c.loop-place.place c.first_of-place.result c.first_of-place-end.result
      w.in-Some.field-0-0 w.in-Some.schema.now w.in-Some.bits c.args.list.now.items c.loop-place.list.items w.add_schema.new.list.items c.match-get.list.items
      c.first_of-place.ensures c.first_of-place-end.ensures c.loop-place.auto.place c.loop-place-test.true w.in-Some.ensures.entry
      c.loop-place.invariant w.in_ok-add_schema.ensures (ap (λ v. v.items) w.list-is)
  | in_default w ↦ absurd (omega (arith, c.first_of-place-end.ensures.inside, c.loop-place-test.true, w.in_default.ensures.none))
]

pub returns : goal.returns
returns c =
    all_said schema_says c.args.held.now.entries c.args.account c.first_of-place-end.result c.loop-place.place c.args.list.now.items c.loop-place.list.items
    (held_on_schemas c.args.held.now.entries c.args.account) c.first_of-place-end.ensures c.loop-place-test.false
    (schemas_read c.args.held.now.entries c.is_sound.ensures c.args.account) c.loop-place.invariant
