use Rattle.std.proofs.Common.{◌||◌}
use Rattle.std.proofs.lemmas.Result.{on_ok_weaker}
use Rattle.holding_lists.specs.Additions.{is_on_schema, is_restricted, with_bit}
use Rattle.holding_lists.specs.Said.{schema_says}
use Rattle.holding_lists.proofs.Additions.{adds_both, adds_same}
use Rattle.holding_lists.proofs.Readings.{schema_together}
use Rattle.holding_lists.proofs.schemas.add_schema.Goals as goal

pub returns : goal.returns
returns c =
    let bits = c.args.bits in
    let granted = with_bit (is_on_schema c.args.account c.args.schema.now) bits.granted in
    let restricted = with_bit (is_restricted c.args.account c.args.schema.now) bits.restricted in
    let old = c.args.list.now.items in
    let new = c.add_restricted.new.list.items in
    on_ok_weaker c.add_restricted.result
    (λ last.
    adds_same old new (λ h. granted h || restricted h) (λ h. schema_says h (record { holder = c.args.account; thing = c.args.schema.now; bits = bits }))
    (schema_together bits c.args.account c.args.schema.now)
    (adds_both old c.add_granted.new.list.items new granted restricted c.in_ok-add_granted.ensures last))
    c.add_restricted.ensures
