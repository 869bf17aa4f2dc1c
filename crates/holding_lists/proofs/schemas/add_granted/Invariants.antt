use Rattle.holding_lists.proofs.Sets.{with_bit_below}
use Rattle.holding_lists.specs.Additions.{is_on_schema, Adds}
use Rattle.holding_lists.proofs.schemas.add_granted.Given as goal

abbrev pub invariant-loop-privilege : goal.invariant-loop-privilege
invariant-loop-privilege l = Adds l.fn.list.items l.list.items (with_bit_below (is_on_schema l.account l.schema) l.set l.privilege)
