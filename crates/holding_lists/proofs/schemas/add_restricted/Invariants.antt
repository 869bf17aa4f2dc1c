use Rattle.holding_lists.proofs.Sets.{with_bit_below}
use Rattle.holding_lists.specs.Additions.{is_restricted, Adds}
use Rattle.holding_lists.proofs.schemas.add_restricted.Given as goal

abbrev pub invariant-loop-privilege : goal.invariant-loop-privilege
invariant-loop-privilege l = Adds l.fn.list.items l.list.items (with_bit_below (is_restricted l.account l.schema) l.set l.privilege)
