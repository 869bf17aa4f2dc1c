use Rattle.holding_lists.proofs.Sets.{with_bit_below}
use Rattle.holding_lists.specs.Additions.{is_on_all, Adds}
use Rattle.holding_lists.proofs.globals.add_kind.Given as goal

abbrev pub invariant-loop-privilege : goal.invariant-loop-privilege
invariant-loop-privilege l = Adds l.fn.list.items l.list.items (with_bit_below (is_on_all l.kind l.account) l.set l.privilege)
