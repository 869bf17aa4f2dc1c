use Rattle.object_bits.specs.Seen.{seen}
use Rattle.holding_lists.proofs.Sets.{with_bit_below}
use Rattle.holding_lists.specs.Additions.{is_on_object, Adds}
use Rattle.holding_lists.proofs.objects.add_on_object.Given as goal

abbrev pub invariant-loop-privilege : goal.invariant-loop-privilege
invariant-loop-privilege l = Adds l.fn.list.items l.list.items (with_bit_below (is_on_object l.account (seen l.object)) l.set l.privilege)
