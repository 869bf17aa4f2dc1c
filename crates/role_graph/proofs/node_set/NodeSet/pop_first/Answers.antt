use Rattle.std.proofs.Common.{◌<◌, ◌^◌, length, get_or, arith}
use Rattle.std.specs.Int.{trailing_zeros, w64}
use Rattle.role_graph.specs.Nodes.{holds}
use Rattle.role_graph.proofs.Bits.{all_zero, lowest_is_held, below_lowest, clear_bit, lowest_below}
use Rattle.role_graph.proofs.node_set.NodeSet.pop_first.Goals as goal

pub returns-in_err-place-clause-empty : goal.returns-in_err-place-clause-empty
unfolding holds
returns-in_err-place-clause-empty c = rw c.from_residual.ensures (all_zero _ (omega arith) c.in_err-place.ensures.none)

pub returns-clause-held : goal.returns-clause-held
unfolding holds
returns-clause-held c =
    let word = get_or c.args.self.now.0 c.in_ok-place.place 0 in
    let some : 0 < word = omega (arith, c.in_ok-place.ensures.found) in
    let fits : word < 2 ^ 64 = omega arith in
    lowest_is_held c.args.self.now.0 c.in_ok-place.place some fits

pub returns-clause-lowest : goal.returns-clause-lowest
unfolding holds
returns-clause-lowest c = λ n below.
    let word = get_or c.args.self.now.0 c.in_ok-place.place 0 in
    let some : 0 < word = omega (arith, c.in_ok-place.ensures.found) in
    let fits : word < 2 ^ 64 = omega arith in
    below_lowest c.args.self.now.0 c.in_ok-place.place n some fits c.in_ok-place.ensures.before below

pub returns-clause-left : goal.returns-clause-left
unfolding holds
returns-clause-left c = λ n.
    let inside : c.in_ok-place.place < length c.args.self.now.0 = omega (arith, c.in_ok-place.ensures.within) in
    let word = get_or c.args.self.now.0 c.in_ok-place.place 0 in
    let some : 0 < word = omega (arith, c.in_ok-place.ensures.found) in
    let fits : word < 2 ^ 64 = omega arith in
    clear_bit c.args.self.now.0 c.in_ok-place.place (trailing_zeros w64 (get_or c.args.self.now.0 c.in_ok-place.place 0)) n inside (lowest_below word some fits)
