use Rattle.std.proofs.Common.{arith, ◌≡◌, ◌+◌, length}
use Rattle.acl_program.specs.declared.input.TheConstants.{MOST_BYTES}
use Rattle.acl_program.proofs.StreamLemmas.{read_left, read_beyond}
use Rattle.acl_program.proofs.input.read_all.Goals as goal

pub returns-in_err-count-clause-left : goal.returns-in_err-count-clause-left
returns-in_err-count-clause-left g c = read_left _ _ _ _ _ _ c.loop-chunk.invariant.read c.read.ensures.taken

pub returns-in_err-map_err-clause-left : goal.returns-in_err-map_err-clause-left
returns-in_err-map_err-clause-left g c = read_left _ _ _ _ _ _ c.loop-chunk.invariant.read c.read.ensures.taken

pub returns-clause-too_long : goal.returns-clause-too_long
returns-clause-too_long g c same =
    let long : length c.loop-chunk.bytes.items ≡ MOST_BYTES + 1 = omega arith in
    read_beyond _ _ _ _ c.loop-chunk.invariant.read long
