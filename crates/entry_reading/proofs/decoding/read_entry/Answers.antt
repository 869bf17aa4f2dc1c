use Rattle.std.proofs.Common.{refl}
use Rattle.entry_reading.proofs.Entries.{bad_at, left_within}
use Rattle.entry_reading.proofs.decoding.read_entry.Goals as goal

pub overflow_sub-offset : goal.overflow_sub-offset
overflow_sub-offset c = left_within c.args.bytes.now c.in-Err-Bad.left (rw c.in-Err-Bad.field-0-is at c.in-Err-Bad.ensures.err)

pub returns-in-Err-Bad-clause-err : goal.returns-in-Err-Bad-clause-err
returns-in-Err-Bad-clause-err c = bad_at c.args.bytes.now c.in-Err-Bad.left _ (rw c.in-Err-Bad.field-0-is at c.in-Err-Bad.ensures.err) refl
