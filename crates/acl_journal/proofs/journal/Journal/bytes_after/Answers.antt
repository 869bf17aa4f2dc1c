use Rattle.std.proofs.Common.{arith}
use Rattle.journal_bytes.proofs.Sizes.{size_more}
use Rattle.acl_journal.proofs.journal.Journal.bytes_after.Goals as goal

pub returns-clause-list : goal.returns-clause-list
returns-clause-list g c = λ entries entry size prepared. omega (arith, c.len.ensures, size, prepared.size, size_more entries entry)
