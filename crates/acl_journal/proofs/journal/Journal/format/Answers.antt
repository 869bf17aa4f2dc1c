use Rattle.std.proofs.Common.{◌≤◌, length, refl, sym, arith}
use Rattle.journal_bytes.proofs.Sizes.{size_none}
use Rattle.journal_bytes.specs.Files.{file_size}
use Rattle.std.proofs.Common.{[]}
use Rattle.acl_journal.proofs.journal.Journal.format.Goals as goal

pub returns-in-Ok-clause-ok : goal.returns-in-Ok-clause-ok
returns-in-Ok-clause-ok g c = λ start. record { settled = refl; size = sym size_none; holds = c.in-Ok.ensures.done start }

pub returns-in-Ok-clause-place : goal.returns-in-Ok-clause-place
returns-in-Ok-clause-place g c = λ held is. let long : file_size [] ≤ length held = c.in-Ok.ensures.long held is in omega (arith, long, size_none)
