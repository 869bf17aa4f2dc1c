use Rattle.journal_bytes.proofs.Sizes.{place}
use Rattle.journal_bytes.proofs.Standing.{either_way, same_front}
use Rattle.journal_bytes.proofs.laws.bytes_behind_the_last_gate_are_passed_over.Goals as goal

pub returns-clause-front : goal.returns-clause-front
returns-clause-front c = same_front

pub returns-clause-either : goal.returns-clause-either
returns-clause-either c = either_way

pub returns-clause-place : goal.returns-clause-place
returns-clause-place c = place
