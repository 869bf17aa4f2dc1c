use Rattle.entry_codec.proofs.ReadBack.{completed, read_back}
use Rattle.entry_bytes.proofs.laws.read_statements_are_read_back.Goals as goal

pub returns-clause-read : goal.returns-clause-read
returns-clause-read c = λ most text s utf8 is complete. read_back s most text utf8 is complete

pub returns-clause-completed : goal.returns-clause-completed
returns-clause-completed c = λ most text account verifier is keeps. completed account verifier most text is keeps
