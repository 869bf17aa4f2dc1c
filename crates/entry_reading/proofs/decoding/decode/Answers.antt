use Rattle.entry_reading.proofs.Answers.{decoded_exactly, decoded_only}
use Rattle.entry_reading.proofs.decoding.decode.Goals as goal

pub returns-clause-only : goal.returns-clause-only
returns-clause-only c = decoded_only c.args.bytes.now c.read_entry.result c.read_entry.ensures.ok c.read_entry.ensures.kept c.read_entry.ensures.err

pub returns-clause-exact : goal.returns-clause-exact
returns-clause-exact c = decoded_exactly c.args.bytes.now c.read_entry.result c.read_entry.ensures.ok c.read_entry.ensures.kept c.read_entry.ensures.err
