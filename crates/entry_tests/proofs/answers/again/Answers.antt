use Rattle.entry_tests.proofs.answers.again.Goals as goal

pub encode-requires : goal.encode-requires
encode-requires c = record { read_back = c.requires.text.read_back; short = c.requires.text.short; count = c.requires.count }
