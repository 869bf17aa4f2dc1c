use Rattle.std.proofs.Common.{◌++◌, ◌∙◌, ap}
use Rattle.entry_bytes.specs.Spelling.{number_bytes}
use Rattle.entry_bytes.proofs.writing.append_number.Goals as goal

pub returns : goal.returns
unfolding number_bytes
returns c = c.in_ok-extend_from_slice.ensures.items ∙ ap (λ l. c.args.bytes.now.items ++ l) c.to_le_bytes.ensures
