use Rattle.canonical_texts.proofs.Strings.{mandatory_read, string_read}
use Rattle.canonical_texts.proofs.laws.written_strings_are_read.Goals as goal

pub returns : goal.returns
returns c = record { value = string_read; mandatory = mandatory_read }
