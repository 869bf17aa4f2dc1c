use Rattle.std.proofs.Common.{subst}
use Rattle.std.specs.Str.{IsUtf8}
use Rattle.std.proofs.lemmas.Str.{IsUtf8-string_bytes}
use Rattle.entry_bytes.proofs.writing.statement_text.Goals as goal

pub returns-clause-kept : goal.returns-clause-kept
returns-clause-kept c = record {
  utf8 = subst IsUtf8 c.in_ok-text.ensures.text (IsUtf8-string_bytes c.in_ok-text.text);
  short = c.requires.short;
  read_back = c.requires.read_back;
}
