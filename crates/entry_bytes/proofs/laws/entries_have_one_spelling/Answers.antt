use Rattle.std.proofs.Common.{◌∙◌, [], append-nil, sym}
use Rattle.entry_bytes.proofs.Parts.{entry_once, with_behind}
use Rattle.entry_bytes.specs.Spelling.{bytes_of}
use Rattle.entry_bytes.proofs.laws.entries_have_one_spelling.Goals as goal

pub returns : goal.returns
returns c =
    λ a b rest fits fits' e.
    entry_once a b rest [] fits fits' (sym (with_behind a rest) ∙ e ∙ sym (append-nil (bytes_of b)) ∙ with_behind b [])
