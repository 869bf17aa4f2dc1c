use Rattle.std.proofs.Common.{subst, sym}
use Rattle.std.specs.Prelude.{string_bytes}
use Rattle.canonical_texts.specs.Statements.{canonical_text}
use Rattle.entry_codec.proofs.ReadBack.{completed, read_back, written}
use Rattle.entry_codec.specs.ReadBack.{IsReadBack}
use Rattle.entry_codec.proofs.text_of.Goals as goal

pub returns-clause-read_back : goal.returns-clause-read_back
returns-clause-read_back c =
    λ most bytes utf8 is complete.
    written string_bytes c.text_of.result c.args.statement.now c.text_of.ensures (read_back c.args.statement.now most bytes utf8 is complete)

pub returns-clause-completed : goal.returns-clause-completed
returns-clause-completed c =
    λ most bytes account verifier is keeps same.
    written string_bytes c.text_of.result c.args.statement.now c.text_of.ensures
    (subst (λ s. IsReadBack (canonical_text s) s) (sym same) (completed account verifier most bytes is keeps))
