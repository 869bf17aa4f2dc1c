use Rattle.std.proofs.Common.{List, subst, ◌∙◌}
use Rattle.grant_words.specs.declared.lexeme.Lexeme.{Lexeme}
use Rattle.script_read.specs.Written.{SpellsWritten, as_written}
use Rattle.script_read.proofs.written.spelled.Goals as goal

pub returns-in-Ok-clause-ok : goal.returns-in-Ok-clause-ok
returns-in-Ok-clause-ok c =
    let P : List Lexeme → Type 0 = λ ts. SpellsWritten ts (as_written c.in-Ok.value) in (
      c.in_ok-tokens.tokens.tokens,
      c.in_ok-tokens.ensures.tokens,
      subst P (c.as_slice.ensures.value ∙ c.in_ok-tokens.ensures.lexemes) c.in-Ok.ensures.ok,
    )
