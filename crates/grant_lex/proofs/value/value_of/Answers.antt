use Rattle.std.proofs.Common.{sym, ◌∙◌}
use Rattle.grant_lex.proofs.Values.{inside_text}
use Rattle.grant_lex.proofs.value.value_of.Goals as goal

pub unquoted-requires-clause-utf8 : goal.unquoted-requires-clause-utf8
unquoted-requires-clause-utf8 c = inside_text _ c.in-len1-up.len_at_least c.as_bytes.ensures.utf8 (sym c.is_quote.ensures ∙ c.if-is_quote.true)
