use Rattle.grant_lex.proofs.Prints.{printed_cut}
use Rattle.grant_lex.proofs.laws.printed_tokens_are_read.Goals as goal

pub returns : goal.returns
returns c = printed_cut
