use Rattle.std.proofs.Common.{arith}
use Rattle.grant_parse.proofs.Kept.{raw_text_accounts, statement_few, user_text_kept}
use Rattle.grant_parse.proofs.parsing.read_statement.Goals as goal

pub statement_from-requires : goal.statement_from-requires
statement_from-requires c = statement_few c.args.text.now c.in-Ok-Second.raw (grind arith) (rw c.in-Ok-Second.field-0-is at c.in-Ok-Second.ensures.ok)

pub returns-in-Ok-First-clause-kept : goal.returns-in-Ok-First-clause-kept
returns-in-Ok-First-clause-kept c = user_text_kept c.args.text.now c.in-Ok-First.statement (rw c.in-Ok-First.field-0-is at c.in-Ok-First.ensures.ok)

pub returns-in-Ok-Second-clause-kept : goal.returns-in-Ok-Second-clause-kept
returns-in-Ok-Second-clause-kept c =
    c.statement_from.ensures.kept (raw_text_accounts c.args.text.now c.in-Ok-Second.raw (rw c.in-Ok-Second.field-0-is at c.in-Ok-Second.ensures.ok))
