use Rattle.std.proofs.Common.{subst, sym}
use Rattle.acl_stmt.specs.declared.statement.Statement.{Statement}
use Rattle.entry_fields.specs.Reading.{IsFieldFault}
use Rattle.entry_reading.proofs.Texts.{no_statement_in}
use Rattle.grant_parse.specs.Meaning.{IsStatement}
use Rattle.entry_reading.proofs.statement.parsed.Goals as goal

pub returns-in-Err-clause-err : goal.returns-in-Err-clause-err
returns-in-Err-clause-err c =
    subst (IsFieldFault ((s : Statement) → IsStatement 4294967295 c.args.text.now s → ⊥)) (sym c.unread.ensures)
    (no_statement_in (IsStatement 4294967295 c.args.text.now) c.in-Err.refusal c.in-Err.ensures.only)
