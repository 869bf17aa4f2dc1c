use Rattle.std.proofs.Common.{◌≡◌, ◌∙◌, subst, sym}
use Rattle.acl_stmt.specs.declared.statement.Statement.{Statement}
use Rattle.canonical_texts.specs.Statements.{canonical_text}
use Rattle.entry_bytes.specs.Spelling.{HasText}
use Rattle.entry_fields.proofs.Refused.{passed_on, unlike}
use Rattle.entry_fields.specs.Reading.{IsFieldFault}
use Rattle.entry_reading.proofs.Texts.{otherwise, wider, wider_fault}
use Rattle.grant_parse.specs.Meaning.{IsStatement}
use Rattle.entry_reading.proofs.statement.statement_of.Goals as goal

pub returns-in_err-statement-clause-err : goal.returns-in_err-statement-clause-err
returns-in_err-statement-clause-err c =
    let Wanted = IsFieldFault ((s : Statement) → HasText s → canonical_text s ≡ c.args.text.now → ⊥) in
    let fault : Wanted c.in_err-statement.field-0.0 =
    wider_fault ((s : Statement) → IsStatement 4294967295 c.args.text.now s → ⊥) ((s : Statement) → HasText s → canonical_text s ≡ c.args.text.now → ⊥) c.in_err-statement.field-0.0
    (λ none s has same. none s (wider c.args.text.now s c.requires has same)) c.in_err-statement.ensures.err in
    passed_on Wanted c.from_residual.result c.from_residual.ensures.1 (λ y is. subst Wanted (sym is) fault)

pub returns-then-ne-clause-err : goal.returns-then-ne-clause-err
returns-then-ne-clause-err c =
    otherwise c.args.text.now c.in_ok-statement.statement c.in_ok-statement.ensures.ok
    (λ same. unlike c.as_str.result.now c.args.text.now (sym c.ne.ensures ∙ c.if-ne.true) (c.as_str.ensures.value ∙ c.in_ok-canonical.ensures ∙ same))
