use Rattle.std.proofs.Common.{◌≡◌, ◌∙◌, subst, sym}
use Rattle.acl_stmt.specs.declared.statement.Statement.{Statement}
use Rattle.canonical_texts.specs.Statements.{canonical_text}
use Rattle.entry_bytes.specs.Faults.{NoneBegins}
use Rattle.entry_bytes.specs.Spelling.{HasText, MayStand, statement_bytes}
use Rattle.entry_fields.proofs.Refused.{passed_on}
use Rattle.entry_fields.specs.Reading.{IsFieldFault}
use Rattle.entry_reading.proofs.Texts.{may_not, other_text, wider_fault}
use Rattle.entry_reading.proofs.statement.statement_at.Goals as goal

pub returns-in_err-statement-clause-err : goal.returns-in_err-statement-clause-err
returns-in_err-statement-clause-err c =
    let None = NoneBegins statement_bytes (MayStand c.args.limits.now) c.args.bytes.now in
    let fault : IsFieldFault None c.in_err-statement.field-0.0 =
    wider_fault ((s : Statement) → HasText s → canonical_text s ≡ c.in-Some.text.now → ⊥) None c.in_err-statement.field-0.0
    (λ none. other_text c.args.limits.now c.args.bytes.now c.in-Some.rest.now c.in-Some.text.now c.in-Some.ensures.short c.in-Some.ensures.found (λ value fits same. none value fits.text same))
    c.in_err-statement.ensures.err in
    passed_on (IsFieldFault None) c.from_residual.result c.from_residual.ensures.1 (λ y is. subst (IsFieldFault None) (sym is) fault)

pub returns-then-not-may_stand-clause-err : goal.returns-then-not-may_stand-clause-err
returns-then-not-may_stand-clause-err c =
    other_text c.args.limits.now c.args.bytes.now c.in-Some.rest.now c.in-Some.text.now c.in-Some.ensures.short c.in-Some.ensures.found
    (may_not c.args.limits.now c.in-Some.text.now c.in_ok-statement.statement c.in_ok-statement.ensures.has c.in_ok-statement.ensures.text
    (sym c.may_stand.ensures ∙ c.if-not-may_stand.true))
