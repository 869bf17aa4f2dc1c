use Rattle.std.proofs.Common.{◌∙◌, refl, sym}
use Rattle.entry_bytes.specs.Spelling.{IsSchema, short_text}
use Rattle.entry_reading.proofs.Faults.{deeper, handed_on}
use Rattle.entry_reading.proofs.OneByOne.{NextFault, comes_next, no_schema, not_behind}
use Rattle.entry_reading.specs.Faults.{IsAbsent}
use Rattle.entry_reading.proofs.limits.limit_at.Goals as goal

pub returns-in_err-schema-clause-err : goal.returns-in_err-schema-clause-err
returns-in_err-schema-clause-err c =
    handed_on (NextFault c.args.limits.now c.args.bytes.now) c.from_residual-in_err-schema.result c.in_err-schema.field-0.0 c.from_residual-in_err-schema.ensures.1
    (deeper (IsAbsent short_text IsSchema c.in_ok-privileges.behind.now) (NextFault c.args.limits.now c.args.bytes.now) c.in_err-schema.field-0.0
    (no_schema c.args.limits.now c.in_ok-privileges.privileges c.args.bytes.now c.in_ok-privileges.behind.now c.in_ok-privileges.ensures.restricts c.in_ok-privileges.ensures.found)
    c.in_err-schema.ensures.err)

pub returns-then-not-comes_behind-clause-err : goal.returns-then-not-comes_behind-clause-err
returns-then-not-comes_behind-clause-err c = (
  c.in_ok-privileges.behind.now,
  not_behind c.args.limits.now c.in_ok-privileges.privileges c.args.bytes.now c.in_ok-privileges.behind.now c.in_ok-schema.schema c.in_ok-schema.rest.now
      c.in_ok-privileges.ensures.restricts c.in_ok-privileges.ensures.found c.in_ok-schema.ensures.found c.in_ok-schema.ensures.within
      (sym c.comes_behind.ensures ∙ c.if-not-comes_behind.true),
  refl,
)

pub returns-clause-next : goal.returns-clause-next
returns-clause-next c = comes_next c.args.limits.now _ c.in_ok-schema.ensures.within c.requires.order (sym c.comes_behind.ensures ∙ c.if-not-comes_behind.false)
