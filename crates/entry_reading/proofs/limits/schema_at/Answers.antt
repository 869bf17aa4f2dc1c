use Rattle.std.proofs.Common.{◌∙◌, ap, refl, subst, sym}
use Rattle.acl_names.specs.Limits.{ident_limit}
use Rattle.acl_names.specs.Name.{ident_fault}
use Rattle.entry_bytes.proofs.Names.{schema_short}
use Rattle.entry_bytes.specs.Faults.{NoneBegins}
use Rattle.entry_bytes.specs.Spelling.{IsSchema, short_text}
use Rattle.entry_fields.proofs.Refused.{faulty, narrower, passed_on}
use Rattle.entry_fields.specs.Reading.{IsFieldFault}
use Rattle.entry_reading.proofs.limits.schema_at.Goals as goal

pub returns-in_default-clause-err : goal.returns-in_default-clause-err
returns-in_default-clause-err c = narrower (λ schema. schema) IsSchema c.args.bytes.now schema_short (c.in_default.ensures.none refl)

pub returns-in_err-schema-clause-err : goal.returns-in_err-schema-clause-err
returns-in_err-schema-clause-err c =
    let faulty = faulty (λ schema. schema) IsSchema c.args.bytes.now c.in-Some.text.now c.in-Some.rest.now (ident_fault ident_limit c.in-Some.text.now) c.in_err-schema.field-0.0 schema_short
    (λ value fits same. ap (ident_fault ident_limit) same ∙ fits.within) c.in-Some.ensures.found c.in-Some.ensures.short c.in_err-schema.ensures.err in
    let wanted = IsFieldFault (NoneBegins short_text IsSchema c.args.bytes.now) in
    passed_on wanted c.from_residual.result c.from_residual.ensures.1 (λ y is. subst wanted (sym is) faulty)
