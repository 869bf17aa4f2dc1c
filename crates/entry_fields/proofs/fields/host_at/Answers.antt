use Rattle.std.proofs.Common.{◌∙◌, ap, refl, subst, sym}
use Rattle.std.specs.Str.{str_to_ascii_lowercase}
use Rattle.acl_names.specs.Limits.{host_limit}
use Rattle.acl_names.specs.Name.{name_fault}
use Rattle.entry_bytes.proofs.Names.{host_short}
use Rattle.entry_fields.proofs.Refused.{faulty, narrower, passed_on, refused, unlike}
use Rattle.entry_bytes.specs.Faults.{NoneBegins}
use Rattle.entry_fields.specs.Reading.{IsFieldFault}
use Rattle.entry_bytes.specs.Spelling.{IsHost, short_text}
use Rattle.entry_fields.proofs.fields.host_at.Goals as goal

pub returns-in_default-clause-err : goal.returns-in_default-clause-err
returns-in_default-clause-err c = narrower (λ host. host) IsHost c.args.bytes.now host_short (c.in_default.ensures.none refl)

pub returns-in_err-host-clause-err : goal.returns-in_err-host-clause-err
returns-in_err-host-clause-err c =
    let faulty = faulty (λ host. host) IsHost c.args.bytes.now c.in-Some.text.now c.in-Some.rest.now (name_fault host_limit c.in-Some.text.now) c.in_err-host.field-0.0 host_short
    (λ value fits same. ap (name_fault host_limit) same ∙ fits.within.faultless) c.in-Some.ensures.found c.in-Some.ensures.short c.in_err-host.ensures.err in
    let wanted = IsFieldFault (NoneBegins short_text IsHost c.args.bytes.now) in
    passed_on wanted c.from_residual.result c.from_residual.ensures.1 (λ y is. subst wanted (sym is) faulty)

pub returns-then-ne-clause-err : goal.returns-then-ne-clause-err
returns-then-ne-clause-err c =
    refused (λ host. host) IsHost c.args.bytes.now c.in-Some.text.now c.in-Some.rest.now host_short c.in-Some.ensures.found c.in-Some.ensures.short
    (λ value fits same. unlike c.as_str.result.now c.in-Some.text.now (sym c.ne.ensures ∙ c.if-ne.true)
    (c.as_str.ensures.value ∙ c.in_ok-host.ensures.ok ∙ ap str_to_ascii_lowercase same ∙ fits.within.lowered ∙ sym same))
