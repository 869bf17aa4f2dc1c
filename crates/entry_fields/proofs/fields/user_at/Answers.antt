use Rattle.std.proofs.Common.{◌∙◌, ap, refl, subst, sym}
use Rattle.acl_names.specs.Limits.{user_limit}
use Rattle.acl_names.specs.Name.{name_fault}
use Rattle.entry_bytes.proofs.Names.{user_short}
use Rattle.entry_fields.proofs.Refused.{faulty, narrower, passed_on}
use Rattle.entry_bytes.specs.Faults.{NoneBegins}
use Rattle.entry_fields.specs.Reading.{IsFieldFault}
use Rattle.entry_bytes.specs.Spelling.{IsUser, short_text}
use Rattle.entry_fields.proofs.fields.user_at.Goals as goal

pub returns-in_default-clause-err : goal.returns-in_default-clause-err
returns-in_default-clause-err c = narrower (λ user. user) IsUser c.args.bytes.now user_short (c.in_default.ensures.none refl)

pub returns-in_err-user-clause-err : goal.returns-in_err-user-clause-err
returns-in_err-user-clause-err c =
    let faulty = faulty (λ user. user) IsUser c.args.bytes.now c.in-Some.text.now c.in-Some.rest.now (name_fault user_limit c.in-Some.text.now) c.in_err-user.field-0.0 user_short
    (λ value fits same. ap (name_fault user_limit) same ∙ fits.within) c.in-Some.ensures.found c.in-Some.ensures.short c.in_err-user.ensures.err in
    let wanted = IsFieldFault (NoneBegins short_text IsUser c.args.bytes.now) in
    passed_on wanted c.from_residual.result c.from_residual.ensures.1 (λ y is. subst wanted (sym is) faulty)
