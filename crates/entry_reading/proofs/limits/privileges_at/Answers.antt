use Rattle.std.proofs.Common.{refl, sym, ◌∙◌}
use Rattle.entry_reading.proofs.Restrictions.{no_bits, not_limit, other_bits, unknown_bits}
use Rattle.entry_reading.proofs.limits.privileges_at.Goals as goal

pub returns-in_err-bits-clause-none : goal.returns-in_err-bits-clause-none
returns-in_err-bits-clause-none c = λ _. no_bits c.args.bytes.now (c.in_err-bits.ensures.none refl)

pub returns-in_err-privileges-clause-none : goal.returns-in_err-privileges-clause-none
returns-in_err-privileges-clause-none c =
    λ _. other_bits c.args.bytes.now c.in_ok-bits.rest.now c.in_ok-bits.bits c.in_ok-bits.ensures.fits c.in_ok-bits.ensures.found
    (unknown_bits c.in_ok-bits.bits (λ lt. let some = c.in_err-privileges.ensures.within.1 lt in absurd (cc)))

pub returns-then-not-may_restrict-clause-none : goal.returns-then-not-may_restrict-clause-none
returns-then-not-may_restrict-clause-none c =
    λ _. other_bits c.args.bytes.now c.in_ok-bits.rest.now c.in_ok-bits.bits c.in_ok-bits.ensures.fits c.in_ok-bits.ensures.found
    (not_limit c.in_ok-privileges.privileges c.in_ok-bits.bits c.in_ok-privileges.ensures.value (sym c.may_restrict.ensures ∙ c.if-not-may_restrict.true))
