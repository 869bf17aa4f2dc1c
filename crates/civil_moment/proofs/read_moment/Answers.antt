use Rattle.std.proofs.Common.{◌∙◌, sym, arith, rules}
use Rattle.civil_moment.specs.Moment.{moment_of}
use Rattle.civil_moment.proofs.Forms.{form_parts}
use Rattle.civil_moment.proofs.read_moment.Goals as goal

pub returns-then-not-is_written : goal.returns-then-not-is_written
unfolding moment_of
returns-then-not-is_written c = search rules

pub two_digits-requires-clause-within : goal.two_digits-requires-clause-within
two_digits-requires-clause-within c = omega (arith, (form_parts c.as_bytes-text.result.now (sym c.is_written.ensures ∙ c.if-not-is_written.false)).long)

pub two_digits-requires-clause-digits : goal.two_digits-requires-clause-digits
two_digits-requires-clause-digits c = (form_parts c.as_bytes-text.result.now (sym c.is_written.ensures ∙ c.if-not-is_written.false)).first

pub two_digits-requires-2-clause-within : goal.two_digits-requires-2-clause-within
two_digits-requires-2-clause-within c = omega (arith, (form_parts c.as_bytes-text.result.now (sym c.is_written.ensures ∙ c.if-not-is_written.false)).long)

pub two_digits-requires-2-clause-digits : goal.two_digits-requires-2-clause-digits
two_digits-requires-2-clause-digits c = (form_parts c.as_bytes-text.result.now (sym c.is_written.ensures ∙ c.if-not-is_written.false)).second

pub two_digits-requires-3-clause-within : goal.two_digits-requires-3-clause-within
two_digits-requires-3-clause-within c = omega (arith, (form_parts c.as_bytes-text.result.now (sym c.is_written.ensures ∙ c.if-not-is_written.false)).long)

pub two_digits-requires-3-clause-digits : goal.two_digits-requires-3-clause-digits
two_digits-requires-3-clause-digits c = (form_parts c.as_bytes-text.result.now (sym c.is_written.ensures ∙ c.if-not-is_written.false)).third

pub two_digits-requires-4-clause-within : goal.two_digits-requires-4-clause-within
two_digits-requires-4-clause-within c = omega (arith, (form_parts c.as_bytes-text.result.now (sym c.is_written.ensures ∙ c.if-not-is_written.false)).long)

pub two_digits-requires-4-clause-digits : goal.two_digits-requires-4-clause-digits
two_digits-requires-4-clause-digits c = (form_parts c.as_bytes-text.result.now (sym c.is_written.ensures ∙ c.if-not-is_written.false)).fourth

pub two_digits-requires-5-clause-within : goal.two_digits-requires-5-clause-within
two_digits-requires-5-clause-within c = omega (arith, (form_parts c.as_bytes-text.result.now (sym c.is_written.ensures ∙ c.if-not-is_written.false)).long)

pub two_digits-requires-5-clause-digits : goal.two_digits-requires-5-clause-digits
two_digits-requires-5-clause-digits c = (form_parts c.as_bytes-text.result.now (sym c.is_written.ensures ∙ c.if-not-is_written.false)).fifth

pub two_digits-requires-6-clause-within : goal.two_digits-requires-6-clause-within
two_digits-requires-6-clause-within c = omega (arith, (form_parts c.as_bytes-text.result.now (sym c.is_written.ensures ∙ c.if-not-is_written.false)).long)

pub two_digits-requires-6-clause-digits : goal.two_digits-requires-6-clause-digits
two_digits-requires-6-clause-digits c = (form_parts c.as_bytes-text.result.now (sym c.is_written.ensures ∙ c.if-not-is_written.false)).sixth

pub two_digits-requires-7-clause-within : goal.two_digits-requires-7-clause-within
two_digits-requires-7-clause-within c = omega (arith, (form_parts c.as_bytes-text.result.now (sym c.is_written.ensures ∙ c.if-not-is_written.false)).long)

pub two_digits-requires-7-clause-digits : goal.two_digits-requires-7-clause-digits
two_digits-requires-7-clause-digits c = (form_parts c.as_bytes-text.result.now (sym c.is_written.ensures ∙ c.if-not-is_written.false)).seventh

pub returns : goal.returns
unfolding moment_of
returns c = search rules
