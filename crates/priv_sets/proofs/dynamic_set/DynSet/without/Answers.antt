use Rattle.std.proofs.Common.{◌<◌, arith}
use Rattle.std.proofs.lemmas.Nat.{and_le_l}
use Rattle.priv_sets.specs.DynamicSet.{holds_dynamic, grants_dynamic}
use Rattle.priv_sets.proofs.Bits.{clear_bit, within_rest}
use Rattle.priv_sets.proofs.dynamic_set.DynSet.without.Goals as goal

pub returns-clause-held : goal.returns-clause-held
unfolding holds_dynamic grants_dynamic
returns-clause-held c = λ q. let within : c.number.result < 32 = omega arith in rw (← c.number.ensures.same) (clear_bit c.args.self.held c.number.result q (omega arith) within)

pub returns-clause-grantable : goal.returns-clause-grantable
unfolding holds_dynamic grants_dynamic
returns-clause-grantable c = λ q. let within : c.number.result < 32 = omega arith in rw (← c.number.ensures.same) (clear_bit c.args.self.grantable c.number.result q (omega arith) within)

pub invariant_of-result : goal.invariant_of-result
invariant_of-result c = record { below = omega (arith, and_le_l); inside = within_rest c.args.self.grantable c.args.self.held _ c.args.self.inside }
