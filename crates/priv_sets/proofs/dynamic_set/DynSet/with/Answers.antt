use Rattle.std.proofs.Common.{◌<◌, refl, arith}
use Rattle.std.specs.Int.Bits.{and_self}
use Rattle.priv_sets.specs.DynamicSet.{holds_dynamic, grants_dynamic}
use Rattle.priv_sets.proofs.Bits.{set_bit, set_lt, within_union, within_more}
use Rattle.priv_sets.proofs.dynamic_set.DynSet.with.Goals as goal

pub invariant_of-result : goal.invariant_of-result
invariant_of-result c = record { below = set_lt c.args.self.held c.number.result 20 c.number.ensures.below (omega arith) c.args.self.below; inside = within_union c.args.self.grantable c.args.self.held _ _ c.args.self.inside (and_self _) }

pub returns-then-grantable-clause-held : goal.returns-then-grantable-clause-held
unfolding holds_dynamic grants_dynamic
returns-then-grantable-clause-held c = λ q. let within : c.number.result < 32 = omega arith in rw (← c.number.ensures.same) (set_bit c.args.self.held c.number.result q within)

pub returns-then-grantable-clause-grantable : goal.returns-then-grantable-clause-grantable
unfolding holds_dynamic grants_dynamic
returns-then-grantable-clause-grantable c = λ q. let within : c.number.result < 32 = omega arith in rw (c.if-grantable.true, ← c.number.ensures.same) (set_bit c.args.self.grantable c.number.result q within)

pub invariant_of-result-2 : goal.invariant_of-result-2
invariant_of-result-2 c = record { below = set_lt c.args.self.held c.number.result 20 c.number.ensures.below (omega arith) c.args.self.below; inside = within_more c.args.self.grantable c.args.self.held _ c.args.self.inside }

pub returns-clause-held : goal.returns-clause-held
unfolding holds_dynamic grants_dynamic
returns-clause-held c = λ q. let within : c.number.result < 32 = omega arith in rw (← c.number.ensures.same) (set_bit c.args.self.held c.number.result q within)

pub returns-clause-grantable : goal.returns-clause-grantable
unfolding holds_dynamic grants_dynamic
returns-clause-grantable c = λ q. rw c.if-grantable.false refl
