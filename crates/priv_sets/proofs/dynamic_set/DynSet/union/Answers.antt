use Rattle.priv_sets.specs.DynamicSet.{holds_dynamic, grants_dynamic}
use Rattle.priv_sets.proofs.Bits.{or_bits, within_union}
use Rattle.std.proofs.lemmas.Nat.{or_lt}
use Rattle.priv_sets.proofs.dynamic_set.DynSet.union.Goals as goal

pub returns-clause-held : goal.returns-clause-held
unfolding holds_dynamic grants_dynamic
returns-clause-held c = or_bits c.args.self.held c.args.other.held

pub returns-clause-grantable : goal.returns-clause-grantable
unfolding holds_dynamic grants_dynamic
returns-clause-grantable c = or_bits c.args.self.grantable c.args.other.grantable

pub invariant_of-result : goal.invariant_of-result
invariant_of-result c = record { below = or_lt 20 c.args.self.held c.args.other.held c.args.self.below c.args.other.below; inside = within_union c.args.self.grantable c.args.self.held c.args.other.grantable c.args.other.held c.args.self.inside c.args.other.inside }
