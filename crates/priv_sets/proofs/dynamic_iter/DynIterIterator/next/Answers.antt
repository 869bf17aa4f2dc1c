use Rattle.std.proofs.Common.{◌<◌, refl, rules, length}
use Rattle.priv_sets.specs.DynamicSet.{dynamic_members}
use Rattle.priv_sets.proofs.Members.{none_left_dynamic, taken_dynamic, fewer_left}
use Rattle.priv_sets.proofs.dynamic_iter.DynIterIterator.next.Goals as goal

pub returns-in_default-clause-steps : goal.returns-in_default-clause-steps
returns-in_default-clause-steps c = let none = none_left_dynamic c.args.self.now.rest (c.in_default.ensures.none.0 refl) in (none, none)

pub returns-clause-steps : goal.returns-clause-steps
returns-clause-steps c =
    taken_dynamic c.args.self.now.rest c.without-self.result c.in-Some.first c.in-Some.ensures.below c.in-Some.ensures.held c.in-Some.ensures.first c.without-self.ensures.held

pub returns-clause-goes : goal.returns-clause-goes
returns-clause-goes c =
    let all = taken_dynamic c.args.self.now.rest c.without-self.result c.in-Some.first c.in-Some.ensures.below c.in-Some.ensures.held c.in-Some.ensures.first c.without-self.ensures.held in
    let fewer : length (dynamic_members c.without-self.result) < length (dynamic_members c.args.self.now.rest) = fewer_left _ _ c.in-Some.first all in
    search rules
