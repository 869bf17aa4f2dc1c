use Rattle.login_throttle.proofs.Counting.{shown_after, shown_answer}
use Rattle.login_throttle.proofs.tracking.attempt.Goals as goal
use Rattle.login_throttle.specs.Steps.{stamp_after}
use Rattle.login_throttle.specs.Tracking.{answer_of, stamp_at}
use Rattle.std.proofs.Common.{◌≡◌, ◌∙◌, rules}

pub returns-clause-by_count : goal.returns-clause-by_count
returns-clause-by_count c past shown =
    let answered : c.step.result ≡ answer_of c.args.policy c.args.stamp.now.blocked_at c.args.moment c.args.right = search rules in
    answered ∙ shown_answer c.args.policy past c.args.stamp.now c.args.moment c.args.right shown

pub returns-clause-count : goal.returns-clause-count
returns-clause-count c tracked past shown later order =
    let answered : c.step.result ≡ answer_of c.args.policy c.args.stamp.now.blocked_at c.args.moment c.args.right = search rules in
    let made : c.step.new.stamp ≡ stamp_after c.args.policy (stamp_at c.args.policy c.args.stamp.now c.args.moment) c.args.moment c.step.result =
    search rules in
    shown_after c.args.policy past c.args.stamp.now c.args.moment later c.args.right c.step.result c.step.new.stamp tracked order shown
    answered made

-- the clauses `count`, `untracked`, `moment` and `failures` together
pub returns-clause-left : goal.returns-clause-left
returns-clause-left c = (returns-clause-count c, search rules, search rules, search rules)
