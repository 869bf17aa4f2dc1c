use Rattle.std.proofs.Common.{rules}
use Rattle.account_match.proofs.Steps.{reached_behind, reached_both_ends, reached_next, reached_no_percent, reached_no_place}
use Rattle.account_match.specs.Like.{is_like}
use Rattle.account_match.proofs.wildcards.is_like.Goals as goal

pub loop-behind-preserved-in-AnyText : goal.loop-behind-preserved-in-AnyText
loop-behind-preserved-in-AnyText c =
    let so_far = c.loop-behind.invariant in (
      search rules,
      (
        so_far.1.0,
        (
          search rules,
          (
            so_far.1.0,
            reached_behind _ _ _ _ _ _ _ _ c.in-AnyText.ensures so_far.1.1.1.1,
          ),
        ),
      ),
    )

pub loop-behind-preserved-in-Over : goal.loop-behind-preserved-in-Over
loop-behind-preserved-in-Over c =
    let so_far = c.loop-behind.invariant in (
      search rules,
      (
        search rules,
        (
          so_far.1.1.0,
          (
            so_far.1.1.1.0,
            reached_next _ _ _ _ _ _ _ _ _ c.in-Over.ensures so_far.1.1.1.1,
          ),
        ),
      ),
    )

pub returns-in-End : goal.returns-in-End
unfolding is_like
returns-in-End c = reached_both_ends _ _ _ _ _ _ _ c.in-End.ensures c.loop-behind.invariant.1.1.1.1

pub returns-then-not-passed : goal.returns-then-not-passed
unfolding is_like
returns-then-not-passed c = reached_no_percent _ _ _ _ _ _ _ c.if-not-passed.true c.in-Stuck.ensures c.loop-behind.invariant.1.1.1.1

pub returns-in_default : goal.returns-in_default
unfolding is_like
returns-in_default c = reached_no_place _ _ _ _ _ _ _ c.if-not-passed.false c.in_default.ensures c.in-Stuck.ensures c.loop-behind.invariant.1.1.1.1
