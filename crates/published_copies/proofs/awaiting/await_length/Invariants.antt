use Rattle.std.proofs.Common.{◌≡◌, ◌+◌, ◌-◌, ◌<◌, ◌≤◌}
use Rattle.published_copies.specs.Views.{HasHeardMore, HasJustRead, reads}
use Rattle.published_copies.proofs.awaiting.await_length.Given as goal

abbrev pub invariant-loop-now : goal.invariant-loop-now
invariant-loop-now g l = record {
  more : HasHeardMore l.fn.view l.view;
  newest : HasJustRead l.view l.now;
  counted : reads l.view.heard ≡ reads l.fn.view.heard + l.turn;
  some : 0 < l.turn;
  within : l.turn ≤ l.turns;
}

abbrev pub decreases-loop-now : goal.decreases-loop-now
decreases-loop-now g l = l.turns - l.turn
