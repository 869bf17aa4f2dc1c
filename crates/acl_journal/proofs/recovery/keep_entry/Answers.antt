use Rattle.std.proofs.Common.{refl}
use Rattle.acl_journal.proofs.Taking.{none_accepted}
use Rattle.acl_journal.proofs.recovery.keep_entry.Goals as goal

pub returns-in_ok-push-clause-taken : goal.returns-in_ok-push-clause-taken
returns-in_ok-push-clause-taken g c = λ is. record {
  entry = c.args.entry;
  written = c.requires;
  bytes = refl;
  accepted = c.in_ok-is_accepted.ensures.accepted is;
  state = c.in_ok-is_accepted.ensures.after is;
  list = c.in_ok-push.ensures.ok;
}

pub returns-else-is_accepted-clause-bad : goal.returns-else-is_accepted-clause-bad
returns-else-is_accepted-clause-bad g c = λ is. none_accepted c.args.entry (g.R.Replay.state c.args.replay.now) c.requires (c.in_ok-is_accepted.ensures.refused is)
