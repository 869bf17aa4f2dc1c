use Rattle.legal_runs.proofs.Known.{known_onward, known_prefix, known_within, read_within}
use Rattle.legal_runs.proofs.Working.{published_within}
use Rattle.legal_runs.proofs.laws.sessions_know_fronts.Goals as goal

pub returns : goal.returns
returns c = record {
  published = λ on session events run. (known_within on session events run, published_within on events);
  front = known_prefix;
  onward = known_onward;
  read = read_within;
}
