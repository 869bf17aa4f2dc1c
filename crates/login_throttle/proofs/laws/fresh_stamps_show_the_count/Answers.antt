use Rattle.login_throttle.proofs.Counting.{cleared_shows, fresh_shows}
use Rattle.login_throttle.proofs.laws.fresh_stamps_show_the_count.Goals as goal

pub returns-clause-first : goal.returns-clause-first
returns-clause-first c = fresh_shows

pub returns-clause-cleared : goal.returns-clause-cleared
returns-clause-cleared c = cleared_shows
