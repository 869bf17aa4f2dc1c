-- Each clause is a lemma on stamps and counts.
use Rattle.login_throttle.proofs.Histories.{answers_by_count, attempts_left, block_began, history_grows, is_fresh, some_stamp, stamp_shows}
use Rattle.login_throttle.proofs.laws.stamps_count_failures.Goals as goal

pub returns-clause-stamp : goal.returns-clause-stamp
returns-clause-stamp c = some_stamp

pub returns-clause-answers : goal.returns-clause-answers
returns-clause-answers c = answers_by_count

pub returns-clause-shows : goal.returns-clause-shows
returns-clause-shows c = stamp_shows

pub returns-clause-untracked : goal.returns-clause-untracked
returns-clause-untracked c = is_fresh

pub returns-clause-moment : goal.returns-clause-moment
returns-clause-moment c = block_began

pub returns-clause-failures : goal.returns-clause-failures
returns-clause-failures c = attempts_left

pub returns-clause-history : goal.returns-clause-history
returns-clause-history c = history_grows
