use Rattle.std.specs.Vec.Iter.{into_iter_items}
use Rattle.line_answers.proofs.Filing.{IsUnderWay}
use Rattle.line_answers.specs.Reports.{sessions_from}
use Rattle.line_answers.proofs.report.report_of.Given as goal

abbrev pub invariant-loop-place : goal.invariant-loop-place
invariant-loop-place l =
    IsUnderWay l.sessions.items (into_iter_items l.place-iterator) (sessions_from 0 l.fn.names l.fn.answers.items)
