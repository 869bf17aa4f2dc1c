use Rattle.std.proofs.Common.{◌≡◌, [], map}
use Rattle.line_answers.specs.Reports.{answers_by_session}
use Rattle.line_answers.proofs.report.unanswered.Given as goal

abbrev pub invariant-loop-name : goal.invariant-loop-name
invariant-loop-name l = answers_by_session l.sessions.items ≡ map (λ name. (name, [])) l.yielded
