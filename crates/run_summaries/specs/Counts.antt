-- How many answers of a sort a report has.
use Rattle.std.specs.Prelude.{ℕ, Bool, true, false, List, count_by}
use Rattle.std.specs.List.{flat_map}
use Rattle.line_answers.specs.declared.answer.Answer.{Answer}
use Rattle.line_answers.specs.declared.answer.Answer.TheVariants as told
use Rattle.line_answers.specs.declared.report.LineAnswer.{LineAnswer}
use Rattle.line_answers.specs.declared.report.Report.{Report}
use Rattle.run_summaries.specs.declared.count.Sort.{Sort}
use Rattle.run_summaries.specs.declared.count.Sort.TheVariants.{Any, Done, Refused, Allowed, Denied}

abbrev pub is_done : Answer → Bool
is_done (told.Done position) = true
is_done _ = false

abbrev pub is_refused : Answer → Bool
is_refused (told.Refused refusal) = true
is_refused _ = false

abbrev pub is_allowed : Answer → Bool
is_allowed told.Allowed = true
is_allowed _ = false

abbrev pub is_denied : Answer → Bool
is_denied (told.Denied denial) = true
is_denied _ = false

abbrev pub is_of_sort : Sort → Answer → Bool
is_of_sort Any answer = true
is_of_sort Done answer = is_done answer
is_of_sort Refused answer = is_refused answer
is_of_sort Allowed answer = is_allowed answer
is_of_sort Denied answer = is_denied answer

-- the answers of all sessions
abbrev pub told_answers : Report → List LineAnswer
told_answers report = flat_map (λ session. session.answers.items) report.sessions.items

abbrev pub told_count : Sort → Report → ℕ
told_count sort report = count_by (λ told. is_of_sort sort told.answer) (told_answers report)
