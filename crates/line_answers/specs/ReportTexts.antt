-- The text of a report.
use Rattle.std.specs.Prelude.{ℕ, List, [], ◌∷◌, ◌++◌, codes, decimal}
use Rattle.std.specs.List.{flat_map}
use Rattle.line_answers.specs.Texts.{answer_text}
use Rattle.line_answers.specs.declared.report.LineAnswer.{LineAnswer}
use Rattle.line_answers.specs.declared.report.Report.{Report}
use Rattle.line_answers.specs.declared.report.SessionReport.{SessionReport}

-- an answer to a line of the session with this name, as the report tells it
abbrev pub told_line : List ℕ → LineAnswer → List ℕ
told_line name told = name ++ (codes ":" ++ (decimal told.line ++ (codes " " ++ (answer_text told.answer ++ 10 ∷ []))))

-- the answers of the session with this name, a line each
abbrev pub told_lines : List ℕ → List LineAnswer → List ℕ
told_lines name answers = flat_map (told_line name) answers

-- the last line: how many statements the run accepted
abbrev pub history_line : ℕ → List ℕ
history_line history = codes "history " ++ (decimal history ++ 10 ∷ [])

-- a session of a report
abbrev pub session_text : SessionReport → List ℕ
session_text session = told_lines session.name session.answers.items

-- a report
abbrev pub text_of_report : Report → List ℕ
text_of_report report = flat_map session_text report.sessions.items ++ history_line report.history
