-- What a run answered, session by session.
use Rattle.std.specs.Prelude.{ℕ, ◌+◌, ◌==◌, if◌then◌else◌, List, [], ◌∷◌, map}
use Rattle.line_answers.specs.declared.report.LineAnswer.{LineAnswer}
use Rattle.line_answers.specs.declared.report.SessionReport.{SessionReport}

-- the answers of one session, of those that stand beside the places of their sessions
abbrev pub answers_of_session : ℕ → List (ℕ × LineAnswer) → List LineAnswer
answers_of_session session [] = []
answers_of_session session (answer ∷ answers) =
    if answer.0 == session then answer.1 ∷ answers_of_session session answers else answers_of_session session answers

-- the name of each session and its answers, where the first of these names is that of the session with this number
abbrev pub sessions_from : ℕ → List (List ℕ) → List (ℕ × LineAnswer) → List (List ℕ × List LineAnswer)
sessions_from session [] answers = []
sessions_from session (name ∷ names) answers = (name, answers_of_session session answers) ∷ sessions_from (session + 1) names answers

-- the name of each session of a report and its answers
abbrev pub answers_by_session : List SessionReport → List (List ℕ × List LineAnswer)
answers_by_session sessions = map (λ session. (session.name, session.answers.items)) sessions
