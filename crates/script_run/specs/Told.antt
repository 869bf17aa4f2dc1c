-- What a run of lines tells.
use Rattle.std.specs.Prelude.{◌≡◌, ℕ, List, [], ◌∷◌, ◌++◌, length, map, Some}
use Rattle.legal_runs.specs.Commands.{Command}
use Rattle.legal_runs.specs.Commands.Answer.{NoMemory}
use Rattle.legal_runs.specs.Core.{IsRun as IsRunOfEvents, history_of}
use Rattle.line_answers.specs.declared.answer.Answer.{Answer as ToldAnswer}
use Rattle.line_answers.specs.declared.report.LineAnswer.{LineAnswer}
use Rattle.script_lines.specs.declared.lines.Line.{Line}
use Rattle.script_read.specs.declared.command.Command.{Command as Written}
use Rattle.serial_runs.specs.Serial.{Step, events_of, session_by}
use Rattle.serial_runs.specs.Serial.Doing.{Looks}
use Rattle.session_rules.specs.Answers.{told_answer}
use Rattle.session_rules.specs.Setting.{serial_setting}
use Rattle.script_run.specs.Calls.{command_of}
use Rattle.script_run.specs.declared.seat.Seat.{Seat}

-- a line that asks this: its session, its number, and what it asks
pub record Asked : Type 0 where
  pub session : ℕ
  pub line : ℕ
  pub command : Command

abbrev pub asked_by : Line Written → Asked
asked_by line = record { session = line.session; line = line.number; command = command_of line.command }

-- what these lines were asked, in the order of the script
abbrev pub asked : List Step → List Asked
asked [] = []
asked (step ∷ steps) = asked steps ++ record { session = step.session; line = step.line; command = step.command } ∷ []

-- what is told of a line, beside the place of its session: its answer, and what the session had read and seen after it; a line
-- that found no memory has done nothing
pub record IsTold (steps : List Step) (step : Step) (told : ℕ × LineAnswer) : Type 0 where
  pub session_is : told.0 ≡ step.session
  pub line_is : told.1.line ≡ step.line
  pub answer_is : told_answer step.command step.answer ≡ Some told.1.answer
  pub global_is : told.1.points.global ≡ (session_by serial_setting step.session (step ∷ steps)).global
  pub schema_is : told.1.points.schema ≡ (session_by serial_setting step.session (step ∷ steps)).schema
  pub now_is : told.1.now ≡ (session_by serial_setting step.session (step ∷ steps)).now
  pub quiet : step.answer ≡ NoMemory → step.doing ≡ Looks 0

-- what is told of these lines, in the order of the script
abbrev pub AreTold : List Step → List (ℕ × LineAnswer) → Type 0
AreTold [] answers = answers ≡ []
AreTold (step ∷ steps) answers =
    (before : List (ℕ × LineAnswer)) × (told : ℕ × LineAnswer) × (answers ≡ before ++ told ∷ []) × IsTold steps step told × AreTold steps before

-- these answers are those of a run of the lines, one after the other, which accepted so many statements
pub record IsRun (lines : List (Line Written)) (answers : List (ℕ × LineAnswer)) (count : ℕ) : Type 0 where
  pub steps : List Step
  pub asked_is : asked steps ≡ map asked_by lines
  pub are_told : AreTold steps answers
  pub is_run : IsRunOfEvents serial_setting (events_of serial_setting steps)
  pub count_is : length (history_of serial_setting (events_of serial_setting steps)) ≡ count

-- what is told of a line, by what is stored of its session after it
abbrev pub told_by : ℕ → ℕ → ToldAnswer → Seat → ℕ × LineAnswer
told_by session line answer seat = (session, record { line = line; answer = answer; points = seat.points; now = seat.seen })
