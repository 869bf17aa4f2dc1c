-- What a run of the program is: a script, a legal run of its lines, and the report that tells its answers.
use Rattle.std.specs.Prelude.{◌≡◌, ℕ, List}
use Rattle.acl_program.specs.Scripts.{IsScript}
use Rattle.line_answers.specs.Reports.{answers_by_session, sessions_from}
use Rattle.line_answers.specs.declared.report.LineAnswer.{LineAnswer}
use Rattle.line_answers.specs.declared.report.Report.{Report}
use Rattle.script_lines.specs.declared.lines.Line.{Line}
use Rattle.script_read.specs.declared.command.Command.{Command}
use Rattle.script_run.specs.Told.{IsRun}

-- the report tells the answers of a legal run of these lines, session by session
pub record IsReport (names : List (List ℕ)) (lines : List (Line Command)) (report : Report) : Type 0 where
  pub answers : List (ℕ × LineAnswer)
  pub run : IsRun lines answers report.history
  pub sessions : answers_by_session report.sessions.items ≡ sessions_from 0 names answers

-- the bytes are a script, and the report tells the answers of a legal run of its lines
pub record IsRehearsal (bytes : List ℕ) (report : Report) : Type 0 where
  pub names : List (List ℕ)
  pub lines : List (Line Command)
  pub script : IsScript bytes names lines
  pub report_is : IsReport names lines report
