use Rattle.std.proofs.Common.{take}
use Rattle.std.specs.Fmt.{HasWritten, IsPlainFormatter}
use Rattle.line_answers.specs.ReportTexts.{told_lines}
use Rattle.line_answers.proofs.report_display.SessionReportDisplay.fmt.Given as goal

abbrev pub invariant-loop-told : goal.invariant-loop-told
invariant-loop-told g l =
    IsPlainFormatter l.initial.f → HasWritten g.W.Write.write_str_gives l.initial.f (told_lines l.self.name (take l.told-index l.told-items)) l.f
