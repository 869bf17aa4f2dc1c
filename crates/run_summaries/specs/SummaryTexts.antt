-- The numbers of a run, and how they are written.
use Rattle.std.specs.Prelude.{ℕ, List, ◌++◌, codes, decimal}
use Rattle.line_answers.specs.declared.report.Report.{Report}
use Rattle.run_summaries.specs.Counts.{told_count}
use Rattle.run_summaries.specs.declared.count.Sort.TheVariants.{Any, Done, Refused, Allowed, Denied}
use Rattle.run_summaries.specs.declared.summary.Summary.{Summary}

abbrev pub summary_of : Report → Summary
summary_of report = record {
  lines = told_count Any report;
  history = report.history;
  done = told_count Done report;
  refused = told_count Refused report;
  allowed = told_count Allowed report;
  denied = told_count Denied report;
}

-- a line for each number, under its name
abbrev pub summary_text : Summary → List ℕ
summary_text summary =
    codes "lines " ++ (decimal summary.lines ++
    (codes "\nhistory " ++ (decimal summary.history ++
    (codes "\ndone " ++ (decimal summary.done ++
    (codes "\nrefused " ++ (decimal summary.refused ++
    (codes "\nallowed " ++ (decimal summary.allowed ++
    (codes "\ndenied " ++ (decimal summary.denied ++ codes "\nrecomputed 0\n")))))))))))

-- the report in numbers
abbrev pub text_of_summary : Report → List ℕ
text_of_summary report = summary_text (summary_of report)
