-- What the program runs for the form of its words: which bytes, and which text tells the report.
use Rattle.std.specs.Prelude.{ℕ, if◌then◌else◌, List, [], ◌∷◌, codes, Option, None, Some}
use Rattle.std.specs.Str.{bytes_eq}
use Rattle.line_answers.specs.ReportTexts.{text_of_report}
use Rattle.line_answers.specs.declared.report.Report.{Report}
use Rattle.made_scripts.specs.Scripts.{made}
use Rattle.program_words.specs.declared.form.Form.{Form}
use Rattle.program_words.specs.declared.form.Form.TheVariants.{Step, Make}
use Rattle.run_summaries.specs.SummaryTexts.{text_of_summary}

-- the bytes of the script of a form, where they are known: those that are left of the source, or those that are made
abbrev pub bytes_of : Form → Option (List ℕ) → Option (List ℕ)
bytes_of Step left = left
bytes_of (Make number sessions lines) left = Some (made number sessions lines)

-- the same of words that may have no form
abbrev pub script_bytes : Option Form → Option (List ℕ) → Option (List ℕ)
script_bytes None left = None
script_bytes (Some form) left = bytes_of form left

-- what is written of a report
abbrev pub text_of : Form → Report → List ℕ
text_of Step report = text_of_report report
text_of (Make number sessions lines) report = text_of_summary report

abbrev pub told_text : Option Form → Report → List ℕ
told_text None report = []
told_text (Some form) report = text_of form report

-- the word that names a script which is read
abbrev pub script_word : List (List ℕ) → Option (List ℕ)
script_word [] = None
script_word (command ∷ []) = None
script_word (command ∷ script ∷ rest) = if bytes_eq command (codes "step") then Some script else None
