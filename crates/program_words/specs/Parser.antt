-- What the parser of command lines is told of the forms, and what is read from its matches.
use Rattle.std.specs.Prelude.{ℕ, true, if◌then◌else◌, List, [], codes, Option, None, Some, option_and_then}
use Rattle.std.specs.Str.{bytes_eq}
use Rattle.clap.specs.Simple.{App, Shape, new_app, new_rule, new_shape, with_rule, with_subcommand}
use Rattle.clap.specs.Walk.{Row, Rule, Text, first_of}
use Rattle.program_words.specs.Forms.{make_of, number_between}
use Rattle.program_words.specs.declared.form.Form.{Form}
use Rattle.program_words.specs.declared.form.Form.TheVariants.{Step}

-- an operand that may not be left out
abbrev pub operand_rule : Text → Rule
operand_rule id = record (new_rule id) { required = true }

-- `step SCRIPT JOURNAL`
abbrev pub step_app : App
step_app = with_rule (with_rule (new_app (codes "step")) (operand_rule (codes "SCRIPT"))) (operand_rule (codes "JOURNAL"))

-- `make NUMBER SESSIONS LINES`
abbrev pub make_app : App
make_app =
    with_rule (with_rule (with_rule (new_app (codes "make")) (operand_rule (codes "NUMBER"))) (operand_rule (codes "SESSIONS")))
    (operand_rule (codes "LINES"))

-- a command that reads no program's name, has no help and wants a subcommand
abbrev pub bare_shape : Shape
bare_shape = record (new_shape (codes "acl")) {
  no_binary_name = true;
  disable_help_flag = true;
  disable_help_subcommand = true;
  subcommand_required = true;
}

abbrev pub bare_app : App
bare_app = record { top = bare_shape; subs = [] }

abbrev pub program_app : App
program_app = with_subcommand (with_subcommand bare_app step_app.top) make_app.top

-- the number that an operand writes, if it is given and lies between these two
abbrev pub number_given : ℕ → ℕ → Text → List Row → Option ℕ
number_given least most id rows = option_and_then (number_between least most) (first_of id rows)

-- `make` with the values of its three operands
abbrev pub make_given : List Row → Option Form
make_given rows =
    make_of (number_given 0 18446744073709551615 (codes "NUMBER") rows) (number_given 1 64 (codes "SESSIONS") rows)
    (number_given 1 199936 (codes "LINES") rows)

-- the form of a subcommand with these matches
abbrev pub form_met : Text × List Row → Option Form
form_met met = if bytes_eq met.0 (codes "step") then Some Step else make_given met.1

abbrev pub form_matched : Option (Text × List Row) → Option Form
form_matched None = None
form_matched (Some met) = form_met met
