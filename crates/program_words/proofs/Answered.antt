-- From the parser's answers to the forms.
use Rattle.std.proofs.Common.{◌≡◌, ◌∙◌, true, List, [], Option, None, ap, sym}
use Rattle.std.specs.List.{list_all}
use Rattle.clap.specs.Faults.{fault_of, is_simple_and_free}
use Rattle.clap.specs.Kinds.{IsAmong}
use Rattle.clap.specs.Simple.{App, is_simple, subcommand_of}
use Rattle.clap.specs.Walk.{Row, Text}
use Rattle.clap.specs.declared.error.kind.ErrorKind.{ErrorKind}
use Rattle.clap.proofs.OnLiterals.{clap_on_literals}
use Rattle.program_words.proofs.Outcomes.{outcome, refused, taken}
use Rattle.program_words.specs.Forms.{form_of, is_operand}
use Rattle.program_words.specs.Parser.{form_matched, program_app}

pub is_simple_app : (app : App) → app ≡ program_app → is_simple app ≡ true
unfolding clap_on_literals
is_simple_app app same = ap is_simple same

pub is_free_app : (app : App) → app ≡ program_app → is_simple_and_free app ≡ true
unfolding clap_on_literals
is_free_app app same = ap is_simple_and_free same

-- where the parser finds no fault, its matches are those of the form
pub form_taken : (app : App) (words : List Text) (rows : Option (Text × List Row)) → app ≡ program_app
    → list_all is_operand words ≡ true → fault_of app words ≡ [] → rows ≡ subcommand_of app words → form_matched rows ≡ form_of words
form_taken app words rows same ops none met =
    elim (outcome words ops) [
      | taken fits is ↦ ap form_matched (met ∙ ap (λ a. subcommand_of a words) same) ∙ is
      | refused fails is ↦ absurd (fails (sym (ap (λ a. fault_of a words) same) ∙ none))
    ]

among_none : (kind : ErrorKind) (app : App) (words : List Text) → fault_of app words ≡ [] → IsAmong kind (fault_of app words) → ⊥
among_none kind app words none among = rw none at among

-- where it finds one, the words have no form
pub form_refused : (app : App) (words : List Text) (kind : ErrorKind) → app ≡ program_app → list_all is_operand words ≡ true
    → IsAmong kind (fault_of app words) → form_of words ≡ None
form_refused app words kind same ops among =
    elim (outcome words ops) [
      | taken fits is ↦ absurd (among_none kind app words (ap (λ a. fault_of a words) same ∙ fits) among)
      | refused fails is ↦ is
    ]
