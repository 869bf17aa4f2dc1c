use Rattle.std.proofs.Common.{IfSome, subst, ◌∙◌, map, sym, inl, inr}
use Rattle.std.proofs.lemmas.List.Folds.{list_all-map}
use Rattle.std.specs.Prelude.{string_bytes}
use Rattle.program_words.specs.Forms.{IsWithin, is_operand}
use Rattle.program_words.proofs.Numbers.{form_within}
use Rattle.program_words.proofs.Outcomes.{no_operands}
use Rattle.program_words.proofs.Answered.{form_refused, form_taken, is_free_app, is_simple_app}
use Rattle.program_words.proofs.read.read_form.Goals as goal

pub returns-then-not-are_operands-clause-form : goal.returns-then-not-are_operands-clause-form
returns-then-not-are_operands-clause-form c =
    sym (no_operands (map string_bytes c.args.words.now)
    (list_all-map is_operand string_bytes c.args.words.now ∙ (sym c.are_operands.ensures ∙ c.if-not-are_operands.true)))

pub returns-in-Ok-clause-form : goal.returns-in-Ok-clause-form
returns-in-Ok-clause-form c =
    let same = c.in_ok-parser.ensures in
    c.form_in.ensures ∙ form_taken _ (map string_bytes c.args.words.now) _ same
    (list_all-map is_operand string_bytes c.args.words.now ∙ (sym c.are_operands.ensures ∙ c.if-not-are_operands.false))
    (c.in-Ok.ensures.kinds (is_free_app _ same))
    (c.in-Ok.ensures.matches (is_simple_app _ same)).1

pub returns-clause-form : goal.returns-clause-form
returns-clause-form c =
    let same = c.in_ok-parser.ensures in
    elim (c.in-Err.ensures.kinds (is_free_app _ same)) [
      | inl memory ↦ absurd (c.in_default.not-OutOfMemory (c.kind.ensures ∙ memory))
      | inr among ↦ sym (form_refused _ (map string_bytes c.args.words.now) _ same
          (list_all-map is_operand string_bytes c.args.words.now ∙ (sym c.are_operands.ensures ∙ c.if-not-are_operands.false)) among)
    ]

pub returns-in-Ok-clause-within : goal.returns-in-Ok-clause-within
returns-in-Ok-clause-within c =
    subst (λ f. IfSome f IsWithin) (sym (returns-in-Ok-clause-form c)) (form_within (map string_bytes c.args.words.now))
