use Rattle.std.proofs.Common.{◌∙◌, sym, subst}
use Rattle.grant_lex.proofs.Fronts.{IsFront, front_stands, mark_front, name_front, string_front, word_front}
use Rattle.grant_lex.proofs.cut.token_at.Goals as goal
use Rattle.grant_lex.proofs.cut.token_at.Goals.{in-Word, in-Mark, in-Quote+in_ok-quoted_length-in-Quote, in-Backquote+in_ok-quoted_length-in-Backquote}

pub returns-clause-ok : goal.returns-clause-ok
returns-clause-ok c =
    let bytes = c.args.bytes.now in
    let some = c.requires.some in
    let class = sym c.class_of.ensures in
    let front : IsFront c.match-class_of.kind.0 bytes c.match-class_of.kind.1 =
    elim c.match-class_of.branch [
      | in-Word w ↦ subst (λ k. IsFront k.0 bytes k.1) (sym w.kind-is) (word_front bytes _ some (class ∙ w.in-Word.is) w.run_length.ensures)
      | in-Mark w ↦ subst (λ k. IsFront k.0 bytes k.1) (sym w.kind-is) (mark_front bytes some (class ∙ w.in-Mark.is))
      | in-Quote+in_ok-quoted_length-in-Quote w ↦ subst (λ k. IsFront k.0 bytes k.1) (sym w.kind-is) (string_front bytes _ some (class ∙ w.in-Quote.is) w.in_ok-quoted_length-in-Quote.ensures.ok)
      | in-Backquote+in_ok-quoted_length-in-Backquote w ↦ subst (λ k. IsFront k.0 bytes k.1) (sym w.kind-is) (name_front bytes _ some (class ∙ w.in-Backquote.is) w.in_ok-quoted_length-in-Backquote.ensures.ok)
    ] in
    front_stands c.args.from _ bytes _ front
