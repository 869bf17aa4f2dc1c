use Rattle.std.proofs.Common.{◌≡◌, ◌∙◌, rules, sym, subst}
use Rattle.std.specs.Char.{encode_utf8}
use Rattle.priv_items.specs.Escapes.{escaped_behind}
use Rattle.canonical_texts.proofs.Characters.{kept-free, kept-other}
use Rattle.canonical_texts.proofs.quotes.write_kept_character.Goals as goal
use Rattle.canonical_texts.proofs.quotes.write_kept_character.Goals.{else-after-via-then-after+else-is_wildcard, else-after-via-else-after}

pub returns-else-after : goal.returns-else-after
returns-else-after c =
    let kept : escaped_behind c.args.after (encode_utf8 c.args.character) ≡ encode_utf8 c.args.character =
    elim c.else-after.branch [
      | else-after-via-then-after+else-is_wildcard w ↦ kept-other c.args.after c.args.character (sym w.is_wildcard.ensures ∙ w.if-is_wildcard.false)
      | else-after-via-else-after w ↦ subst (λ a. escaped_behind a (encode_utf8 c.args.character) ≡ encode_utf8 c.args.character) (sym w.if-after.false) (kept-free c.args.character)
    ] in
    rw kept (search rules)
