use Rattle.std.proofs.Common.{ℕ, ◌+◌, drop, subst, sym, ap, ◌∙◌}
use Rattle.std.proofs.lemmas.List.{take_rest}
use Rattle.std.specs.List.{position_or_len}
use Rattle.grant_lex.specs.Token.{PastBlanks}
use Rattle.script_commands.specs.Moments.{IsMomentAt, is_no_blank}
use Rattle.script_commands.proofs.Blanks.{past}
use Rattle.script_commands.proofs.moment.past_blanks.Goals as goal

pub returns-clause-moment : goal.returns-clause-moment
returns-clause-moment c =
    let count = c.blanks.ensures.count ∙ ap (position_or_len is_no_blank) (take_rest c.args.text.now c.args.from) in
    subst (λ (n : ℕ). PastBlanks (IsMomentAt (c.args.from + n)) c.args.from (drop c.args.from c.args.text.now)) (sym count)
    (past c.args.from (drop c.args.from c.args.text.now))
