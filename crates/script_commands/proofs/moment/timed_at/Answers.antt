use Rattle.std.proofs.Common.{ℕ, List, drop, length, subst, ap, arith}
use Rattle.grant_lex.specs.Token.{PastBlanks}
use Rattle.script_commands.specs.Moments.{IsMomentAt}
use Rattle.script_commands.proofs.Blanks.{moment_cut}
use Rattle.script_commands.proofs.Moments.{end_of, found, left_within, moment_of}
use Rattle.script_commands.proofs.moment.timed_at.Goals as goal

pub token_before-option-requires : goal.token_before-option-requires
token_before-option-requires c =
    left_within c.args.text.now c.args.tokens.now c.args.made c.args.left
    (found c.args.text.now c.args.tokens.now c.args.made c.args.left c.requires.found)

pub past_blanks-requires-clause-within : goal.past_blanks-requires-clause-within
past_blanks-requires-clause-within c =
    let cut = end_of c.args.text.now c.args.tokens.now c.args.left c.token_before-option.result c.requires.cuts c.token_before-option.ensures in
    omega (arith, cut.0, ap length c.as_bytes.ensures.value)

pub returns-clause-moment : goal.returns-clause-moment
returns-clause-moment c =
    let P : List ℕ → Type 0 = λ l. PastBlanks (IsMomentAt c.past_blanks.result) c.token_before-option.result.to (drop c.token_before-option.result.to l) in
    moment_of c.args.text.now c.args.tokens.now c.args.made c.args.left c.token_before-option.result c.past_blanks.result c.requires.reads
    (found c.args.text.now c.args.tokens.now c.args.made c.args.left c.requires.found) c.token_before-option.ensures
    (subst P c.as_bytes.ensures.value c.past_blanks.ensures.moment)

pub returns-clause-cut : goal.returns-clause-cut
returns-clause-cut c =
    let P : List ℕ → Type 0 = λ l. PastBlanks (IsMomentAt c.past_blanks.result) c.token_before-option.result.to (drop c.token_before-option.result.to l) in
    moment_cut c.args.text.now c.utf8.text c.token_before-option.result.to c.past_blanks.result
    (subst P c.as_bytes.ensures.value c.past_blanks.ensures.moment)
    (end_of c.args.text.now c.args.tokens.now c.args.left c.token_before-option.result c.requires.cuts c.token_before-option.ensures)
