use Rattle.std.proofs.Common.{◌∙◌, ap, subst, sym, List}
use Rattle.std.specs.Prelude.{All}
use Rattle.std.specs.Str.{IsCharBoundary}
use Rattle.acl_grammar.specs.Reader.{read}
use Rattle.grant_lex.proofs.Answered.{cuts_same}
use Rattle.grant_lex.specs.Token.{Reads}
use Rattle.grant_lex.specs.declared.sorts.Token.{Token}
use Rattle.grant_words.specs.Lexemes.{lexemes_of}
use Rattle.grant_words.specs.Syntax.{grammar_of}
use Rattle.grant_words.specs.declared.lexeme.Lexeme.{Lexeme}
use Rattle.script_commands.specs.Commands.{connect}
use Rattle.script_commands.specs.Moments.{option_of}
use Rattle.script_commands.proofs.Ends.{ends_cut, lexemes_front}
use Rattle.script_commands.proofs.Moments.{none_found}
use Rattle.script_commands.proofs.moment.timed_in.Goals as goal

pub timed_at-requires-clause-found : goal.timed_at-requires-clause-found
timed_at-requires-clause-found c =
    let lexemes = c.as_slice-2.ensures.value ∙ c.in_ok-lexemes.ensures ∙ ap (lexemes_of c.args.front.now) c.as_slice.ensures
    ∙ lexemes_front c.args.text.now c.args.front.now c.requires.front.rest c.in-Ok.tokens c.requires.front.whole c.in-Ok.ensures.each in
    ap (λ (ts : List Token). option_of (read (grammar_of connect) (lexemes_of c.args.text.now ts))) c.as_slice-in-Ok-Some.ensures
    ∙ ap (λ (ts : List Lexeme). option_of (read (grammar_of connect) ts)) (sym lexemes)
    ∙ sym c.in-Ok-Some.ensures ∙ c.in-Ok-Some.field-0-is

pub timed_at-requires-clause-cuts : goal.timed_at-requires-clause-cuts
timed_at-requires-clause-cuts c =
    subst (All (λ (t : Token). IsCharBoundary c.args.text.now t.to)) (sym c.as_slice-in-Ok-Some.ensures)
    (ends_cut c.args.text.now c.args.front.now c.requires.front.rest c.in-Ok.tokens c.requires.front.whole c.utf8.text c.utf8.front c.in-Ok.ensures.each)

pub returns-in-Ok-None-clause-none : goal.returns-in-Ok-None-clause-none
returns-in-Ok-None-clause-none c = λ h made place moment.
    let lexemes = c.as_slice-2.ensures.value ∙ c.in_ok-lexemes.ensures ∙ ap (lexemes_of c.args.front.now) c.as_slice.ensures
    ∙ lexemes_front c.args.text.now c.args.front.now c.requires.front.rest c.in-Ok.tokens c.requires.front.whole c.in-Ok.ensures.each in
    let same = cuts_same c.args.front.now c.requires.front.tokens c.in-Ok.tokens c.requires.front.cut c.in-Ok.ensures.found in
    let P : List Token → Type 0 = λ ts. Reads 0 c.args.text.now ts c.requires.front.end in
    none_found c.args.text.now c.in-Ok.tokens c.requires.front.end (subst P same c.requires.front.reads)
    (ap (λ (ts : List Lexeme). option_of (read (grammar_of connect) ts)) (sym lexemes) ∙ sym c.in-Ok-None.ensures ∙ c.in-Ok-None.field-0-is)
    made place moment
