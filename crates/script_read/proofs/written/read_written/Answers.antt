use Rattle.std.proofs.Common.{List, subst, sym}
use Rattle.acl_grammar.specs.Spelling.{Refused, spells}
use Rattle.grant_parse.proofs.Disjoint.{rules_differ}
use Rattle.grant_parse.specs.Statements.{SpellsStatement}
use Rattle.grant_words.specs.Syntax.{grammar_of}
use Rattle.grant_words.specs.declared.lexeme.Lexeme.{Lexeme}
use Rattle.script_commands.specs.Commands.{command}
use Rattle.script_read.specs.Written.{SpellsWritten}
use Rattle.script_read.proofs.Refused.{written_refused}
use Rattle.script_read.proofs.written.read_written.Goals as goal

pub read_either-requires : goal.read_either-requires
read_either-requires c = rules_differ

pub returns-clause-err : goal.returns-clause-err
returns-clause-err c =
    let ts = c.args.lexemes.now in
    let first : Refused (spells (grammar_of command)) ts c.in-Err-At.rest.now = rw c.in-Err-At.field-0-is at c.in-Err-At.ensures.refused in
    let second : Refused SpellsStatement ts c.in-Err-At-read_either.rest.now =
    rw c.in-Err-At-read_either.field-0-is at c.in-Err-At-read_either.ensures.refused in
    let P : List Lexeme → Type 0 = λ bad. Refused SpellsWritten ts bad in
    subst P (sym c.shorter.ensures) (written_refused ts c.in-Err-At.rest.now c.in-Err-At-read_either.rest.now first second)
