-- Tokens that neither a command nor a statement is spelled by are refused at the further of two refusals.
use Rattle.std.proofs.Common.{List, [], ◌∷◌, length, nat_le, cond, Err, inl, inr, refl}
use Rattle.acl_grammar.proofs.Whole.{either_right}
use Rattle.acl_grammar.specs.Grammar.{Grammar}
use Rattle.acl_grammar.specs.Grammar.Grammar.{to}
use Rattle.acl_grammar.specs.Spelling.{IsStuck, Refused, spells}
use Rattle.grant_parse.specs.Statements.{SpellsStatement, statement_grammar}
use Rattle.grant_words.specs.Syntax.{grammar_of}
use Rattle.grant_words.specs.declared.lexeme.Lexeme.{Lexeme}
use Rattle.script_commands.specs.Commands.{command}
use Rattle.script_read.specs.Written.{SpellsWritten}

stuck_as : {T A B : Type 0} (g : Grammar T A) (f : A → B) (front bad : List T) → IsStuck (spells g) front bad → IsStuck (spells (to f g)) front bad
stuck_as g f front [] stuck = λ v k. stuck k.0 k.1
stuck_as g f front (t ∷ bad) stuck = λ v. stuck (record { more = v.more; value = v.spelled.0; spelled = v.spelled.1 })

refused_as : {T A B : Type 0} (g : Grammar T A) (f : A → B) (ts bad : List T) → Refused (spells g) ts bad → Refused (spells (to f g)) ts bad
refused_as g f ts bad h = record {
  front = h.front;
  whole = h.whole;
  viable = record { more = h.viable.more; value = f h.viable.value; spelled = (h.viable.value, h.viable.spelled, refl) };
  stuck = stuck_as g f h.front bad h.stuck;
}

pub written_refused : (ts bad other : List Lexeme) → Refused (spells (grammar_of command)) ts bad → Refused SpellsStatement ts other
    → Refused SpellsWritten ts (cond (nat_le (length bad) (length other)) bad other)
written_refused ts bad other h k =
    either_right (spells (to inl (grammar_of command))) (spells (to inr statement_grammar)) ts (Err bad) (Err other)
    (refused_as (grammar_of command) inl ts bad h) (refused_as statement_grammar inr ts other k)
