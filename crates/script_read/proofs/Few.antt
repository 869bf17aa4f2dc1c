-- A short text names few columns.
use Rattle.std.proofs.Common.{◌≡◌, ◌⊎◌, ◌<◌, ◌≤◌, ◌^◌, ℕ, List, length, inl, inr, refl, sym, ap, subst, ◌∙◌, arith}
use Rattle.std.proofs.lemmas.List.{length-map}
use Rattle.acl_grammar.specs.Spelling.{spells}
use Rattle.acl_stmt.specs.declared.statement.Statement.{Statement}
use Rattle.grant_lex.specs.Token.{IsCut}
use Rattle.grant_lex.specs.declared.sorts.Token.{Token}
use Rattle.grant_parse.proofs.Kept.{statement_few}
use Rattle.grant_parse.specs.Statements.{SpellsStatement}
use Rattle.grant_parse.proofs.Few.{tokens_are_few}
use Rattle.grant_parse.specs.Texts.{IsSpelled}
use Rattle.grant_words.specs.Lexemes.{lexeme_of, lexemes_of}
use Rattle.grant_words.specs.Syntax.{grammar_of}
use Rattle.grant_words.specs.declared.lexeme.Lexeme.{Lexeme}
use Rattle.priv_items.specs.Naming.{column_count, items_in}
use Rattle.privilege_statements.proofs.Columns.{request_has}
use Rattle.privilege_statements.specs.declared.statement.RawStatement.{RawStatement}
use Rattle.script_commands.specs.Commands.{awaited, command, grants_of, session_command}
use Rattle.script_commands.specs.declared.command.RawCommand.{RawCommand}
use Rattle.script_read.specs.Written.{SpellsWritten, command_columns, written_columns}

none_named : (n : ℕ) (w v : RawCommand) → w ≡ v → command_columns v ≡ 0 → command_columns w ≤ n
none_named n w v e none = let same : command_columns w ≡ 0 = ap command_columns e ∙ none in omega arith

grants_few : (n : ℕ) (ts : List Lexeme) (w : RawCommand) → spells (grammar_of grants_of) ts w → command_columns w ≤ n
unfolding grants_of
grants_few n ts w (inl (t, us, h, cut, (v, k, e))) = none_named n w _ e refl
grants_few n ts w (inr (nothing, e)) = none_named n w _ e refl

session_few : (ts : List Lexeme) (w : RawCommand) → spells (grammar_of session_command) ts w → command_columns w ≤ length ts
unfolding session_command
session_few ts w (inl (t, us, h, cut, (v, k, e))) = none_named (length ts) w _ e refl
session_few ts w (inr (inl (t, us, h, cut, (t', ws, h', cut', (v, k, e))))) = none_named (length ts) w _ e refl
session_few ts w (inr (inr (inl (t, us, h, cut, (v, k, e))))) =
    let few : column_count (items_in v.0) ≤ length us = (request_has us v.0 v.1 k).few in
    let same : command_columns w ≡ column_count (items_in v.0) = ap command_columns e in
    omega (arith, ap length cut)
session_few ts w (inr (inr (inr (t, us, h, cut, (t', ws, h', cut', k))))) = grants_few (length ts) ws w k

-- a command of these tokens names no more columns than there are tokens
command_few : (ts : List Lexeme) (w : RawCommand) → spells (grammar_of command) ts w → command_columns w ≤ length ts
unfolding command awaited
command_few ts w (inl (v, k, e)) = none_named (length ts) w _ e refl
command_few ts w (inr (inl (t, us, h, cut, (nothing, e)))) = none_named (length ts) w _ e refl
command_few ts w (inr (inr (inl (t, us, h, cut, (v, k, e))))) = none_named (length ts) w _ e refl
command_few ts w (inr (inr (inr k))) = session_few ts w k

few_tokens : (text : List ℕ) (tokens : List Token) → IsCut text tokens → length (lexemes_of text tokens) ≤ length text
few_tokens text tokens cut =
    let few : length tokens ≤ length text = tokens_are_few text tokens cut in
    let many : length (lexemes_of text tokens) ≡ length tokens = length-map tokens (lexeme_of text) in
    omega arith

inner_command : (a b : RawCommand) → let left : RawCommand ⊎ (Statement ⊎ RawStatement) = inl a in left ≡ inl b → a ≡ b
inner_command a b e = cc

inner_statement : (a b : Statement ⊎ RawStatement) → let left : RawCommand ⊎ (Statement ⊎ RawStatement) = inr a in left ≡ inr b → a ≡ b
inner_statement a b e = cc

command_text_few : (text : List ℕ) (w : RawCommand) → length text ≤ 4096 → IsSpelled SpellsWritten text (inl w) → command_columns w < 2 ^ 32
command_text_few text w short (tokens, cut, (inl (x, k, e))) =
    let few = few_tokens text tokens cut in
    let named = command_few (lexemes_of text tokens) x k in
    let same : command_columns w ≡ command_columns x = ap command_columns (inner_command w x e) in
    omega arith
command_text_few text w short (tokens, cut, (inr (x, k, e))) = absurd (cc)

statement_spelled : (text : List ℕ) (w : Statement ⊎ RawStatement) → IsSpelled SpellsWritten text (inr w) → IsSpelled SpellsStatement text w
statement_spelled text w (tokens, cut, (inl (x, k, e))) = absurd (cc)
statement_spelled text w (tokens, cut, (inr (x, k, e))) =
    let P : Statement ⊎ RawStatement → Type 0 = λ s. SpellsStatement (lexemes_of text tokens) s in
    (tokens, cut, subst P (sym (inner_statement w x e)) k)

pub written_few : (text : List ℕ) (w : RawCommand ⊎ (Statement ⊎ RawStatement)) → length text ≤ 4096 → IsSpelled SpellsWritten text w → written_columns w < 2 ^ 32
written_few text (inl w) short spelled = command_text_few text w short spelled
written_few text (inr (inl s)) short spelled = omega arith
written_few text (inr (inr w)) short spelled = statement_few text w (omega arith) (statement_spelled text (inr w) spelled)
