-- What the code needs of what is spelled: few columns, accounts, and statements that keep their rules.
use Rattle.std.proofs.Common.{◌≡◌, ◌⊎◌, ◌<◌, ◌≤◌, ◌^◌, ◌+◌, ℕ, IsTrue, List, length, length-append, inl, inr, ◌∙◌, ap, arith}
use Rattle.std.proofs.lemmas.List.{length-map}
use Rattle.acl_grammar.specs.Spelling.{spells}
use Rattle.acl_stmt.specs.Lists.{is_some_list}
use Rattle.acl_stmt.specs.Statements.{is_statement}
use Rattle.acl_stmt.specs.declared.statement.Statement.{Statement}
use Rattle.acl_stmt.specs.declared.target.Target.{Target}
use Rattle.grant_lex.specs.Token.{IsCut}
use Rattle.grant_lex.specs.declared.sorts.Token.{Token}
use Rattle.grant_parse.specs.Meaning.{accounts_of}
use Rattle.grant_parse.specs.Statements.{SpellsRequest, SpellsStatement, privilege_rule, user_rule}
use Rattle.grant_parse.proofs.Few.{tokens_are_few}
use Rattle.grant_parse.specs.Texts.{IsSpelled}
use Rattle.grant_words.specs.Lexemes.{lexeme_of, lexemes_of}
use Rattle.grant_words.specs.Syntax.{grammar_of}
use Rattle.grant_words.specs.declared.lexeme.Lexeme.{Lexeme}
use Rattle.priv_items.specs.Naming.{column_count, items_in}
use Rattle.priv_items.specs.declared.item.Named.{Named}
use Rattle.privilege_statements.proofs.Columns.{request_has, statement_has}
use Rattle.privilege_statements.specs.Columns.{privileges_of}
use Rattle.privilege_statements.specs.Statements.{grant, privilege_statement, revoke}
use Rattle.privilege_statements.specs.declared.statement.RawStatement.{RawStatement}
use Rattle.user_statements.proofs.Kept.{some_accounts, statement_kept}

pub user_kept : (ts : List Lexeme) (s : Statement) → spells (grammar_of user_rule) ts s → IsTrue (is_statement s)
unfolding user_rule
user_kept ts s (v, (us, ws, cut, k, end), same) = ap is_statement same ∙ statement_kept us v.0 k

raw_accounts : (ts : List Lexeme) (s : RawStatement) → spells (grammar_of privilege_statement) ts s → IsTrue (is_some_list (accounts_of s))
unfolding privilege_statement grant revoke
raw_accounts ts s (inl (t, us, h, cut, (v, (xs, ys, cut', k, (t', zs, h', cut'', (ps, qs, cut3, list, option))), same))) =
    ap (λ x. is_some_list (accounts_of x)) same ∙ some_accounts ps v.1.0 list
raw_accounts ts s (inr (t, us, h, cut, (v, (xs, ys, cut', k, (t', zs, h', cut'', list)), same))) =
    ap (λ x. is_some_list (accounts_of x)) same ∙ some_accounts zs v.1 list

pub privilege_accounts : (ts : List Lexeme) (s : RawStatement) → spells (grammar_of privilege_rule) ts s → IsTrue (is_some_list (accounts_of s))
unfolding privilege_rule
privilege_accounts ts s (v, (us, ws, cut, k, end), same) = ap (λ x. is_some_list (accounts_of x)) same ∙ raw_accounts us v.0 k

few_tokens : (text : List ℕ) (tokens : List Token) → IsCut text tokens → length (lexemes_of text tokens) ≤ length text
few_tokens text tokens cut =
    let few : length tokens ≤ length text = tokens_are_few text tokens cut in
    let many : length (lexemes_of text tokens) ≡ length tokens = length-map tokens (lexeme_of text) in
    omega arith

raw_few : (ts : List Lexeme) (s : RawStatement) → spells (grammar_of privilege_rule) ts s → column_count (items_in (privileges_of s)) ≤ length ts
unfolding privilege_rule
raw_few ts s (v, (us, ws, cut, k, end), same) =
    let few : column_count (items_in (privileges_of v.0)) ≤ length us = (statement_has us v.0 k).few in
    let equal : column_count (items_in (privileges_of s)) ≡ column_count (items_in (privileges_of v.0)) =
    ap (λ x. column_count (items_in (privileges_of x))) same in
    let whole : length ts ≡ length us + length ws = ap length cut ∙ length-append us ws in
    omega arith

-- of a text with an offset for each byte
pub statement_few : (text : List ℕ) (s : RawStatement) → length text < 2 ^ 32 → IsSpelled SpellsStatement text (inr s)
    → column_count (items_in (privileges_of s)) < 2 ^ 32
statement_few text s short (tokens, cut, (inl (x, k, same))) = absurd (cc)
statement_few text s short (tokens, cut, (inr (x, k, same))) =
    let few : length (lexemes_of text tokens) ≤ length text = few_tokens text tokens cut in
    let named : column_count (items_in (privileges_of x)) ≤ length (lexemes_of text tokens) = raw_few (lexemes_of text tokens) x k in
    let equal : s ≡ x = inner s x same in
    let count : column_count (items_in (privileges_of s)) ≡ column_count (items_in (privileges_of x)) =
    ap (λ y. column_count (items_in (privileges_of y))) equal in
    omega arith
  where
    inner : (a b : RawStatement) → let left : Statement ⊎ RawStatement = inr a in left ≡ inr b → a ≡ b
    inner a b e = cc

pub request_few : (text : List ℕ) (named : Named) (target : Target) → length text < 2 ^ 32 → IsSpelled SpellsRequest text (named, target)
    → column_count (items_in named) < 2 ^ 32
request_few text named target short (tokens, cut, k) =
    let few : length (lexemes_of text tokens) ≤ length text = few_tokens text tokens cut in
    let count : column_count (items_in named) ≤ length (lexemes_of text tokens) = (request_has (lexemes_of text tokens) named target k).few in
    omega arith

user_spelled : (ts : List Lexeme) (s : Statement) → SpellsStatement ts (inl s) → IsTrue (is_statement s)
user_spelled ts s (inl (x, k, same)) = ap is_statement (inner s x same) ∙ user_kept ts x k
  where
    inner : (a b : Statement) → let left : Statement ⊎ RawStatement = inl a in left ≡ inl b → a ≡ b
    inner a b e = cc
user_spelled ts s (inr (x, k, same)) = absurd (cc)

pub user_text_kept : (text : List ℕ) (s : Statement) → IsSpelled SpellsStatement text (inl s) → IsTrue (is_statement s)
user_text_kept text s (tokens, cut, k) = user_spelled (lexemes_of text tokens) s k

raw_spelled : (ts : List Lexeme) (s : RawStatement) → SpellsStatement ts (inr s) → IsTrue (is_some_list (accounts_of s))
raw_spelled ts s (inl (x, k, same)) = absurd (cc)
raw_spelled ts s (inr (x, k, same)) = ap (λ y. is_some_list (accounts_of y)) (inner s x same) ∙ privilege_accounts ts x k
  where
    inner : (a b : RawStatement) → let left : Statement ⊎ RawStatement = inr a in left ≡ inr b → a ≡ b
    inner a b e = cc

pub raw_text_accounts : (text : List ℕ) (s : RawStatement) → IsSpelled SpellsStatement text (inr s) → IsTrue (is_some_list (accounts_of s))
raw_text_accounts text s (tokens, cut, k) = raw_spelled (lexemes_of text tokens) s k
