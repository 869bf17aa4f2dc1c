-- Statements are read back from their canonical texts.
use Rattle.std.proofs.Common.{◌≡◌, ◌⊎◌, ℕ, IsTrue, IsUtf8, List, [], Some, None, Result, Ok, Err, IfOk, append-nil, inl, inr, refl, sym, ap, subst, ◌∙◌}
use Rattle.std.specs.List.{AllByRecursion}
use Rattle.acl_grammar.specs.Spelling.{spells}
use Rattle.acl_names.specs.declared.auth.AuthId.{AuthId}
use Rattle.acl_names.specs.declared.policy.Verifier.{Verifier}
use Rattle.acl_stmt.specs.Entries.{is_complete}
use Rattle.acl_stmt.specs.Statements.{is_statement}
use Rattle.acl_stmt.specs.declared.statement.Statement.{Statement}
use Rattle.acl_stmt.specs.declared.statement.Statement.TheVariants.{SetPassword}
use Rattle.canonical_texts.proofs.Printable.{canonical_cut}
use Rattle.canonical_texts.specs.Lexemes.{canonical_lexemes}
use Rattle.canonical_texts.specs.Rules.{account_keeps_rules}
use Rattle.canonical_texts.specs.StatementTokens.{canonical_tokens}
use Rattle.canonical_texts.specs.Statements.{canonical_text}
use Rattle.grant_lex.specs.Printed.{tokens_of}
use Rattle.grant_parse.proofs.Kept.{user_kept}
use Rattle.grant_parse.specs.Meaning.{IsStatement, MeansStatement, level_fault}
use Rattle.grant_parse.specs.Statements.{SpellsStatement, privilege_rule, semicolon, user_rule}
use Rattle.grant_words.specs.Lexemes.{lexemes_of}
use Rattle.grant_words.specs.Syntax.{grammar_of}
use Rattle.grant_words.specs.declared.lexeme.Lexeme.{Lexeme}
use Rattle.privilege_statements.specs.Statements.{privilege_statement}
use Rattle.privilege_statements.specs.declared.statement.RawStatement.{RawStatement}
use Rattle.privilege_statements.specs.declared.statement.RawStatement.TheVariants.{Grant, Revoke}
use Rattle.privilege_texts.proofs.Spelled.{all_front}
use Rattle.privilege_texts.proofs.Statements.{read_back as privileges_read_back}
use Rattle.privilege_texts.proofs.TokenValues.{tokens_are_text}
use Rattle.privilege_texts.specs.Rules.{IsText}
use Rattle.privilege_texts.specs.SpelledAgain.{IsSpelledAgain}
use Rattle.user_statements.specs.Statements.{user_statement}
use Rattle.user_texts.proofs.Statements.{canonical_read as users_read_back, completed_read}
use Rattle.entry_codec.proofs.Cuts.{IsCutUp, meant_cut}
use Rattle.entry_codec.proofs.Lexemes.{canonical_read}
use Rattle.entry_codec.specs.ReadBack.{IsReadBack}

-- what the tokens of the canonical text spell is what the text spells
read_as : (s : Statement) (m : Statement ⊎ RawStatement) → IsCutUp s → SpellsStatement (canonical_lexemes s) m → level_fault m ≡ None → MeansStatement m s
    → IsReadBack (canonical_text s) s
read_as s m cut spelled fits means room short =
    (short, m, (tokens_of 0 (canonical_tokens s), cut, subst (λ l. SpellsStatement l m) (sym (canonical_read s)) spelled), fits, means)

user_rule_again : (ts : List Lexeme) (s : Statement) → spells (grammar_of user_rule) ts s → IsTrue (is_complete s)
    → spells (grammar_of user_rule) (canonical_lexemes s) s
unfolding user_rule semicolon
user_rule_again ts s (v, (us, ws, cut, spelled, end), same) complete =
    let again = users_read_back us v.0 spelled (sym (ap is_complete same) ∙ complete) in
    subst (λ x. spells (grammar_of user_rule) (canonical_lexemes x) x) (sym same)
    ((v.0, tt), (canonical_lexemes v.0, [], sym (append-nil (canonical_lexemes v.0)), again, inr (refl, refl)), refl)

user_again : (ts : List Lexeme) (s : Statement) → SpellsStatement ts (inl s) → IsTrue (is_complete s)
    → IsReadBack (canonical_text s) s
user_again ts s (inl (x, k, same)) complete =
    let spelled : spells (grammar_of user_rule) ts s = subst (spells (grammar_of user_rule) ts) (sym (inner s x same)) k in
    read_as s (inl s) (canonical_cut s (user_kept ts s spelled)) (inl (s, user_rule_again ts s spelled complete, refl)) refl refl
  where
    inner : (a b : Statement) → let left : Statement ⊎ RawStatement = inl a in left ≡ inl b → a ≡ b
    inner a b e = cc
user_again ts s (inr (x, k, same)) complete = absurd (cc)

-- a GRANT or a REVOKE
record IsReadRaw (ts : List Lexeme) (raw : RawStatement) (s : Statement) : Type 0 where
  text : AllByRecursion IsText ts
  fits : level_fault (inr raw) ≡ None
  means : MeansStatement (inr raw) s

rule_again : (ts : List Lexeme) (raw : RawStatement) (s : Statement) → spells (grammar_of privilege_rule) ts raw → IsReadRaw ts raw s → IsSpelledAgain s
unfolding privilege_rule
rule_again ts raw s (v, (us, ws, cut, spelled, end), same) read =
    privileges_read_back us v.0 s (all_front IsText us ws (subst (AllByRecursion IsText) cut read.text)) spelled
    (subst (λ x. level_fault (inr x) ≡ None) same read.fits) (subst (λ x. MeansStatement (inr x) s) same read.means)

with_end : (s : Statement) (raw : RawStatement) → spells (grammar_of privilege_statement) (canonical_lexemes s) raw
    → spells (grammar_of privilege_rule) (canonical_lexemes s) raw
unfolding privilege_rule semicolon
with_end s raw spelled = ((raw, tt), (canonical_lexemes s, [], sym (append-nil (canonical_lexemes s)), spelled, inr (refl, refl)), refl)

raw_again : (ts : List Lexeme) (raw : RawStatement) (s : Statement) → SpellsStatement ts (inr raw) → IsReadRaw ts raw s
    → IsReadBack (canonical_text s) s
raw_again ts raw s (inl (x, k, same)) read = absurd (cc)
raw_again ts raw s (inr (x, k, same)) read =
    let again = rule_again ts raw s (subst (spells (grammar_of privilege_rule) ts) (sym (inner raw x same)) k) read in
    read_as s (inr again.raw) (meant_cut again.raw s again.meant) (inr (again.raw, with_end s again.raw again.spelled, refl)) again.fits again.meant
  where
    inner : (a b : RawStatement) → let left : Statement ⊎ RawStatement = inr a in left ≡ inr b → a ≡ b
    inner a b e = cc

pub read_back : (s : Statement) (most : ℕ) (bytes : List ℕ) → IsUtf8 bytes → IsStatement most bytes s → IsTrue (is_complete s) → IsReadBack (canonical_text s) s
read_back s most bytes utf8 (short, inl x, (tokens, cut, k), fits, means) complete =
    user_again (lexemes_of bytes tokens) s (subst (λ y. SpellsStatement (lexemes_of bytes tokens) (inl y)) (sym means) k) complete
read_back s most bytes utf8 (short, inr raw, (tokens, cut, k), fits, means) complete =
    raw_again (lexemes_of bytes tokens) raw s k (record { text = tokens_are_text bytes tokens utf8 cut; fits = fits; means = means })

-- a SET PASSWORD that an account completes
user_rule_completed : (ts : List Lexeme) (a : AuthId) (v : Verifier) → spells (grammar_of user_rule) ts (SetPassword None v) → IsTrue (account_keeps_rules a)
    → IsReadBack (canonical_text (SetPassword (Some a) v)) (SetPassword (Some a) v)
unfolding user_rule semicolon is_statement
user_rule_completed ts a v (w, (us, ws, cut, spelled, end), same) keeps =
    let s : Statement = SetPassword (Some a) v in
    let again = completed_read us a v (subst (spells (grammar_of user_statement) us) (sym same) spelled) keeps in
    read_as s (inl s) (canonical_cut s refl)
    (inl (s, ((s, tt), (canonical_lexemes s, [], sym (append-nil (canonical_lexemes s)), again, inr (refl, refl)), refl), refl)) refl refl

spelled_completed : (ts : List Lexeme) (a : AuthId) (v : Verifier) (x : Statement) → SpellsStatement ts (inl x) → SetPassword None v ≡ x → IsTrue (account_keeps_rules a)
    → IsReadBack (canonical_text (SetPassword (Some a) v)) (SetPassword (Some a) v)
spelled_completed ts a v x (inl (y, k, same)) means keeps =
    user_rule_completed ts a v (subst (spells (grammar_of user_rule) ts) (sym (means ∙ inner x y same)) k) keeps
  where
    inner : (b c : Statement) → let left : Statement ⊎ RawStatement = inl b in left ≡ inl c → b ≡ c
    inner b c e = cc
spelled_completed ts a v x (inr (y, k, same)) means keeps = absurd (cc)

pub completed : (a : AuthId) (v : Verifier) (most : ℕ) (bytes : List ℕ) → IsStatement most bytes (SetPassword None v) → IsTrue (account_keeps_rules a)
    → IsReadBack (canonical_text (SetPassword (Some a) v)) (SetPassword (Some a) v)
completed a v most bytes (short, inl x, (tokens, cut, k), fits, means) keeps = spelled_completed (lexemes_of bytes tokens) a v x k means keeps
completed a v most bytes (short, inr (Grant named target accounts option), spelled, fits, (list, meant, same)) keeps = absurd (cc)
completed a v most bytes (short, inr (Revoke named target accounts), spelled, fits, (list, meant, same)) keeps = absurd (cc)

-- where a text is written at all
pub written : {T E : Type 0} (bytes_of : T → List ℕ) (r : Result T E) (s : Statement) → IfOk r (λ t. bytes_of t ≡ canonical_text s)
    → IsReadBack (canonical_text s) s → IfOk r (λ t. IsReadBack (bytes_of t) s)
written bytes_of (Ok t) s same is = subst (λ l. IsReadBack l s) (sym same) is
written bytes_of (Err e) s same is = tt
