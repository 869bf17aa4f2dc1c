-- Statements on a password and on settings are read back.
use Rattle.std.proofs.Common.{◌≡◌, IsTrue, Bool, true, false, List, [], ◌∷◌, ◌++◌, Option, Some, None, cond, inl, inr, refl, sym, ap, subst, ◌∙◌}
use Rattle.std.specs.Prelude.{codes}
use Rattle.acl_grammar.specs.Spelling.{spells}
use Rattle.acl_names.specs.declared.auth.AuthId.{AuthId}
use Rattle.acl_names.specs.declared.policy.Verifier.{Verifier}
use Rattle.acl_stmt.specs.Entries.{is_complete}
use Rattle.acl_stmt.specs.declared.statement.Statement.{Statement}
use Rattle.acl_stmt.specs.declared.statement.Statement.TheVariants.{SetPassword, SetMandatory, SetActivateAll}
use Rattle.canonical_texts.proofs.Lexemes.{lexemes_append}
use Rattle.canonical_texts.proofs.SpelledAccounts.{account_keeps, account_spelled}
use Rattle.canonical_texts.specs.Quotes.{string_text}
use Rattle.canonical_texts.specs.Rules.{account_keeps_rules}
use Rattle.canonical_texts.specs.StatementTokens.{further_tokens}
use Rattle.canonical_texts.specs.Tokens.{account_tokens, digits_token, spaced_mark, string, word}
use Rattle.grant_words.specs.Classes.{is}
use Rattle.grant_words.specs.Lexemes.{printed_lexeme, printed_lexemes}
use Rattle.grant_words.specs.Syntax.{grammar_of}
use Rattle.grant_words.specs.declared.lexeme.Lexeme.{Lexeme}
use Rattle.mandatory_roles.specs.Text.{roles_text}
use Rattle.user_statements.specs.Statements.{for_account, on_or_off, set_activate_all, set_mandatory, set_password}
use Rattle.user_texts.proofs.Digests.{IsDigest}
use Rattle.user_texts.proofs.Passwords.{secret_digest, secret_written}
use Rattle.user_texts.proofs.Roles.{mandatory_again}
use Rattle.user_texts.proofs.Rules.{from_activate_all, from_mandatory, from_password, key}
use Rattle.user_texts.proofs.Users.{IsReadAgain}

for_keeps : (ts : List Lexeme) (a : AuthId) → spells (grammar_of for_account) ts (Some a) → IsTrue (account_keeps_rules a)
unfolding for_account
for_keeps ts a (inl (t, us, h, cut, (b, named, same))) = subst (λ x. IsTrue (account_keeps_rules x)) (sym (some_same same)) (account_keeps us b named)
  where
    some_same : Some a ≡ Some b → a ≡ b
    some_same e = cc
for_keeps ts a (inr (none, same)) = absurd (cc)

for_written : (a : AuthId) → IsTrue (account_keeps_rules a) → spells (grammar_of for_account) (key (codes "FOR") ∷ printed_lexemes (account_tokens a)) (Some a)
unfolding for_account is
for_written a keeps = inl (key (codes "FOR"), printed_lexemes (account_tokens a), refl, refl, (a, account_spelled a keeps, refl))

pub password_written : (a : AuthId) (v : Verifier) → IsTrue (account_keeps_rules a) → IsDigest v → IsReadAgain (SetPassword (Some a) v)
unfolding set_password further_tokens is
password_written a v keeps digest =
    let digits = key (codes "VERIFIER") ∷ printed_lexeme (digits_token v) ∷ [] in
    let behind = printed_lexeme (spaced_mark 61) ∷ digits in
    from_password (printed_lexemes ((word (codes "FOR") ∷ account_tokens a) ++ (spaced_mark 61 ∷ word (codes "VERIFIER") ∷ digits_token v ∷ []))) (SetPassword (Some a) v) (
      (Some a, v),
      (
        key (codes "FOR") ∷ printed_lexemes (account_tokens a),
        behind,
        lexemes_append (word (codes "FOR") ∷ account_tokens a) (spaced_mark 61 ∷ word (codes "VERIFIER") ∷ digits_token v ∷ []),
        for_written a keeps,
        (printed_lexeme (spaced_mark 61), digits, refl, refl, secret_written v digest),
      ),
      refl,
    )

named_password : (xs : List Lexeme) (o : Option AuthId) (v : Verifier) → spells (grammar_of for_account) xs o → IsDigest v
    → IsTrue (is_complete (SetPassword o v)) → IsReadAgain (SetPassword o v)
named_password xs None v named digest complete = absurd (cc)
named_password xs (Some a) v named digest complete = password_written a v (for_keeps xs a named) digest

pub password_again : (ts : List Lexeme) (s : Statement) → spells (grammar_of set_password) ts s → IsTrue (is_complete s) → IsReadAgain s
unfolding set_password
password_again ts s (v, (xs, ys, cut, named, (t, us, h, cut', given)), same) complete =
    subst IsReadAgain (sym same) (named_password xs v.0 v.1 named (secret_digest us v.1 given) (sym (ap is_complete same) ∙ complete))

pub mandatory_read_back : (ts : List Lexeme) (s : Statement) → spells (grammar_of set_mandatory) ts s → IsReadAgain s
unfolding set_mandatory further_tokens
mandatory_read_back ts s (vs, (t, us, h, cut, (x, here, one, value)), same) =
    subst IsReadAgain (sym same)
    (from_mandatory (printed_lexemes (spaced_mark 61 ∷ string (string_text (roles_text vs)) ∷ [])) (SetMandatory vs)
    (vs, mandatory_again x vs here value, refl))

on_again : (b : Bool) → spells (grammar_of on_or_off) (key (cond b (codes "ON") (codes "OFF")) ∷ []) b
unfolding on_or_off is
on_again true = inl (key (codes "ON"), [], refl, refl, (refl, refl))
on_again false = inr (key (codes "OFF"), [], refl, refl, (refl, refl))

pub activate_all_again : (ts : List Lexeme) (s : Statement) → spells (grammar_of set_activate_all) ts s → IsReadAgain s
unfolding set_activate_all further_tokens is
activate_all_again ts s (b, k, same) =
    let behind = key (cond b (codes "ON") (codes "OFF")) ∷ [] in
    subst IsReadAgain (sym same)
    (from_activate_all (printed_lexeme (spaced_mark 61) ∷ behind) (SetActivateAll b) (b, (printed_lexeme (spaced_mark 61), behind, refl, refl, on_again b), refl))
