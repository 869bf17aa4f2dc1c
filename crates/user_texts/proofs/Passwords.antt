-- Passwords are read from the digests that they are written as.
use Rattle.std.proofs.Common.{IsTrue, List, [], ◌∷◌, append-nil, Option, Some, None, inl, inr, refl, sym, ap, subst, ◌∙◌}
use Rattle.std.specs.Prelude.{codes}
use Rattle.acl_grammar.specs.Spelling.{spells}
use Rattle.acl_names.specs.declared.auth.AuthId.{AuthId}
use Rattle.acl_names.specs.declared.policy.Verifier.{Verifier}
use Rattle.canonical_texts.proofs.Lexemes.{lexemes_append}
use Rattle.canonical_texts.specs.Tokens.{account_tokens, altered_tokens, digits_token, new_tokens, password_tokens, word, words_of}
use Rattle.grant_words.proofs.Apart.{both_right}
use Rattle.grant_words.specs.Classes.{has_sort, is, word as a_word}
use Rattle.grant_words.specs.Classes.Sort.{string as string_sort}
use Rattle.grant_words.specs.Lexemes.{printed_lexeme, printed_lexemes}
use Rattle.grant_words.specs.Names.{account}
use Rattle.grant_words.specs.Syntax.{grammar_of}
use Rattle.grant_words.specs.declared.lexeme.Lexeme.{Lexeme}
use Rattle.user_statements.specs.Secrets.{auth, by_secret, digest_class, digest_of, is_digest, secret}
use Rattle.user_statements.specs.Statements.{altered_account, new_account}
use Rattle.user_texts.proofs.Digests.{IsDigest, digits_fit, digits_mean, digits_value, given_digest, password_digest}
use Rattle.user_texts.proofs.Names.{account_again}

pub secret_digest : (ts : List Lexeme) (v : Verifier) → spells (grammar_of secret) ts v → IsDigest v
unfolding secret is
secret_digest ts v (inl (t, us, h, cut, (x, here, one, value))) =
    subst IsDigest (sym value) (given_digest x.value (both_right (has_sort string_sort x.kind x.value) (is_digest x.value) here))
secret_digest ts v (inr (x, here, one, value)) = subst IsDigest (sym value) (password_digest x.value)

verifier_is : IsTrue (is (a_word (codes "VERIFIER")) (printed_lexeme (word (codes "VERIFIER"))))
unfolding is
verifier_is = refl

digits_are : (v : Verifier) → IsDigest v → IsTrue (is digest_class (printed_lexeme (digits_token v)))
unfolding is
digits_are v digest = ap is_digest (digits_value v.0) ∙ digits_fit v digest

-- VERIFIER and the digits
pub secret_written : (v : Verifier) → IsDigest v → spells (grammar_of secret) (printed_lexeme (word (codes "VERIFIER")) ∷ printed_lexeme (digits_token v) ∷ []) v
unfolding secret
secret_written v digest =
    inl (
      printed_lexeme (word (codes "VERIFIER")),
      printed_lexeme (digits_token v) ∷ [],
      verifier_is,
      refl,
      (printed_lexeme (digits_token v), digits_are v digest, refl, digits_mean v digest ∙ ap digest_of (sym (digits_value v.0))),
    )

auth_digest : (ts : List Lexeme) (v : Verifier) → spells (grammar_of auth) ts v → IsDigest v
unfolding by_secret
auth_digest ts v (t, us, h, cut, (t', us', h', cut', k)) = secret_digest us' v k

-- IDENTIFIED BY VERIFIER and the digits
password_written : (v : Verifier) → IsDigest v → spells (grammar_of auth) (printed_lexemes (password_tokens v)) v
unfolding by_secret words_of is
password_written v digest = (
  printed_lexeme (word (codes "IDENTIFIED")),
  printed_lexeme (word (codes "BY")) ∷ printed_lexeme (word (codes "VERIFIER")) ∷ printed_lexeme (digits_token v) ∷ [],
  refl,
  refl,
  (printed_lexeme (word (codes "BY")), printed_lexeme (word (codes "VERIFIER")) ∷ printed_lexeme (digits_token v) ∷ [], refl, refl, secret_written v digest),
)

pub new_again : (ts : List Lexeme) (v : AuthId × Verifier) → spells (grammar_of new_account) ts v → spells (grammar_of new_account) (printed_lexemes (new_tokens v)) v
unfolding new_account
new_again ts v (us, ws, cut, named, inl k) = (
  printed_lexemes (account_tokens v.0),
  printed_lexemes (password_tokens v.1),
  lexemes_append (account_tokens v.0) (password_tokens v.1),
  account_again us v.0 named,
  inl (password_written v.1 (auth_digest ws v.1 k)),
)
new_again ts v (us, ws, cut, named, inr (none, same)) = (
  printed_lexemes (account_tokens v.0),
  printed_lexemes (password_tokens v.1),
  lexemes_append (account_tokens v.0) (password_tokens v.1),
  account_again us v.0 named,
  inl (password_written v.1 (subst IsDigest (sym same) (password_digest []))),
)

with_password : (a : AuthId) (v : Verifier) → spells (grammar_of account) (printed_lexemes (account_tokens a)) a → IsDigest v
    → spells (grammar_of altered_account) (printed_lexemes (altered_tokens (a, Some v))) (a, Some v)
unfolding altered_account
with_password a v named digest = (
  printed_lexemes (account_tokens a),
  printed_lexemes (password_tokens v),
  lexemes_append (account_tokens a) (password_tokens v),
  named,
  inl (v, password_written v digest, refl),
)

without_password : (a : AuthId) → spells (grammar_of account) (printed_lexemes (account_tokens a)) a
    → spells (grammar_of altered_account) (printed_lexemes (altered_tokens (a, None))) (a, None)
unfolding altered_account
without_password a named = (printed_lexemes (account_tokens a), [], sym (append-nil (printed_lexemes (account_tokens a))), named, inr (refl, refl))

pub altered_again : (ts : List Lexeme) (v : AuthId × Option Verifier) → spells (grammar_of altered_account) ts v
    → spells (grammar_of altered_account) (printed_lexemes (altered_tokens v)) v
unfolding altered_account
altered_again ts v (us, ws, cut, named, inl (digest, k, same)) =
    subst (λ o. spells (grammar_of altered_account) (printed_lexemes (altered_tokens (v.0, o))) (v.0, o)) (sym same)
    (with_password v.0 digest (account_again us v.0 named) (auth_digest ws digest k))
altered_again ts v (us, ws, cut, named, inr (none, same)) =
    subst (λ o. spells (grammar_of altered_account) (printed_lexemes (altered_tokens (v.0, o))) (v.0, o)) (sym same)
    (without_password v.0 (account_again us v.0 named))
