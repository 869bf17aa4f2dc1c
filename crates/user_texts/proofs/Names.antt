-- Accounts and roles are read as they are written.
use Rattle.std.proofs.Common.{◌≡◌, ℕ, IsTrue, List, [], ◌∷◌, refl, sym, ap, subst, ◌∙◌}
use Rattle.acl_grammar.specs.Spelling.{spells}
use Rattle.acl_names.specs.declared.auth.AuthId.{AuthId}
use Rattle.canonical_texts.proofs.SpelledAccounts.{account_keeps, account_spelled, host_keeps, host_spelled}
use Rattle.canonical_texts.specs.Tokens.{account_tokens, accounts_tokens, mark, name, spaced_name}
use Rattle.grant_words.proofs.Apart.{both_right}
use Rattle.grant_words.specs.Classes.{has_sort, is}
use Rattle.grant_words.specs.Classes.Sort.{name as name_sort}
use Rattle.grant_words.specs.Lexemes.{printed_lexeme, printed_lexemes}
use Rattle.grant_words.specs.Lists.{accounts, roles}
use Rattle.grant_words.specs.Names.{account, is_role_user, role, role_class}
use Rattle.grant_words.specs.Syntax.{grammar_of}
use Rattle.grant_words.specs.declared.lexeme.Lexeme.{Lexeme}
use Rattle.mandatory_roles.proofs.Names.{value_quoted}
use Rattle.user_texts.proofs.Lists.{list_again}

role_user_is : (user : List ℕ) (t : Lexeme) → IsTrue (is role_class t) → user ≡ t.value → IsTrue (is role_class (printed_lexeme (spaced_name user)))
unfolding is
role_user_is user t here value =
    ap is_role_user (value_quoted user ∙ value) ∙ both_right (has_sort name_sort t.kind t.value) (is_role_user t.value) here

pub account_again : (ts : List Lexeme) (a : AuthId) → spells (grammar_of account) ts a → spells (grammar_of account) (printed_lexemes (account_tokens a)) a
account_again ts a k = account_spelled a (account_keeps ts a k)

pub role_again : (ts : List Lexeme) (a : AuthId) → spells (grammar_of role) ts a → spells (grammar_of role) (printed_lexemes (account_tokens a)) a
unfolding role
role_again ts a (pair, (us, ws, cut, (t, here, one, value), host), same) =
    subst (λ x. spells (grammar_of role) (printed_lexemes (account_tokens x)) x) (sym same) (
      pair,
      (
        printed_lexeme (spaced_name pair.0) ∷ [],
        printed_lexeme (mark 64) ∷ printed_lexeme (name pair.1) ∷ [],
        refl,
        (printed_lexeme (spaced_name pair.0), role_user_is pair.0 t here value, refl, sym (value_quoted pair.0)),
        host_spelled pair.1 (host_keeps ws pair.1 host).0 (host_keeps ws pair.1 host).1,
      ),
      refl,
    )

pub accounts_again : (ts : List Lexeme) (vs : List AuthId) → spells (grammar_of accounts) ts vs → spells (grammar_of accounts) (printed_lexemes (accounts_tokens vs)) vs
unfolding accounts
accounts_again ts vs k = list_again (spells (grammar_of account)) account_tokens account_again vs ts k

pub roles_again : (ts : List Lexeme) (vs : List AuthId) → spells (grammar_of roles) ts vs → spells (grammar_of roles) (printed_lexemes (accounts_tokens vs)) vs
unfolding roles
roles_again ts vs k = list_again (spells (grammar_of role)) account_tokens role_again vs ts k
