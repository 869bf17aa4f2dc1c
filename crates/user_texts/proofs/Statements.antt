-- Statements that name no privileges are read back from their canonical texts.
use Rattle.std.proofs.Common.{IsTrue, List, Some, None, inl, inr, sym, subst}
use Rattle.acl_grammar.specs.Spelling.{spells}
use Rattle.acl_names.specs.declared.auth.AuthId.{AuthId}
use Rattle.acl_names.specs.declared.policy.Verifier.{Verifier}
use Rattle.acl_stmt.specs.Entries.{is_complete}
use Rattle.acl_stmt.specs.Statements.{is_statement}
use Rattle.acl_stmt.specs.declared.statement.Statement.{Statement}
use Rattle.acl_stmt.specs.declared.statement.Statement.TheVariants.{SetPassword}
use Rattle.canonical_texts.specs.Rules.{account_keeps_rules}
use Rattle.grant_words.specs.Syntax.{grammar_of}
use Rattle.grant_words.specs.declared.lexeme.Lexeme.{Lexeme}
use Rattle.user_statements.proofs.Kept.{statement_kept}
use Rattle.user_statements.specs.Statements.{alter_user, create, create_role, create_user, drop, drop_role, drop_user, grant_roles, on_grants, rename_user, revoke, revoke_all, revoke_roles, set, set_activate_all, set_default_role, set_mandatory, set_password, set_persist, user_statement}
use Rattle.user_texts.proofs.Digests.{IsDigest}
use Rattle.user_texts.proofs.Granted.{default_role_again, grant_again, revoke_again, revoke_all_again}
use Rattle.user_texts.proofs.Passwords.{secret_digest}
use Rattle.user_texts.proofs.Settings.{activate_all_again, mandatory_read_back, password_again, password_written}
use Rattle.user_texts.proofs.Users.{IsReadAgain, alter_user_again, create_role_again, create_user_again, drop_role_again, drop_user_again, rename_user_again}

set_again : (ts : List Lexeme) (s : Statement) → spells (grammar_of set) ts s → IsTrue (is_complete s) → IsReadAgain s
unfolding set set_persist
set_again ts s (inl (t, us, h, cut, (t', us', h', cut', k))) complete = default_role_again us' s k
set_again ts s (inr (inl (t, us, h, cut, k))) complete = password_again us s k complete
set_again ts s (inr (inr (t, us, h, cut, inl (t', us', h', cut', k)))) complete = mandatory_read_back us' s k
set_again ts s (inr (inr (t, us, h, cut, inr (t', us', h', cut', k)))) complete = activate_all_again us' s k

on_grants_again : (ts : List Lexeme) (s : Statement) → spells (grammar_of on_grants) ts s → IsTrue (is_complete s) → IsReadAgain s
unfolding on_grants revoke
on_grants_again ts s (inl (t, us, h, cut, k)) complete = grant_again us s k
on_grants_again ts s (inr (inl (t, us, h, cut, (inl (t', us', h', cut', k))))) complete = revoke_all_again us' s k
on_grants_again ts s (inr (inl (t, us, h, cut, (inr k)))) complete = revoke_again us s k
on_grants_again ts s (inr (inr (t, us, h, cut, k))) complete = set_again us s k complete

statement_again : (ts : List Lexeme) (s : Statement) → spells (grammar_of user_statement) ts s → IsTrue (is_statement s) → IsTrue (is_complete s) → IsReadAgain s
unfolding user_statement create drop
statement_again ts s (inl (t, us, h, cut, (inl (t', us', h', cut', k)))) kept complete = create_user_again us' s k kept
statement_again ts s (inl (t, us, h, cut, (inr (t', us', h', cut', k)))) kept complete = create_role_again us' s k
statement_again ts s (inr (inl (t, us, h, cut, (t', us', h', cut', k)))) kept complete = alter_user_again us' s k kept
statement_again ts s (inr (inr (inl (t, us, h, cut, (inl (t', us', h', cut', k)))))) kept complete = drop_user_again us' s k
statement_again ts s (inr (inr (inl (t, us, h, cut, (inr (t', us', h', cut', k)))))) kept complete = drop_role_again us' s k
statement_again ts s (inr (inr (inr (inl (t, us, h, cut, (t', us', h', cut', k)))))) kept complete = rename_user_again us' s k
statement_again ts s (inr (inr (inr (inr k)))) kept complete = on_grants_again ts s k complete

pub canonical_read : (ts : List Lexeme) (s : Statement) → spells (grammar_of user_statement) ts s → IsTrue (is_complete s) → IsReadAgain s
canonical_read ts s k complete = statement_again ts s k (statement_kept ts s k) complete

-- the password of a SET PASSWORD has 32 bytes
abbrev HasDigest : Statement → Type 0
HasDigest (SetPassword account verifier) = IsDigest verifier
HasDigest _ = Unit {0}

set_digest : (ts : List Lexeme) (s : Statement) → spells (grammar_of set) ts s → HasDigest s
unfolding set set_persist set_default_role set_password set_mandatory set_activate_all
set_digest ts s (inl (t, us, h, cut, (t', us', h', cut', (v, k, same)))) = subst HasDigest (sym same) tt
set_digest ts s (inr (inl (t, us, h, cut, (v, (xs, ys, cut', named, (t', us', h', cut'', given)), same)))) =
    subst HasDigest (sym same) (secret_digest us' v.1 given)
set_digest ts s (inr (inr (t, us, h, cut, inl (t', us', h', cut', (v, k, same))))) = subst HasDigest (sym same) tt
set_digest ts s (inr (inr (t, us, h, cut, inr (t', us', h', cut', (v, k, same))))) = subst HasDigest (sym same) tt

on_grants_digest : (ts : List Lexeme) (s : Statement) → spells (grammar_of on_grants) ts s → HasDigest s
unfolding on_grants revoke grant_roles revoke_all revoke_roles
on_grants_digest ts s (inl (t, us, h, cut, (v, k, same))) = subst HasDigest (sym same) tt
on_grants_digest ts s (inr (inl (t, us, h, cut, (inl (t', us', h', cut', (v, k, same)))))) = subst HasDigest (sym same) tt
on_grants_digest ts s (inr (inl (t, us, h, cut, (inr (v, k, same))))) = subst HasDigest (sym same) tt
on_grants_digest ts s (inr (inr (t, us, h, cut, k))) = set_digest us s k

statement_digest : (ts : List Lexeme) (s : Statement) → spells (grammar_of user_statement) ts s → HasDigest s
unfolding user_statement create drop create_user create_role alter_user drop_user drop_role rename_user
statement_digest ts s (inl (t, us, h, cut, (inl (t', us', h', cut', (v, k, same))))) = subst HasDigest (sym same) tt
statement_digest ts s (inl (t, us, h, cut, (inr (t', us', h', cut', (v, k, same))))) = subst HasDigest (sym same) tt
statement_digest ts s (inr (inl (t, us, h, cut, (t', us', h', cut', (v, k, same))))) = subst HasDigest (sym same) tt
statement_digest ts s (inr (inr (inl (t, us, h, cut, (inl (t', us', h', cut', (v, k, same))))))) = subst HasDigest (sym same) tt
statement_digest ts s (inr (inr (inl (t, us, h, cut, (inr (t', us', h', cut', (v, k, same))))))) = subst HasDigest (sym same) tt
statement_digest ts s (inr (inr (inr (inl (t, us, h, cut, (t', us', h', cut', (v, k, same))))))) = subst HasDigest (sym same) tt
statement_digest ts s (inr (inr (inr (inr k)))) = on_grants_digest ts s k

pub completed_read : (ts : List Lexeme) (a : AuthId) (v : Verifier) → spells (grammar_of user_statement) ts (SetPassword None v) → IsTrue (account_keeps_rules a)
    → IsReadAgain (SetPassword (Some a) v)
completed_read ts a v k keeps = password_written a v keeps (statement_digest ts (SetPassword None v) k)
