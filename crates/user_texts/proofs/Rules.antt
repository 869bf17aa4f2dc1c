-- The keywords and flags of statements are read as they are written.
use Rattle.std.proofs.Common.{ℕ, Bool, true, false, List, [], ◌∷◌, inl, inr, refl}
use Rattle.std.specs.Prelude.{codes}
use Rattle.acl_grammar.specs.Spelling.{spells}
use Rattle.acl_stmt.specs.declared.statement.Statement.{Statement}
use Rattle.canonical_texts.specs.Tokens.{tokens_if, word, words_of}
use Rattle.grant_words.specs.Classes.{is}
use Rattle.grant_words.specs.Lexemes.{printed_lexeme, printed_lexemes}
use Rattle.grant_words.specs.Syntax.{grammar_of}
use Rattle.grant_words.specs.declared.lexeme.Lexeme.{Lexeme}
use Rattle.user_statements.specs.Flags.{if_exists, if_not_exists, with_admin_option}
use Rattle.user_statements.specs.Statements.{alter_user, create, create_role, create_user, drop, drop_role, drop_user, grant_roles, on_grants, rename_user, revoke, revoke_all, revoke_roles, set, set_activate_all, set_default_role, set_mandatory, set_password, set_persist, user_statement}

-- a keyword
abbrev pub key : List ℕ → Lexeme
key text = printed_lexeme (word text)

pub if_not_exists_again : (b : Bool) → spells (grammar_of if_not_exists) (printed_lexemes (tokens_if b (words_of (codes "IF NOT EXISTS")))) b
unfolding if_not_exists words_of is
if_not_exists_again true =
    inl (
      key (codes "IF"),
      key (codes "NOT") ∷ key (codes "EXISTS") ∷ [],
      refl,
      refl,
      (key (codes "NOT"), key (codes "EXISTS") ∷ [], refl, refl, (key (codes "EXISTS"), [], refl, refl, (refl, refl))),
    )
if_not_exists_again false = inr (refl, refl)

pub if_exists_again : (b : Bool) → spells (grammar_of if_exists) (printed_lexemes (tokens_if b (words_of (codes "IF EXISTS")))) b
unfolding if_exists words_of is
if_exists_again true =
    inl (key (codes "IF"), key (codes "EXISTS") ∷ [], refl, refl, (key (codes "EXISTS"), [], refl, refl, (refl, refl)))
if_exists_again false = inr (refl, refl)

pub admin_option_again : (b : Bool) → spells (grammar_of with_admin_option) (printed_lexemes (tokens_if b (words_of (codes "WITH ADMIN OPTION")))) b
unfolding with_admin_option words_of is
admin_option_again true =
    inl (
      key (codes "WITH"),
      key (codes "ADMIN") ∷ key (codes "OPTION") ∷ [],
      refl,
      refl,
      (key (codes "ADMIN"), key (codes "OPTION") ∷ [], refl, refl, (key (codes "OPTION"), [], refl, refl, (refl, refl))),
    )
admin_option_again false = inr (refl, refl)

-- the words that a statement begins with, before what its rule spells
pub from_create_user : (ts : List Lexeme) (s : Statement) → spells (grammar_of create_user) ts s
    → spells (grammar_of user_statement) (key (codes "CREATE") ∷ key (codes "USER") ∷ ts) s
unfolding user_statement create is
from_create_user ts s k =
    inl (key (codes "CREATE"), key (codes "USER") ∷ ts, refl, refl, inl (key (codes "USER"), ts, refl, refl, k))

pub from_create_role : (ts : List Lexeme) (s : Statement) → spells (grammar_of create_role) ts s
    → spells (grammar_of user_statement) (key (codes "CREATE") ∷ key (codes "ROLE") ∷ ts) s
unfolding user_statement create is
from_create_role ts s k =
    inl (key (codes "CREATE"), key (codes "ROLE") ∷ ts, refl, refl, inr (key (codes "ROLE"), ts, refl, refl, k))

pub from_alter_user : (ts : List Lexeme) (s : Statement) → spells (grammar_of alter_user) ts s
    → spells (grammar_of user_statement) (key (codes "ALTER") ∷ key (codes "USER") ∷ ts) s
unfolding user_statement is
from_alter_user ts s k =
    inr (inl (key (codes "ALTER"), key (codes "USER") ∷ ts, refl, refl, (key (codes "USER"), ts, refl, refl, k)))

pub from_drop_user : (ts : List Lexeme) (s : Statement) → spells (grammar_of drop_user) ts s
    → spells (grammar_of user_statement) (key (codes "DROP") ∷ key (codes "USER") ∷ ts) s
unfolding user_statement drop is
from_drop_user ts s k =
    inr (inr (inl (key (codes "DROP"), key (codes "USER") ∷ ts, refl, refl, inl (key (codes "USER"), ts, refl, refl, k))))

pub from_drop_role : (ts : List Lexeme) (s : Statement) → spells (grammar_of drop_role) ts s
    → spells (grammar_of user_statement) (key (codes "DROP") ∷ key (codes "ROLE") ∷ ts) s
unfolding user_statement drop is
from_drop_role ts s k =
    inr (inr (inl (key (codes "DROP"), key (codes "ROLE") ∷ ts, refl, refl, inr (key (codes "ROLE"), ts, refl, refl, k))))

pub from_rename_user : (ts : List Lexeme) (s : Statement) → spells (grammar_of rename_user) ts s
    → spells (grammar_of user_statement) (key (codes "RENAME") ∷ key (codes "USER") ∷ ts) s
unfolding user_statement is
from_rename_user ts s k =
    inr (inr (inr (inl (key (codes "RENAME"), key (codes "USER") ∷ ts, refl, refl, (key (codes "USER"), ts, refl, refl, k)))))

pub from_grant : (ts : List Lexeme) (s : Statement) → spells (grammar_of grant_roles) ts s
    → spells (grammar_of user_statement) (key (codes "GRANT") ∷ ts) s
unfolding user_statement on_grants is
from_grant ts s k = inr (inr (inr (inr (inl (key (codes "GRANT"), ts, refl, refl, k)))))

pub from_revoke_all : (ts : List Lexeme) (s : Statement) → spells (grammar_of revoke_all) ts s
    → spells (grammar_of user_statement) (key (codes "REVOKE") ∷ key (codes "ALL") ∷ ts) s
unfolding user_statement on_grants revoke is
from_revoke_all ts s k =
    inr (inr (inr (inr (inr (inl (key (codes "REVOKE"), key (codes "ALL") ∷ ts, refl, refl, inl (key (codes "ALL"), ts, refl, refl, k)))))))

pub from_revoke : (ts : List Lexeme) (s : Statement) → spells (grammar_of revoke_roles) ts s
    → spells (grammar_of user_statement) (key (codes "REVOKE") ∷ ts) s
unfolding user_statement on_grants revoke is
from_revoke ts s k = inr (inr (inr (inr (inr (inl (key (codes "REVOKE"), ts, refl, refl, inr k))))))

from_set : (ts : List Lexeme) (s : Statement) → spells (grammar_of set) ts s → spells (grammar_of user_statement) (key (codes "SET") ∷ ts) s
unfolding user_statement on_grants is
from_set ts s k = inr (inr (inr (inr (inr (inr (key (codes "SET"), ts, refl, refl, k))))))

pub from_default_role : (ts : List Lexeme) (s : Statement) → spells (grammar_of set_default_role) ts s
    → spells (grammar_of user_statement) (key (codes "SET") ∷ key (codes "DEFAULT") ∷ key (codes "ROLE") ∷ ts) s
unfolding set is
from_default_role ts s k =
    from_set (key (codes "DEFAULT") ∷ key (codes "ROLE") ∷ ts) s
    (inl (key (codes "DEFAULT"), key (codes "ROLE") ∷ ts, refl, refl, (key (codes "ROLE"), ts, refl, refl, k)))

pub from_password : (ts : List Lexeme) (s : Statement) → spells (grammar_of set_password) ts s
    → spells (grammar_of user_statement) (key (codes "SET") ∷ key (codes "PASSWORD") ∷ ts) s
unfolding set is
from_password ts s k =
    from_set (key (codes "PASSWORD") ∷ ts) s (inr (inl (key (codes "PASSWORD"), ts, refl, refl, k)))

pub from_mandatory : (ts : List Lexeme) (s : Statement) → spells (grammar_of set_mandatory) ts s
    → spells (grammar_of user_statement) (key (codes "SET") ∷ key (codes "PERSIST") ∷ key (codes "mandatory_roles") ∷ ts) s
unfolding set set_persist is
from_mandatory ts s k =
    from_set (key (codes "PERSIST") ∷ key (codes "mandatory_roles") ∷ ts) s
    (inr (inr (key (codes "PERSIST"), key (codes "mandatory_roles") ∷ ts, refl, refl, inl (key (codes "mandatory_roles"), ts, refl, refl, k))))

pub from_activate_all : (ts : List Lexeme) (s : Statement) → spells (grammar_of set_activate_all) ts s
    → spells (grammar_of user_statement) (key (codes "SET") ∷ key (codes "PERSIST") ∷ key (codes "activate_all_roles_on_login") ∷ ts) s
unfolding set set_persist is
from_activate_all ts s k =
    from_set (key (codes "PERSIST") ∷ key (codes "activate_all_roles_on_login") ∷ ts) s
    (inr (inr (
      key (codes "PERSIST"),
      key (codes "activate_all_roles_on_login") ∷ ts,
      refl,
      refl,
      inr (key (codes "activate_all_roles_on_login"), ts, refl, refl, k),
    )))
