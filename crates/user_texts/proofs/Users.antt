-- Statements on accounts and roles are read back.
use Rattle.std.proofs.Common.{IsTrue, List, ◌∷◌, ◌++◌, refl, sym, ap, subst, ◌∙◌}
use Rattle.std.specs.Prelude.{codes}
use Rattle.acl_grammar.specs.Spelling.{spells}
use Rattle.acl_names.specs.declared.auth.AuthId.{AuthId}
use Rattle.acl_stmt.specs.Lists.{is_some_list}
use Rattle.acl_stmt.specs.Statements.{are_options, is_statement}
use Rattle.acl_stmt.specs.declared.statement.Statement.{Statement}
use Rattle.acl_stmt.specs.declared.statement.Statement.TheVariants.{CreateUser, AlterUser, DropUser, RenameUser, CreateRole, DropRole}
use Rattle.canonical_texts.proofs.Lexemes.{lexemes_append}
use Rattle.canonical_texts.specs.Lexemes.{canonical_lexemes}
use Rattle.canonical_texts.specs.StatementTokens.{further_tokens}
use Rattle.canonical_texts.specs.Tokens.{account_tokens, accounts_tokens, altered_tokens, list_tokens, new_tokens, options_tokens, renamed_tokens, tokens_if, word, words_of}
use Rattle.grant_words.proofs.Apart.{both_right}
use Rattle.grant_words.specs.Classes.{is}
use Rattle.grant_words.specs.Lexemes.{printed_lexemes}
use Rattle.grant_words.specs.Syntax.{grammar_of}
use Rattle.grant_words.specs.declared.lexeme.Lexeme.{Lexeme}
use Rattle.user_statements.specs.Statements.{alter_user, altered_account, create_role, create_user, drop_role, drop_user, new_account, rename_user, renaming, user_statement}
use Rattle.user_texts.proofs.Lists.{list_again}
use Rattle.user_texts.proofs.Names.{account_again, accounts_again, role_again, roles_again}
use Rattle.user_texts.proofs.Options.{options_again}
use Rattle.user_texts.proofs.Passwords.{altered_again, new_again}
use Rattle.user_texts.proofs.Rules.{from_alter_user, from_create_role, from_create_user, from_drop_role, from_drop_user, from_rename_user, if_exists_again, if_not_exists_again, key}

-- the canonical text spells the statement
abbrev pub IsReadAgain : Statement → Type 0
IsReadAgain s = spells (grammar_of user_statement) (canonical_lexemes s) s

pub create_user_again : (ts : List Lexeme) (s : Statement) → spells (grammar_of create_user) ts s → IsTrue (is_statement s) → IsReadAgain s
unfolding create_user further_tokens is_statement
create_user_again ts s (v, (us, ws, cut, flag, (xs, ys, cut', list, given)), same) kept =
    let flags = tokens_if v.0 (words_of (codes "IF NOT EXISTS")) in
    let accounts = list_tokens new_tokens v.1.0 in
    let options = options_tokens v.1.1 in
    subst IsReadAgain (sym same)
    (from_create_user (printed_lexemes (flags ++ (accounts ++ options))) (CreateUser v.0 v.1.0 v.1.1) (
      v,
      (
        printed_lexemes flags,
        printed_lexemes (accounts ++ options),
        lexemes_append flags (accounts ++ options),
        if_not_exists_again v.0,
        (
          printed_lexemes accounts,
          printed_lexemes options,
          lexemes_append accounts options,
          list_again (spells (grammar_of new_account)) new_tokens new_again v.1.0 xs list,
          options_again v.1.1 (both_right (is_some_list v.1.0) (are_options v.1.1) (sym (ap is_statement same) ∙ kept)),
        ),
      ),
      refl,
    ))

pub alter_user_again : (ts : List Lexeme) (s : Statement) → spells (grammar_of alter_user) ts s → IsTrue (is_statement s) → IsReadAgain s
unfolding alter_user further_tokens is_statement
alter_user_again ts s (v, (xs, ys, cut, list, given), same) kept =
    let accounts = list_tokens altered_tokens v.0 in
    let options = options_tokens v.1 in
    subst IsReadAgain (sym same)
    (from_alter_user (printed_lexemes (accounts ++ options)) (AlterUser v.0 v.1) (
      v,
      (
        printed_lexemes accounts,
        printed_lexemes options,
        lexemes_append accounts options,
        list_again (spells (grammar_of altered_account)) altered_tokens altered_again v.0 xs list,
        options_again v.1 (both_right (is_some_list v.0) (are_options v.1) (sym (ap is_statement same) ∙ kept)),
      ),
      refl,
    ))

pub drop_user_again : (ts : List Lexeme) (s : Statement) → spells (grammar_of drop_user) ts s → IsReadAgain s
unfolding drop_user further_tokens
drop_user_again ts s (v, (xs, ys, cut, flag, list), same) =
    let flags = tokens_if v.0 (words_of (codes "IF EXISTS")) in
    subst IsReadAgain (sym same)
    (from_drop_user (printed_lexemes (flags ++ accounts_tokens v.1)) (DropUser v.0 v.1) (
      v,
      (
        printed_lexemes flags,
        printed_lexemes (accounts_tokens v.1),
        lexemes_append flags (accounts_tokens v.1),
        if_exists_again v.0,
        accounts_again ys v.1 list,
      ),
      refl,
    ))

renaming_again : (ts : List Lexeme) (v : AuthId × AuthId) → spells (grammar_of renaming) ts v → spells (grammar_of renaming) (printed_lexemes (renamed_tokens v)) v
unfolding renaming is
renaming_again ts v (xs, ys, cut, old, (t, us, h, cut', new_name)) = (
  printed_lexemes (account_tokens v.0),
  key (codes "TO") ∷ printed_lexemes (account_tokens v.1),
  lexemes_append (account_tokens v.0) (word (codes "TO") ∷ account_tokens v.1),
  account_again xs v.0 old,
  (key (codes "TO"), printed_lexemes (account_tokens v.1), refl, refl, role_again us v.1 new_name),
)

pub rename_user_again : (ts : List Lexeme) (s : Statement) → spells (grammar_of rename_user) ts s → IsReadAgain s
unfolding rename_user further_tokens
rename_user_again ts s (vs, list, same) =
    subst IsReadAgain (sym same)
    (from_rename_user (printed_lexemes (list_tokens renamed_tokens vs)) (RenameUser vs)
    (vs, list_again (spells (grammar_of renaming)) renamed_tokens renaming_again vs ts list, refl))

pub create_role_again : (ts : List Lexeme) (s : Statement) → spells (grammar_of create_role) ts s → IsReadAgain s
unfolding create_role further_tokens
create_role_again ts s (v, (xs, ys, cut, flag, list), same) =
    let flags = tokens_if v.0 (words_of (codes "IF NOT EXISTS")) in
    subst IsReadAgain (sym same)
    (from_create_role (printed_lexemes (flags ++ accounts_tokens v.1)) (CreateRole v.0 v.1) (
      v,
      (
        printed_lexemes flags,
        printed_lexemes (accounts_tokens v.1),
        lexemes_append flags (accounts_tokens v.1),
        if_not_exists_again v.0,
        roles_again ys v.1 list,
      ),
      refl,
    ))

pub drop_role_again : (ts : List Lexeme) (s : Statement) → spells (grammar_of drop_role) ts s → IsReadAgain s
unfolding drop_role further_tokens
drop_role_again ts s (v, (xs, ys, cut, flag, list), same) =
    let flags = tokens_if v.0 (words_of (codes "IF EXISTS")) in
    subst IsReadAgain (sym same)
    (from_drop_role (printed_lexemes (flags ++ accounts_tokens v.1)) (DropRole v.0 v.1) (
      v,
      (
        printed_lexemes flags,
        printed_lexemes (accounts_tokens v.1),
        lexemes_append flags (accounts_tokens v.1),
        if_exists_again v.0,
        roles_again ys v.1 list,
      ),
      refl,
    ))
