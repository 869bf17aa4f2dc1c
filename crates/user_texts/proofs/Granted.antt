-- Statements on what is granted are read back.
use Rattle.std.proofs.Common.{List, [], ◌∷◌, ◌++◌, inl, inr, refl, sym, subst}
use Rattle.std.specs.Prelude.{codes}
use Rattle.acl_grammar.specs.Spelling.{spells}
use Rattle.acl_stmt.specs.declared.roles.DefaultForm.{DefaultForm}
use Rattle.acl_stmt.specs.declared.statement.Statement.{Statement}
use Rattle.acl_stmt.specs.declared.statement.Statement.TheVariants.{GrantRoles, RevokeAll, RevokeRoles, SetDefaultRole}
use Rattle.canonical_texts.proofs.Lexemes.{lexemes_append}
use Rattle.canonical_texts.specs.StatementTokens.{default_tokens, further_tokens}
use Rattle.canonical_texts.specs.Tokens.{accounts_tokens, mark, tokens_if, word, words_of}
use Rattle.grant_words.specs.Classes.{is}
use Rattle.grant_words.specs.Lexemes.{printed_lexeme, printed_lexemes}
use Rattle.grant_words.specs.Syntax.{grammar_of}
use Rattle.grant_words.specs.declared.lexeme.Lexeme.{Lexeme}
use Rattle.user_statements.specs.Statements.{default_form, grant_roles, maybe_privileges, revoke_all, revoke_roles, set_default_role}
use Rattle.user_texts.proofs.Names.{accounts_again, roles_again}
use Rattle.user_texts.proofs.Rules.{admin_option_again, from_default_role, from_grant, from_revoke, from_revoke_all, key}
use Rattle.user_texts.proofs.Users.{IsReadAgain}

pub grant_again : (ts : List Lexeme) (s : Statement) → spells (grammar_of grant_roles) ts s → IsReadAgain s
unfolding grant_roles further_tokens is
grant_again ts s (v, (xs, ys, cut, granted, (t, us, h, cut', (ws, zs, cut'', holders, option))), same) =
    let roles = accounts_tokens v.0 in
    let accounts = accounts_tokens v.1.0 in
    let flags = tokens_if v.1.1 (words_of (codes "WITH ADMIN OPTION")) in
    subst IsReadAgain (sym same)
    (from_grant (printed_lexemes (roles ++ word (codes "TO") ∷ (accounts ++ flags))) (GrantRoles v.0 v.1.0 v.1.1) (
      v,
      (
        printed_lexemes roles,
        key (codes "TO") ∷ printed_lexemes (accounts ++ flags),
        lexemes_append roles (word (codes "TO") ∷ (accounts ++ flags)),
        roles_again xs v.0 granted,
        (
          key (codes "TO"),
          printed_lexemes (accounts ++ flags),
          refl,
          refl,
          (printed_lexemes accounts, printed_lexemes flags, lexemes_append accounts flags, accounts_again ws v.1.0 holders, admin_option_again v.1.1),
        ),
      ),
      refl,
    ))

privileges_word : spells (grammar_of maybe_privileges) (key (codes "PRIVILEGES") ∷ []) tt
unfolding maybe_privileges is
privileges_word = inl (key (codes "PRIVILEGES"), [], refl, refl, (refl, refl))

pub revoke_all_again : (ts : List Lexeme) (s : Statement) → spells (grammar_of revoke_all) ts s → IsReadAgain s
unfolding revoke_all further_tokens is
revoke_all_again ts s (v, (xs, ys, cut, written, (t1, u1, h1, c1, (t2, u2, h2, c2, (t3, u3, h3, c3, (t4, u4, h4, c4, list))))), same) =
    let holders = printed_lexemes (accounts_tokens v.1) in
    let from = key (codes "FROM") ∷ holders in
    let option = key (codes "OPTION") ∷ from in
    let grant = key (codes "GRANT") ∷ option in
    let behind = printed_lexeme (mark 44) ∷ grant in
    subst IsReadAgain (sym same)
    (from_revoke_all (key (codes "PRIVILEGES") ∷ behind) (RevokeAll v.1) (
      (tt, v.1),
      (
        key (codes "PRIVILEGES") ∷ [],
        behind,
        refl,
        privileges_word,
        (
          printed_lexeme (mark 44),
          grant,
          refl,
          refl,
          (
            key (codes "GRANT"),
            option,
            refl,
            refl,
            (
              key (codes "OPTION"),
              from,
              refl,
              refl,
              (key (codes "FROM"), holders, refl, refl, accounts_again u4 v.1 list),
            ),
          ),
        ),
      ),
      refl,
    ))

pub revoke_again : (ts : List Lexeme) (s : Statement) → spells (grammar_of revoke_roles) ts s → IsReadAgain s
unfolding revoke_roles further_tokens is
revoke_again ts s (v, (xs, ys, cut, granted, (t, us, h, cut', holders)), same) =
    let roles = accounts_tokens v.0 in
    let accounts = accounts_tokens v.1 in
    subst IsReadAgain (sym same)
    (from_revoke (printed_lexemes (roles ++ word (codes "FROM") ∷ accounts)) (RevokeRoles v.0 v.1) (
      v,
      (
        printed_lexemes roles,
        key (codes "FROM") ∷ printed_lexemes accounts,
        lexemes_append roles (word (codes "FROM") ∷ accounts),
        roles_again xs v.0 granted,
        (key (codes "FROM"), printed_lexemes accounts, refl, refl, accounts_again us v.1 holders),
      ),
      refl,
    ))

abbrev IsFormReadBack : DefaultForm → Type 0
IsFormReadBack v = spells (grammar_of default_form) (printed_lexemes (default_tokens v)) v

form_again : (ts : List Lexeme) (v : DefaultForm) → spells (grammar_of default_form) ts v → IsFormReadBack v
unfolding default_form is
form_again ts v (inl (t, us, h, cut, (none, same))) =
    subst IsFormReadBack (sym same) (inl (key (codes "NONE"), [], refl, refl, (refl, refl)))
form_again ts v (inr (inl (t, us, h, cut, (none, same)))) =
    subst IsFormReadBack (sym same) (inr (inl (key (codes "ALL"), [], refl, refl, (refl, refl))))
form_again ts v (inr (inr (vs, list, same))) = subst IsFormReadBack (sym same) (inr (inr (vs, roles_again ts vs list, refl)))

pub default_role_again : (ts : List Lexeme) (s : Statement) → spells (grammar_of set_default_role) ts s → IsReadAgain s
unfolding set_default_role further_tokens is
default_role_again ts s (v, (xs, ys, cut, form, (t, us, h, cut', holders)), same) =
    let forms = default_tokens v.0 in
    let accounts = accounts_tokens v.1 in
    subst IsReadAgain (sym same)
    (from_default_role (printed_lexemes (forms ++ word (codes "TO") ∷ accounts)) (SetDefaultRole v.0 v.1) (
      v,
      (
        printed_lexemes forms,
        key (codes "TO") ∷ printed_lexemes accounts,
        lexemes_append forms (word (codes "TO") ∷ accounts),
        form_again xs v.0 form,
        (key (codes "TO"), printed_lexemes accounts, refl, refl, accounts_again us v.1 holders),
      ),
      refl,
    ))
