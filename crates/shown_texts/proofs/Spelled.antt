-- Statements whose names keep their rules are spelled by the tokens of their canonical texts.
use Rattle.std.proofs.Common.{◌≡◌, ◌∙◌, ap, sym, refl, ◌⊎◌, ℕ, Bool, true, false, not, ◌&&◌, ◌||◌, List, [], ◌∷◌, ◌++◌, append-nil, append_assoc, inl, inr}
use Rattle.std.proofs.lemmas.Bool.{and_from, and_parts, not-true}
use Rattle.std.specs.List.{list_all}
use Rattle.std.specs.Prelude.{None, codes}
use Rattle.acl_grammar.specs.Spelling.{spells}
use Rattle.acl_names.specs.Text.{is_lower}
use Rattle.acl_names.specs.declared.auth.AuthId.{AuthId}
use Rattle.acl_stmt.specs.Lists.{is_some_list}
use Rattle.acl_stmt.specs.Requests.{have_levels, is_request}
use Rattle.acl_stmt.specs.Statements.{are_roles, is_named, is_statement}
use Rattle.acl_stmt.specs.Targets.{is_target}
use Rattle.acl_stmt.specs.declared.privileges.PrivList.{PrivList}
use Rattle.acl_stmt.specs.declared.statement.Statement.{Statement}
use Rattle.acl_stmt.specs.declared.statement.Statement.TheVariants as statement
use Rattle.acl_stmt.specs.declared.target.Target.{Target}
use Rattle.canonical_texts.proofs.Lexemes.{lexemes_append}
use Rattle.canonical_texts.proofs.SpelledAccounts.{host_spelled}
use Rattle.canonical_texts.specs.Lexemes.{canonical_lexemes}
use Rattle.canonical_texts.specs.Rules.{account_keeps_rules}
use Rattle.canonical_texts.specs.StatementTokens.{further_tokens}
use Rattle.canonical_texts.specs.Tokens.{account_tokens, accounts_tokens, mark, name, opening_word, privileges_tokens, spaced_name, target_tokens, tokens_if, word, words_of}
use Rattle.grant_lex.specs.Printed.{Printed}
use Rattle.grant_parse.specs.Meaning.{MeansStatement, level_fault}
use Rattle.grant_parse.specs.Statements.{SpellsStatement, privilege_rule, semicolon, user_rule}
use Rattle.grant_words.specs.Classes.{is}
use Rattle.grant_words.specs.Lexemes.{printed_lexeme, printed_lexemes}
use Rattle.grant_words.specs.Lists.{accounts, roles}
use Rattle.grant_words.specs.Names.{is_host, is_role_user, is_some_text, is_user, role}
use Rattle.grant_words.specs.Syntax.{grammar_of}
use Rattle.mandatory_roles.proofs.Names.{value_quoted}
use Rattle.priv_items.proofs.OwnItems.{own_items}
use Rattle.priv_items.proofs.OwnItemsFit.{lowered_stays, own_items_fit_target}
use Rattle.priv_items.proofs.WithoutOption.{meant_as_granted}
use Rattle.priv_items.specs.Canonical.{items_of}
use Rattle.priv_items.specs.Grants.{names_grant_option}
use Rattle.priv_sets.specs.Levels.{grant_option}
use Rattle.priv_sets.specs.StaticSet.{holds}
use Rattle.privilege_statements.specs.Statements.{grant, privilege_statement, privileges_on_target, revoke, with_grant_option}
use Rattle.privilege_statements.specs.declared.statement.RawStatement.{RawStatement}
use Rattle.privilege_statements.specs.declared.statement.RawStatement.TheVariants as raw
use Rattle.privilege_texts.proofs.Accounts.{accounts_spelled}
use Rattle.privilege_texts.proofs.Members.{each_kept, list_spelled}
use Rattle.privilege_texts.proofs.Privileges.{privileges_spelled}
use Rattle.privilege_texts.proofs.Targets.{target_spelled}
use Rattle.privilege_texts.specs.Rules.{columns_keep_rules, parts_keep_rules, target_keeps_rules}
use Rattle.shown_texts.specs.Names.{line_names_keep_rules}
use Rattle.user_statements.specs.Flags.{with_admin_option}
use Rattle.user_statements.specs.Statements.{grant_roles, on_grants, user_statement}

-- the tokens of the canonical text spell what means the statement
pub record IsSpelled (s : Statement) : Type 0 where
  pub value : Statement ⊎ RawStatement
  pub spelled : SpellsStatement (canonical_lexemes s) value
  pub fits : level_fault value ≡ None
  pub meant : MeansStatement value s

-- ---- GRANT and REVOKE of privileges

some_accounts : (all : List AuthId) → is_some_list all ≡ true → list_all account_keeps_rules all ≡ true → spells (grammar_of accounts) (printed_lexemes (accounts_tokens all)) all
some_accounts [] some keep = absurd cc
some_accounts (first ∷ others) some keep = accounts_spelled first others keep

on_target_spelled : (list : PrivList) (target : Target) → list_all columns_keep_rules list.columns ≡ true → target_keeps_rules target ≡ true
    → spells (grammar_of privileges_on_target) (printed_lexemes (privileges_tokens list ++ word (codes "ON") ∷ target_tokens target)) (items_of list, target)
unfolding privileges_on_target is
on_target_spelled list target columns keeps = (
  printed_lexemes (privileges_tokens list),
  printed_lexeme (word (codes "ON")) ∷ printed_lexemes (target_tokens target),
  lexemes_append (privileges_tokens list) (word (codes "ON") ∷ target_tokens target),
  privileges_spelled list columns,
  (printed_lexeme (word (codes "ON")), printed_lexemes (target_tokens target), refl, refl, target_spelled target keeps),
)

option_spelled : (given : Bool) → spells (grammar_of with_grant_option) (printed_lexemes (tokens_if given (words_of (codes "WITH GRANT OPTION")))) given
unfolding with_grant_option words_of is
option_spelled true =
    inl (
      printed_lexeme (word (codes "WITH")),
      printed_lexemes (word (codes "GRANT") ∷ word (codes "OPTION") ∷ []),
      refl,
      refl,
      (printed_lexeme (word (codes "GRANT")), printed_lexemes (word (codes "OPTION") ∷ []), refl, refl, (printed_lexeme (word (codes "OPTION")), [], refl, refl, (refl, refl))),
    )
option_spelled false = inr (refl, refl)

-- the tokens behind a target, from the keyword before the accounts on
cut_behind : (first middle rest : List Printed) → printed_lexemes (first ++ (middle ++ rest)) ≡ printed_lexemes (first ++ middle) ++ printed_lexemes rest
cut_behind first middle rest = ap printed_lexemes (sym (append_assoc first middle rest)) ∙ lexemes_append (first ++ middle) rest

-- with no semicolon behind
rule_spelled : (s : Statement) (value : RawStatement) → spells (grammar_of privilege_statement) (canonical_lexemes s) value → SpellsStatement (canonical_lexemes s) (inr value)
unfolding privilege_rule semicolon
rule_spelled s value spelled =
    inr (value, ((value, tt), (canonical_lexemes s, [], sym (append-nil (canonical_lexemes s)), spelled, inr (refl, refl)), refl), refl)

or_none : (a b : Bool) → b ≡ false → (a || b) ≡ a
or_none true b none = refl
or_none false b none = none

module _ (list : PrivList) (target : Target) (all : List AuthId) (keep : parts_keep_rules list.columns target all ≡ true) where
  names_parts : (list_all columns_keep_rules list.columns ≡ true) × (target_keeps_rules target ≡ true) × (list_all account_keeps_rules all ≡ true)
  names_parts =
      let outer = and_parts (list_all columns_keep_rules list.columns && target_keeps_rules target) (list_all account_keeps_rules all) keep in
      let inner = and_parts (list_all columns_keep_rules list.columns) (target_keeps_rules target) outer.0 in
      (inner.0, inner.1, outer.1)

  grant_spelled : (given : Bool) → is_some_list all ≡ true
      → spells (grammar_of privilege_statement) (canonical_lexemes (statement.Grant list target all given)) (raw.Grant (items_of list) target all given)
  unfolding privilege_statement grant further_tokens is
  grant_spelled given some =
      let option : List Printed = tokens_if given (words_of (codes "WITH GRANT OPTION")) in
      inl (
        printed_lexeme (opening_word (codes "GRANT")),
        printed_lexemes (further_tokens (statement.Grant list target all given)),
        refl,
        refl,
        (
          ((items_of list, target), (all, given)),
          (
            printed_lexemes (privileges_tokens list ++ word (codes "ON") ∷ target_tokens target),
            printed_lexeme (word (codes "TO")) ∷ printed_lexemes (accounts_tokens all ++ option),
            cut_behind (privileges_tokens list) (word (codes "ON") ∷ target_tokens target) (word (codes "TO") ∷ (accounts_tokens all ++ option)),
            on_target_spelled list target names_parts.0 names_parts.1,
            (
              printed_lexeme (word (codes "TO")),
              printed_lexemes (accounts_tokens all ++ option),
              refl,
              refl,
              (printed_lexemes (accounts_tokens all), printed_lexemes option, lexemes_append (accounts_tokens all) option, some_accounts all some names_parts.2, option_spelled given),
            ),
          ),
          refl,
        ),
      )

  revoke_spelled : is_some_list all ≡ true → spells (grammar_of privilege_statement) (canonical_lexemes (statement.Revoke list target all)) (raw.Revoke (items_of list) target all)
  unfolding privilege_statement revoke further_tokens is
  revoke_spelled some =
      inr (
        printed_lexeme (opening_word (codes "REVOKE")),
        printed_lexemes (further_tokens (statement.Revoke list target all)),
        refl,
        refl,
        (
          ((items_of list, target), all),
          (
            printed_lexemes (privileges_tokens list ++ word (codes "ON") ∷ target_tokens target),
            printed_lexeme (word (codes "FROM")) ∷ printed_lexemes (accounts_tokens all),
            cut_behind (privileges_tokens list) (word (codes "ON") ∷ target_tokens target) (word (codes "FROM") ∷ accounts_tokens all),
            on_target_spelled list target names_parts.0 names_parts.1,
            (printed_lexeme (word (codes "FROM")), printed_lexemes (accounts_tokens all), refl, refl, some_accounts all some names_parts.2),
          ),
          refl,
        ),
      )

  target_stays : is_request list target ≡ true → is_target target ≡ true
  unfolding is_request
  target_stays request = (and_parts (have_levels list target) (is_target target) request).1

  grant_is : (given : Bool) → is_statement (statement.Grant list target all given) ≡ true → IsSpelled (statement.Grant list target all given)
  unfolding is_statement
  grant_is given legal =
      let outer = and_parts (is_request list target && not (holds list.plain grant_option)) (is_some_list all) legal in
      let inner = and_parts (is_request list target) (not (holds list.plain grant_option)) outer.0 in
      let no_option : holds list.plain grant_option ≡ false = not-true (holds list.plain grant_option) inner.1 in
      let not_named : names_grant_option (items_of list) ≡ false = sym ((own_items list).plain grant_option) ∙ no_option in
      record {
        value = inr (raw.Grant (items_of list) target all given);
        spelled = rule_spelled (statement.Grant list target all given) (raw.Grant (items_of list) target all given) (grant_spelled given outer.1);
        fits = own_items_fit_target list target inner.0;
        meant = (
          list,
          meant_as_granted (items_of list) list (own_items list) no_option,
          sym (λ i. statement.Grant list (lowered_stays target (target_stays inner.0) i) all (or_none given (names_grant_option (items_of list)) not_named i)),
        );
      }

  revoke_is : is_statement (statement.Revoke list target all) ≡ true → IsSpelled (statement.Revoke list target all)
  unfolding is_statement
  revoke_is legal =
      let parts = and_parts (is_request list target) (is_some_list all) legal in
      record {
        value = inr (raw.Revoke (items_of list) target all);
        spelled = rule_spelled (statement.Revoke list target all) (raw.Revoke (items_of list) target all) (revoke_spelled parts.1);
        fits = own_items_fit_target list target parts.0;
        meant = (list, own_items list, sym (λ i. statement.Revoke list (lowered_stays target (target_stays parts.0) i) all));
      }

-- ---- GRANT of roles

some_user : (user : List ℕ) → is_some_list user ≡ true → is_some_text user ≡ true
some_user [] some = some
some_user (b ∷ bs) some = refl

-- a role as a statement may name it
is_role : AuthId → Bool
is_role one = is_named one && account_keeps_rules one

role_spelled : (one : AuthId) → is_role one ≡ true → spells (grammar_of role) (printed_lexemes (account_tokens one)) one
unfolding role is is_role
role_spelled one keeps =
    let parts = and_parts (is_named one) (account_keeps_rules one) keeps in
    let outer = and_parts (is_user one.user && is_host one.host) (is_lower one.host) parts.1 in
    let inner = and_parts (is_user one.user) (is_host one.host) outer.0 in (
      (one.user, one.host),
      (
        printed_lexeme (spaced_name one.user) ∷ [],
        printed_lexeme (mark 64) ∷ printed_lexeme (name one.host) ∷ [],
        refl,
        (
          printed_lexeme (spaced_name one.user),
          ap is_role_user (value_quoted one.user) ∙ and_from (is_some_text one.user) (is_user one.user) (some_user one.user parts.0) inner.0,
          refl,
          sym (value_quoted one.user),
        ),
        host_spelled one.host inner.1 outer.1,
      ),
      refl,
    )

both_all : (xs : List AuthId) → list_all is_named xs ≡ true → list_all account_keeps_rules xs ≡ true → list_all is_role xs ≡ true
unfolding is_role
both_all [] named keep = refl
both_all (x ∷ xs) named keep =
    let first = and_parts (is_named x) (list_all is_named xs) named in
    let second = and_parts (account_keeps_rules x) (list_all account_keeps_rules xs) keep in
    and_from (is_role x) (list_all is_role xs) (and_from (is_named x) (account_keeps_rules x) first.0 second.0) (both_all xs first.1 second.1)

roles_spelled : (all : List AuthId) → is_some_list all ≡ true → list_all is_named all ≡ true → list_all account_keeps_rules all ≡ true
    → spells (grammar_of roles) (printed_lexemes (accounts_tokens all)) all
unfolding roles
roles_spelled [] some named keep = absurd cc
roles_spelled (first ∷ others) some named keep =
    list_spelled account_tokens (spells (grammar_of role)) first others first others
    (each_kept (λ x v. spells (grammar_of role) (printed_lexemes (account_tokens x)) v) is_role role_spelled (first ∷ others) (both_all (first ∷ others) named keep))

admin_spelled : (given : Bool) → spells (grammar_of with_admin_option) (printed_lexemes (tokens_if given (words_of (codes "WITH ADMIN OPTION")))) given
unfolding with_admin_option words_of is
admin_spelled true =
    inl (
      printed_lexeme (word (codes "WITH")),
      printed_lexemes (word (codes "ADMIN") ∷ word (codes "OPTION") ∷ []),
      refl,
      refl,
      (printed_lexeme (word (codes "ADMIN")), printed_lexemes (word (codes "OPTION") ∷ []), refl, refl, (printed_lexeme (word (codes "OPTION")), [], refl, refl, (refl, refl))),
    )
admin_spelled false = inr (refl, refl)

roles_granted : (granted all : List AuthId) (given : Bool) → is_some_list granted ≡ true → list_all is_named granted ≡ true → list_all account_keeps_rules granted ≡ true
    → is_some_list all ≡ true → list_all account_keeps_rules all ≡ true
    → spells (grammar_of user_statement) (canonical_lexemes (statement.GrantRoles granted all given)) (statement.GrantRoles granted all given)
unfolding user_statement on_grants grant_roles further_tokens is
roles_granted granted all given some named keep some_all keep_all =
    let option : List Printed = tokens_if given (words_of (codes "WITH ADMIN OPTION")) in
    inr
    (inr
    (inr
    (inr
    (inl (
      printed_lexeme (opening_word (codes "GRANT")),
      printed_lexemes (further_tokens (statement.GrantRoles granted all given)),
      refl,
      refl,
      (
        (granted, (all, given)),
        (
          printed_lexemes (accounts_tokens granted),
          printed_lexeme (word (codes "TO")) ∷ printed_lexemes (accounts_tokens all ++ option),
          lexemes_append (accounts_tokens granted) (word (codes "TO") ∷ (accounts_tokens all ++ option)),
          roles_spelled granted some named keep,
          (
            printed_lexeme (word (codes "TO")),
            printed_lexemes (accounts_tokens all ++ option),
            refl,
            refl,
            (printed_lexemes (accounts_tokens all), printed_lexemes option, lexemes_append (accounts_tokens all) option, some_accounts all some_all keep_all, admin_spelled given),
          ),
        ),
        refl,
      ),
    )))))

user_spelled : (s : Statement) → spells (grammar_of user_statement) (canonical_lexemes s) s → SpellsStatement (canonical_lexemes s) (inl s)
unfolding user_rule semicolon
user_spelled s spelled = inl (s, ((s, tt), (canonical_lexemes s, [], sym (append-nil (canonical_lexemes s)), spelled, inr (refl, refl)), refl), refl)

roles_are : (granted all : List AuthId) (given : Bool) → is_statement (statement.GrantRoles granted all given) ≡ true
    → (list_all account_keeps_rules granted && list_all account_keeps_rules all) ≡ true → IsSpelled (statement.GrantRoles granted all given)
unfolding is_statement
roles_are granted all given legal keep =
    let parts = and_parts (are_roles granted) (is_some_list all) legal in
    let roles_parts = and_parts (is_some_list granted) (list_all is_named granted) parts.0 in
    let names = and_parts (list_all account_keeps_rules granted) (list_all account_keeps_rules all) keep in
    record {
      value = inl (statement.GrantRoles granted all given);
      spelled = user_spelled (statement.GrantRoles granted all given) (roles_granted granted all given roles_parts.0 roles_parts.1 names.0 parts.1 names.1);
      fits = refl;
      meant = refl;
    }

-- ---- lines

pub line_spelled : (s : Statement) → is_statement s ≡ true → line_names_keep_rules s ≡ true → IsSpelled s
line_spelled (statement.Grant list target all given) legal keep = grant_is list target all keep given legal
line_spelled (statement.Revoke list target all) legal keep = revoke_is list target all keep legal
line_spelled (statement.GrantRoles granted all given) legal keep = roles_are granted all given legal keep
line_spelled s legal keep = absurd cc
