-- The names of rows keep their rules through accepted statements whose names do.
use Rattle.std.proofs.Common.{◌≡◌, ◌∙◌, ap, sym, refl, ℕ, ◌==◌, Bool, true, false, not, ◌&&◌, ◌||◌, List, [], ◌∷◌, Option, Some, None, inl, inr}
use Rattle.std.proofs.lemmas.Bool.{and_from, and_parts, or_cases, or_left, or_right}
use Rattle.std.specs.List.{list_all, list_any}
use Rattle.std.specs.Str.{chars}
use Rattle.account_match.specs.Form.{form_of}
use Rattle.acl_names.proofs.SameAuth.{equal_from_same_auth, equal_from_text_eq, same_auth_itself}
use Rattle.acl_names.specs.AuthId.{same_auth}
use Rattle.acl_names.specs.Text.{text_eq}
use Rattle.acl_names.specs.declared.auth.AuthId.{AuthId}
use Rattle.accepted_lists.proofs.Known.{accounts_after, accounts_opening}
use Rattle.accepted_lists.proofs.Named.{never}
use Rattle.accepted_lists.proofs.Renamed.{Pairs, passes_kept, was}
use Rattle.accepted_lists.proofs.Standing.{given_stands}
use Rattle.accepted_lists.specs.Accepted.{AreAccepted}
use Rattle.accepted_lists.specs.Standing.{HasItsAccounts}
use Rattle.acl_model.specs.Acceptance.{IsAccepted}
use Rattle.acl_model.specs.Effects.{after, becomes, changed, gives, state_after, stood_before, takes}
use Rattle.acl_model.specs.Refusals.{first_fault}
use Rattle.acl_model.specs.Renames.{name_before, one_name, two_names}
use Rattle.acl_model.specs.Rows.{lists, some_name}
use Rattle.acl_model.specs.State.{State, opening, root}
use Rattle.acl_model.specs.Words.{creates, grants, grants_column, limited, names_column, revokes, same_target}
use Rattle.acl_model.specs.declared.row.Row.{Row}
use Rattle.acl_model.specs.declared.row.Row.TheVariants.{Account, Global, Dynamic, DynamicGrant, Schema, Table, Column, Function, Procedure, Edge, Admin, Default, Restriction}
use Rattle.acl_stmt.specs.declared.columns.ColumnPriv.{ColumnPriv}
use Rattle.acl_stmt.specs.declared.entry.Entry.{Entry}
use Rattle.acl_stmt.specs.declared.limit.Limit.{Limit}
use Rattle.acl_stmt.specs.declared.statement.Statement.{Statement}
use Rattle.acl_stmt.specs.declared.statement.Statement.TheVariants.{CreateRole, CreateUser, Grant, RenameUser, Revoke}
use Rattle.acl_stmt.specs.declared.target.Target.{Target}
use Rattle.acl_stmt.specs.declared.target.Target.TheVariants as on
use Rattle.canonical_texts.specs.Rules.{account_keeps_rules}
use Rattle.grant_words.specs.Classes.{is_identifier}
use Rattle.priv_sets.specs.StaticSet.{holds}
use Rattle.privilege_texts.specs.Rules.{columns_keep_rules, parts_keep_rules, target_keeps_rules}
use Rattle.shown_texts.specs.Names.{NamesKeepRules, entry_names_keep_rules, row_names_keep_rules, statement_names_keep_rules}

-- ---- accounts

listed_keeps : (roles : List AuthId) (a : AuthId) → list_all account_keeps_rules roles ≡ true → lists roles a ≡ true → account_keeps_rules a ≡ true
listed_keeps [] a all listed = never listed
listed_keeps (r ∷ roles) a all listed =
    let parts = and_parts (account_keeps_rules r) (list_all account_keeps_rules roles) all in
    elim (or_cases (same_auth a r) (lists roles a) listed) [
      | inl same ↦ ap account_keeps_rules (equal_from_same_auth a r same) ∙ parts.0
      | inr later ↦ listed_keeps roles a parts.1 later
    ]

first_keeps : {B : Type 0} (pairs : List (AuthId × B)) (a : AuthId) → list_all (λ pair. account_keeps_rules pair.0) pairs ≡ true → list_any (λ pair. same_auth a pair.0) pairs ≡ true → account_keeps_rules a ≡ true
first_keeps [] a all listed = never listed
first_keeps (pair ∷ pairs) a all listed =
    let parts = and_parts (account_keeps_rules pair.0) (list_all (λ p. account_keeps_rules p.0) pairs) all in
    elim (or_cases (same_auth a pair.0) (list_any (λ p. same_auth a p.0) pairs) listed) [
      | inl same ↦ ap account_keeps_rules (equal_from_same_auth a pair.0 same) ∙ parts.0
      | inr later ↦ first_keeps pairs a parts.1 later
    ]

created_keeps : (s : Statement) (a : AuthId) → statement_names_keep_rules s ≡ true → creates s a ≡ true → account_keeps_rules a ≡ true
created_keeps (CreateUser if_not_exists accounts options) a keep created = first_keeps accounts a keep created
created_keeps (CreateRole if_not_exists roles) a keep created = listed_keeps roles a keep created
created_keeps s a keep created = cc

-- ---- what privileges are on

equal_target : (t u : Target) → same_target t u ≡ true → t ≡ u
equal_target on.Global on.Global same = refl
equal_target (on.Schema s) (on.Schema t) same = ap on.Schema (equal_from_text_eq s t same)
equal_target (on.Table s t) (on.Table u v) same =
    let parts = and_parts (text_eq s u) (text_eq t v) same in
    ap (λ (x : List ℕ). on.Table x t) (equal_from_text_eq s u parts.0) ∙ ap (on.Table u) (equal_from_text_eq t v parts.1)
equal_target (on.Function s f) (on.Function u g) same =
    let parts = and_parts (text_eq s u) (text_eq f g) same in
    ap (λ (x : List ℕ). on.Function x f) (equal_from_text_eq s u parts.0) ∙ ap (on.Function u) (equal_from_text_eq f g parts.1)
equal_target (on.Procedure s f) (on.Procedure u g) same =
    let parts = and_parts (text_eq s u) (text_eq f g) same in
    ap (λ (x : List ℕ). on.Procedure x f) (equal_from_text_eq s u parts.0) ∙ ap (on.Procedure u) (equal_from_text_eq f g parts.1)
equal_target _ _ same = cc

target_part : (columns : List ColumnPriv) (target : Target) (accounts : List AuthId) → parts_keep_rules columns target accounts ≡ true
    → (list_all columns_keep_rules columns ≡ true) × (target_keeps_rules target ≡ true)
target_part columns target accounts keep =
    and_parts (list_all columns_keep_rules columns) (target_keeps_rules target)
    (and_parts (list_all columns_keep_rules columns && target_keeps_rules target) (list_all account_keeps_rules accounts) keep).0

at_keeps : (target at : Target) (rest : Bool) → (same_target target at && rest) ≡ true → target_keeps_rules target ≡ true → target_keeps_rules at ≡ true
at_keeps target at rest same keep = sym (ap target_keeps_rules (equal_target target at (and_parts (same_target target at) rest same).0)) ∙ keep

granted_at : (s : Statement) (at : Target) (a : AuthId) (p : ℕ) → statement_names_keep_rules s ≡ true → grants s at a p ≡ true → target_keeps_rules at ≡ true
granted_at (Grant privileges target accounts option) at a p keep granted =
    at_keeps target at (lists accounts a) (and_parts (same_target target at && lists accounts a) _ granted).0 (target_part privileges.columns target accounts keep).1
granted_at s at a p keep granted = cc

revoked_at : (s : Statement) (at : Target) (a : AuthId) (p : ℕ) → statement_names_keep_rules s ≡ true → revokes s at a p ≡ true → target_keeps_rules at ≡ true
revoked_at (Revoke privileges target accounts) at a p keep revoked =
    at_keeps target at (lists accounts a) (and_parts (same_target target at && lists accounts a) _ revoked).0 (target_part privileges.columns target accounts keep).1
revoked_at s at a p keep revoked = cc

named_keeps : (c : List ℕ) (names : List (List ℕ)) → list_all is_identifier names ≡ true → list_any (text_eq c) names ≡ true → is_identifier c ≡ true
named_keeps c [] all named = never named
named_keeps c (n ∷ names) all named =
    let parts = and_parts (is_identifier n) (list_all is_identifier names) all in
    elim (or_cases (text_eq c n) (list_any (text_eq c) names) named) [
      | inl same ↦ ap is_identifier (equal_from_text_eq c n same) ∙ parts.0
      | inr later ↦ named_keeps c names parts.1 later
    ]

column_keeps : (columns : List ColumnPriv) (p : ℕ) (c : List ℕ) → list_all columns_keep_rules columns ≡ true → list_any (λ l. l.privilege == p && list_any (text_eq c) l.names) columns ≡ true
    → is_identifier c ≡ true
column_keeps [] p c all named = never named
column_keeps (l ∷ columns) p c all named =
    let parts = and_parts (columns_keep_rules l) (list_all columns_keep_rules columns) all in
    elim (or_cases (l.privilege == p && list_any (text_eq c) l.names) (list_any (λ x. x.privilege == p && list_any (text_eq c) x.names) columns) named) [
      | inl here ↦ named_keeps c l.names parts.0 (and_parts (l.privilege == p) (list_any (text_eq c) l.names) here).1
      | inr later ↦ column_keeps columns p c parts.1 later
    ]

column_at : (s : Statement) (at : Target) (a : AuthId) (c : List ℕ) (p : ℕ) → statement_names_keep_rules s ≡ true → grants_column s at a c p ≡ true
    → (target_keeps_rules at ≡ true) × (is_identifier c ≡ true)
column_at (Grant privileges target accounts option) at a c p keep granted =
    let rules = target_part privileges.columns target accounts keep in
    let parts = and_parts (same_target target at && lists accounts a) (names_column privileges p c) granted in
    (at_keeps target at (lists accounts a) parts.0 rules.1, column_keeps privileges.columns p c rules.0 parts.1)
column_at s at a c p keep granted = cc

limited_keeps : (limits : List Limit) (schema : List ℕ) (p : ℕ) → list_all (λ limit. is_identifier limit.schema) limits ≡ true → limited limits schema p ≡ true → is_identifier schema ≡ true
limited_keeps [] schema p all is = never is
limited_keeps (limit ∷ limits) schema p all is =
    let parts = and_parts (is_identifier limit.schema) (list_all (λ x. is_identifier x.schema) limits) all in
    elim (or_cases (text_eq schema limit.schema && holds limit.privileges p) (limited limits schema p) is) [
      | inl here ↦ ap is_identifier (equal_from_text_eq schema limit.schema (and_parts (text_eq schema limit.schema) (holds limit.privileges p) here).0) ∙ parts.0
      | inr later ↦ limited_keeps limits schema p parts.1 later
    ]

-- ---- rows that are given

with_pair : (x y z : Bool) → x ≡ true → (y && z) ≡ true → (x && y && z) ≡ true
with_pair true y z first second = second
with_pair false y z first second = never first

module _ (state : State) (accounts : HasItsAccounts state) (keep : NamesKeepRules state) (limits : List Limit) (s : Statement) (none : first_fault state s ≡ None)
    (names : statement_names_keep_rules s ≡ true) (limit_names : list_all (λ limit. is_identifier limit.schema) limits ≡ true) where
  -- an account that a given row names
  account_given : (row : Row) (a : AuthId) → gives limits s state row ≡ true → some_name (same_auth a) row ≡ true → account_keeps_rules a ≡ true
  account_given row a given named =
      elim (given_stands state accounts limits s none row a given named) [
        | inl created ↦ created_keeps s a names created
        | inr there ↦ keep.each (Account a) there
      ]

  left_name : (x y : AuthId) → (same_auth x x || same_auth x y) ≡ true
  left_name x y = or_left (same_auth x x) (same_auth x y) (same_auth_itself x)

  right_name : (x y : AuthId) → (same_auth y x || same_auth y y) ≡ true
  right_name x y = or_right (same_auth y x) (same_auth y y) (same_auth_itself y)

  given_keeps : (row : Row) → gives limits s state row ≡ true → row_names_keep_rules row ≡ true
  given_keeps (Account a) given = account_given (Account a) a given (same_auth_itself a)
  given_keeps (Global a p) given = account_given (Global a p) a given (same_auth_itself a)
  given_keeps (Dynamic a d) given = account_given (Dynamic a d) a given (same_auth_itself a)
  given_keeps (DynamicGrant a d) given = account_given (DynamicGrant a d) a given (same_auth_itself a)
  given_keeps (Schema a u p) given =
      and_from (account_keeps_rules a) (is_identifier u) (account_given (Schema a u p) a given (same_auth_itself a))
      (granted_at s (on.Schema u) a p names (and_parts (grants s (on.Schema u) a p) (not (state.rows (Restriction a p u))) given).0)
  given_keeps (Table a u t p) given =
      with_pair (account_keeps_rules a) (is_identifier u) (is_identifier t) (account_given (Table a u t p) a given (same_auth_itself a)) (granted_at s (on.Table u t) a p names given)
  given_keeps (Column a u t c p) given =
      let both = column_at s (on.Table u t) a c p names given in
      and_from (account_keeps_rules a && is_identifier u && is_identifier t) (is_identifier c)
      (with_pair (account_keeps_rules a) (is_identifier u) (is_identifier t) (account_given (Column a u t c p) a given (same_auth_itself a)) both.0) both.1
  given_keeps (Function a u f p) given =
      with_pair (account_keeps_rules a) (is_identifier u) (is_identifier f) (account_given (Function a u f p) a given (same_auth_itself a)) (granted_at s (on.Function u f) a p names given)
  given_keeps (Procedure a u f p) given =
      with_pair (account_keeps_rules a) (is_identifier u) (is_identifier f) (account_given (Procedure a u f p) a given (same_auth_itself a)) (granted_at s (on.Procedure u f) a p names given)
  given_keeps (Edge r a) given =
      and_from (account_keeps_rules r) (account_keeps_rules a) (account_given (Edge r a) r given (left_name r a)) (account_given (Edge r a) a given (right_name r a))
  given_keeps (Admin r a) given =
      and_from (account_keeps_rules r) (account_keeps_rules a) (account_given (Admin r a) r given (left_name r a)) (account_given (Admin r a) a given (right_name r a))
  given_keeps (Default a r) given =
      and_from (account_keeps_rules a) (account_keeps_rules r) (account_given (Default a r) a given (left_name a r)) (account_given (Default a r) r given (right_name a r))
  given_keeps (Restriction a p u) given =
      let handed : Bool = grants s on.Global a p && limited limits u p in
      and_from (account_keeps_rules a) (is_identifier u) (account_given (Restriction a p u) a given (same_auth_itself a))
      (elim (or_cases (revokes s (on.Schema u) a p && state.rows (Global a p)) (handed && not (state.rows (Global a p)) && not (state.rows (Schema a u p))) given) [
        | inl revoked ↦ revoked_at s (on.Schema u) a p names (and_parts (revokes s (on.Schema u) a p) (state.rows (Global a p)) revoked).0
        | inr granted ↦
            limited_keeps limits u p limit_names
            (and_parts (grants s on.Global a p) (limited limits u p)
            (and_parts handed (not (state.rows (Global a p))) (and_parts (handed && not (state.rows (Global a p))) (not (state.rows (Schema a u p))) granted).0).0).1
      ])

-- ---- rows that stood before

swap_first : (x y z : Bool) → (x ≡ true → y ≡ true) → (x && z) ≡ true → (y && z) ≡ true
swap_first x y z more both = let parts = and_parts x z both in and_from y z (more parts.0) parts.1

swap_first_of_three : (x y z w : Bool) → (x ≡ true → y ≡ true) → (x && z && w) ≡ true → (y && z && w) ≡ true
swap_first_of_three x y z w more both = let parts = and_parts (x && z) w both in and_from (y && z) w (swap_first x y z more parts.0) parts.1

swap_first_of_four : (x y z w v : Bool) → (x ≡ true → y ≡ true) → (x && z && w && v) ≡ true → (y && z && w && v) ≡ true
swap_first_of_four x y z w v more both = let parts = and_parts (x && z && w) v both in and_from (y && z && w) v (swap_first_of_three x y z w more parts.0) parts.1

module _ (pairs : Pairs) (state : State) (keep : NamesKeepRules state) (names : list_all (λ pair. account_keeps_rules pair.1) pairs ≡ true) where
  one_keeps : (row : AuthId → Row) → ((x y : AuthId) → (account_keeps_rules x ≡ true → account_keeps_rules y ≡ true) → row_names_keep_rules (row x) ≡ true → row_names_keep_rules (row y) ≡ true)
      → (a : AuthId) (o : Option AuthId) → name_before pairs a ≡ o → was state (one_name row o) ≡ true → row_names_keep_rules (row a) ≡ true
  one_keeps row swap a None is stood = never stood
  one_keeps row swap a (Some x) is stood = swap x a (λ known. passes_kept account_keeps_rules pairs a x names known is) (keep.each (row x) stood)

  two_keep : (row : AuthId → AuthId → Row) → ((x y : AuthId) → row_names_keep_rules (row x y) ≡ (account_keeps_rules x && account_keeps_rules y))
      → (a b : AuthId) (o u : Option AuthId) → name_before pairs a ≡ o → name_before pairs b ≡ u → was state (two_names row o u) ≡ true → row_names_keep_rules (row a b) ≡ true
  two_keep row both a b None u first second stood = never stood
  two_keep row both a b (Some x) None first second stood = never stood
  two_keep row both a b (Some x) (Some y) first second stood =
      let parts = and_parts (account_keeps_rules x) (account_keeps_rules y) (sym (both x y) ∙ keep.each (row x y) stood) in
      both a b
      ∙ and_from (account_keeps_rules a) (account_keeps_rules b) (passes_kept account_keeps_rules pairs a x names parts.0 first) (passes_kept account_keeps_rules pairs b y names parts.1 second)

  renamed_keeps : (row : Row) → stood_before (RenameUser pairs) state row ≡ true → row_names_keep_rules row ≡ true
  renamed_keeps (Account a) stood = one_keeps Account (λ x y more. more) a (name_before pairs a) refl stood
  renamed_keeps (Global a p) stood = one_keeps (λ x. Global x p) (λ x y more. more) a (name_before pairs a) refl stood
  renamed_keeps (Dynamic a d) stood = one_keeps (λ x. Dynamic x d) (λ x y more. more) a (name_before pairs a) refl stood
  renamed_keeps (DynamicGrant a d) stood = one_keeps (λ x. DynamicGrant x d) (λ x y more. more) a (name_before pairs a) refl stood
  renamed_keeps (Schema a s p) stood = one_keeps (λ x. Schema x s p) (λ x y more. swap_first (account_keeps_rules x) (account_keeps_rules y) (is_identifier s) more) a (name_before pairs a) refl stood
  renamed_keeps (Table a s t p) stood =
      one_keeps (λ x. Table x s t p) (λ x y more. swap_first_of_three (account_keeps_rules x) (account_keeps_rules y) (is_identifier s) (is_identifier t) more) a (name_before pairs a) refl stood
  renamed_keeps (Column a s t c p) stood =
      one_keeps (λ x. Column x s t c p) (λ x y more. swap_first_of_four (account_keeps_rules x) (account_keeps_rules y) (is_identifier s) (is_identifier t) (is_identifier c) more) a (name_before pairs a) refl stood
  renamed_keeps (Function a s f p) stood =
      one_keeps (λ x. Function x s f p) (λ x y more. swap_first_of_three (account_keeps_rules x) (account_keeps_rules y) (is_identifier s) (is_identifier f) more) a (name_before pairs a) refl stood
  renamed_keeps (Procedure a s f p) stood =
      one_keeps (λ x. Procedure x s f p) (λ x y more. swap_first_of_three (account_keeps_rules x) (account_keeps_rules y) (is_identifier s) (is_identifier f) more) a (name_before pairs a) refl stood
  renamed_keeps (Edge r a) stood = two_keep Edge (λ x y. refl) r a (name_before pairs r) (name_before pairs a) refl refl stood
  renamed_keeps (Admin r a) stood = two_keep Admin (λ x y. refl) r a (name_before pairs r) (name_before pairs a) refl refl stood
  renamed_keeps (Default a r) stood = two_keep Default (λ x y. refl) a r (name_before pairs a) (name_before pairs r) refl refl stood
  renamed_keeps (Restriction a p s) stood =
      one_keeps (λ x. Restriction x p s) (λ x y more. swap_first (account_keeps_rules x) (account_keeps_rules y) (is_identifier s) more) a (name_before pairs a) refl stood

stood_keeps : (s : Statement) (state : State) → NamesKeepRules state → statement_names_keep_rules s ≡ true → (row : Row) → stood_before s state row ≡ true → row_names_keep_rules row ≡ true
stood_keeps (RenameUser pairs) state keep names row stood = renamed_keeps pairs state keep names row stood
stood_keeps s state keep names row stood = keep.each row stood

-- ---- accepted statements

names_changed : (state : State) → HasItsAccounts state → NamesKeepRules state → (limits : List Limit) (s : Statement) → first_fault state s ≡ None → statement_names_keep_rules s ≡ true
    → list_all (λ limit. is_identifier limit.schema) limits ≡ true → NamesKeepRules (changed limits s state)
unfolding changed becomes
names_changed state accounts keep limits s none names limit_names = record {
  each = λ row stands. elim (or_cases (gives limits s state row) (stood_before s state row && not (takes limits s row)) stands) [
    | inl given ↦ given_keeps state accounts keep limits s none names limit_names row given
    | inr stays ↦ stood_keeps s state keep names row (and_parts (stood_before s state row) (not (takes limits s row)) stays).0
  ];
}

names_after : (state : State) (entry : Entry) → HasItsAccounts state → NamesKeepRules state → entry_names_keep_rules entry ≡ true → IsAccepted state entry → NamesKeepRules (after entry state)
unfolding after
names_after state entry accounts keep names accepted =
    let parts = and_parts (statement_names_keep_rules entry.statement) (list_all (λ limit. is_identifier limit.schema) entry.limits) names in
    names_changed state accounts keep entry.limits entry.statement accepted.feasible.no_fault parts.0 parts.1

names_from : (history : List Entry) (state : State) → HasItsAccounts state → NamesKeepRules state → list_all entry_names_keep_rules history ≡ true → AreAccepted history state
    → NamesKeepRules (state_after history state)
unfolding state_after
names_from [] state accounts keep names accepted = keep
names_from (entry ∷ history) state accounts keep names accepted =
    let parts = and_parts (entry_names_keep_rules entry) (list_all entry_names_keep_rules history) names in
    names_from history (after entry state) (accounts_after state entry accounts accepted.0) (names_after state entry accounts keep parts.0 accepted.0) parts.1 accepted.1

root_keeps : account_keeps_rules root ≡ true
unfolding chars form_of
root_keeps = refl

opening_keeps : (row : Row) → opening.rows row ≡ true → row_names_keep_rules row ≡ true
opening_keeps (Account a) stands = ap account_keeps_rules (equal_from_same_auth a root stands) ∙ root_keeps
opening_keeps (Global a p) stands = ap account_keeps_rules (equal_from_same_auth a root (and_parts (same_auth a root) _ stands).0) ∙ root_keeps
opening_keeps (Dynamic a d) stands = ap account_keeps_rules (equal_from_same_auth a root (and_parts (same_auth a root) _ stands).0) ∙ root_keeps
opening_keeps (DynamicGrant a d) stands = ap account_keeps_rules (equal_from_same_auth a root (and_parts (same_auth a root) _ stands).0) ∙ root_keeps
opening_keeps row stands = cc

pub names_history : (history : List Entry) → list_all entry_names_keep_rules history ≡ true → AreAccepted history opening → NamesKeepRules (state_after history opening)
names_history history names accepted = names_from history opening accounts_opening (record { each = opening_keeps }) names accepted
