-- The accounts that rows name stand after every accepted statement.
use Rattle.std.proofs.Common.{◌≡◌, ◌∙◌, ap, sym, refl, ℕ, Bool, true, false, cond, not, ◌&&◌, ◌||◌, List, [], ◌∷◌, Option, Some, None, ◌⊎◌, inl, inr}
use Rattle.std.proofs.lemmas.Bool.{and_from, and_parts, not-true, or_cases, or_left, or_parts, or_right}
use Rattle.std.specs.List.{find}
use Rattle.std.specs.Option.{option_map, option_or}
use Rattle.acl_names.proofs.SameAuth.{equal_from_same_auth, same_auth_itself}
use Rattle.acl_names.specs.AuthId.{same_auth}
use Rattle.acl_names.specs.declared.auth.AuthId.{AuthId}
use Rattle.accepted_lists.proofs.Named.{never}
use Rattle.accepted_lists.proofs.Renamed.{Pairs, was}
use Rattle.accepted_lists.specs.Standing.{HasItsAccounts}
use Rattle.acl_model.specs.Effects.{becomes, gives, stood_before, takes, takes_away}
use Rattle.acl_model.specs.Refusals.{first_fault, first_pair, may_revoke, no_account}
use Rattle.acl_model.specs.Renames.{name_before, one_name, two_names}
use Rattle.acl_model.specs.Roles.{is_granted}
use Rattle.acl_model.specs.Rows.{lists, some_name}
use Rattle.acl_model.specs.State.{State, is_mandatory, stands}
use Rattle.acl_model.specs.Words.{creates, drops, grants, grants_admin, grants_column, grants_dynamic, grants_dynamic_option, grants_role, limited, names_column, names_dynamic, revokes, same_target}
use Rattle.acl_model.specs.declared.row.Row.{Row}
use Rattle.acl_model.specs.declared.row.Row.TheVariants.{Account, Global, Dynamic, DynamicGrant, Schema, Table, Column, Function, Procedure, Edge, Admin, Default, Restriction}
use Rattle.acl_stmt.specs.declared.limit.Limit.{Limit}
use Rattle.acl_stmt.specs.declared.refusal.Refusal.{Refusal}
use Rattle.acl_stmt.specs.declared.refusal.Refusal.TheVariants.{NoSuchAccount, NoSuchGrant}
use Rattle.acl_stmt.specs.declared.roles.DefaultForm.TheVariants as form
use Rattle.acl_stmt.specs.declared.statement.Statement.{Statement}
use Rattle.acl_stmt.specs.declared.statement.Statement.TheVariants.{DropRole, DropUser, Grant, GrantRoles, RenameUser, Revoke, SetDefaultRole}
use Rattle.acl_stmt.specs.declared.target.Target.{Target}
use Rattle.acl_stmt.specs.declared.target.Target.TheVariants as on
use Rattle.acl_model.specs.Effects.{makes_default}

-- ---- accounts that a statement names

abbrev IsNamed : AuthId → Row → Type 0
IsNamed a row = some_name (same_auth a) row ≡ true

listed_stands : (state : State) (accounts : List AuthId) (a : AuthId) → no_account state accounts ≡ None → lists accounts a ≡ true → stands state a ≡ true
listed_stands state [] a none listed = never listed
listed_stands state (x ∷ xs) a none listed = by (stands state x) refl none (listed_stands state xs a)
  where
    by : (t : Bool) → stands state x ≡ t → option_map (λ b. NoSuchAccount b) (cond (not t) (Some x) (find (λ b. not (stands state b)) xs)) ≡ None
        → (no_account state xs ≡ None → lists xs a ≡ true → stands state a ≡ true) → stands state a ≡ true
    by false gone fault rest = cc
    by true there fault rest =
        elim (or_cases (same_auth a x) (lists xs a) listed) [
          | inl same ↦ ap (stands state) (equal_from_same_auth a x same) ∙ there
          | inr later ↦ rest fault later
        ]

first_none : (one other : Option Refusal) → option_or one other ≡ None → one ≡ None
first_none None other none = refl
first_none (Some r) other none = cc

second_none : (one other : Option Refusal) → option_or one other ≡ None → other ≡ None
second_none None other none = none
second_none (Some r) other none = cc

module _ (state : State) where
  -- GRANT of privileges, on whatever
  granted_stands : (s : Statement) (at : Target) (a : AuthId) (p : ℕ) → first_fault state s ≡ None → grants s at a p ≡ true → stands state a ≡ true
  unfolding first_fault
  granted_stands (Grant privileges target accounts option) at a p none given =
      listed_stands state accounts a none (and_parts (same_target target at) (lists accounts a) (and_parts (same_target target at && lists accounts a) _ given).0).1
  granted_stands s at a p none given = never given

  column_stands : (s : Statement) (at : Target) (a : AuthId) (c : List ℕ) (p : ℕ) → first_fault state s ≡ None → grants_column s at a c p ≡ true → stands state a ≡ true
  unfolding first_fault
  column_stands (Grant privileges target accounts option) at a c p none given =
      listed_stands state accounts a none (and_parts (same_target target at) (lists accounts a) (and_parts (same_target target at && lists accounts a) (names_column privileges p c) given).0).1
  column_stands s at a c p none given = never given

  dynamic_stands : (s : Statement) (a : AuthId) (d : ℕ) → first_fault state s ≡ None → grants_dynamic s a d ≡ true → stands state a ≡ true
  unfolding first_fault
  dynamic_stands (Grant privileges on.Global accounts option) a d none given = listed_stands state accounts a none (and_parts (lists accounts a) (names_dynamic privileges d) given).0
  dynamic_stands s a d none given = never given

  option_stands : (s : Statement) (a : AuthId) (d : ℕ) → first_fault state s ≡ None → grants_dynamic_option s a d ≡ true → stands state a ≡ true
  unfolding first_fault
  option_stands (Grant privileges on.Global accounts option) a d none given =
      listed_stands state accounts a none (and_parts option (lists accounts a) (and_parts (option && lists accounts a) (names_dynamic privileges d) given).0).1
  option_stands s a d none given = never given

  revoked_stands : (s : Statement) (at : Target) (a : AuthId) (p : ℕ) → first_fault state s ≡ None → revokes s at a p ≡ true → stands state a ≡ true
  unfolding first_fault
  revoked_stands (Revoke privileges target accounts) at a p none given =
      listed_stands state accounts a (first_none (no_account state accounts) (option_map (λ b. NoSuchGrant b) (find (λ b. not (may_revoke state privileges target b)) accounts)) none)
      (and_parts (same_target target at) (lists accounts a) (and_parts (same_target target at && lists accounts a) _ given).0).1
  revoked_stands s at a p none given = never given

  role_stands : (s : Statement) (role to : AuthId) → first_fault state s ≡ None → grants_role s role to ≡ true → (stands state role ≡ true) × (stands state to ≡ true)
  unfolding first_fault
  role_stands (GrantRoles roles accounts option) role to none given =
      let parts = and_parts (lists roles role) (lists accounts to) given in (
        listed_stands state roles role (first_none (no_account state roles) (no_account state accounts) none) parts.0,
        listed_stands state accounts to (second_none (no_account state roles) (no_account state accounts) none) parts.1,
      )
  role_stands s role to none given = cc

  admin_role : (s : Statement) (role to : AuthId) → grants_admin s role to ≡ true → grants_role s role to ≡ true
  admin_role (GrantRoles roles accounts option) role to given =
      let parts = and_parts (option && lists roles role) (lists accounts to) given in
      and_from (lists roles role) (lists accounts to) (and_parts option (lists roles role) parts.0).1 parts.1
  admin_role s role to given = cc

  granted_role_stands : HasItsAccounts state → (a role : AuthId) → is_granted state a role ≡ true → stands state role ≡ true
  granted_role_stands accounts a role is =
      elim (or_cases (state.rows (Edge role a)) (is_mandatory state role && stands state role) is) [
        | inl edge ↦ accounts.named (Edge role a) role edge (or_left (same_auth role role) (same_auth role a) (same_auth_itself role))
        | inr both ↦ (and_parts (is_mandatory state role) (stands state role) both).1
      ]

  default_stands : HasItsAccounts state → (s : Statement) (a role : AuthId) → first_fault state s ≡ None → makes_default s state a role ≡ true
      → (stands state a ≡ true) × (stands state role ≡ true)
  unfolding first_fault
  default_stands accounts (SetDefaultRole form.Nothing listed) a role none given = cc
  default_stands accounts (SetDefaultRole form.All listed) a role none given =
      let parts = and_parts (lists listed a) (is_granted state a role) given in (
        listed_stands state listed a
            (first_none (no_account state listed) (first_pair (λ r x. is_granted state x r) [] listed) (second_none (no_account state []) _ none)) parts.0,
        granted_role_stands accounts a role parts.1,
      )
  default_stands accounts (SetDefaultRole (form.List roles) listed) a role none given =
      let parts = and_parts (lists listed a) (lists roles role) given in (
        listed_stands state listed a
            (first_none (no_account state listed) (first_pair (λ r x. is_granted state x r) roles listed) (second_none (no_account state roles) _ none)) parts.0,
        listed_stands state roles role (first_none (no_account state roles) _ none) parts.1,
      )
  default_stands accounts s a role none given = cc

  -- ---- the accounts of rows that a statement gives

  one_named : (x a : AuthId) → stands state x ≡ true → same_auth a x ≡ true → stands state a ≡ true
  one_named x a there same = ap (stands state) (equal_from_same_auth a x same) ∙ there

  two_named : (x y a : AuthId) → stands state x ≡ true → stands state y ≡ true → (same_auth a x || same_auth a y) ≡ true → stands state a ≡ true
  two_named x y a first second either =
      elim (or_cases (same_auth a x) (same_auth a y) either) [ inl same ↦ one_named x a first same | inr same ↦ one_named y a second same ]

  pub given_stands : HasItsAccounts state → (limits : List Limit) (s : Statement) → first_fault state s ≡ None → (row : Row) (a : AuthId) → gives limits s state row ≡ true
      → IsNamed a row → (creates s a ≡ true) ⊎ (stands state a ≡ true)
  given_stands accounts limits s none (Account x) a given named = inl (ap (creates s) (equal_from_same_auth a x named) ∙ given)
  given_stands accounts limits s none (Global x p) a given named = inr (one_named x a (granted_stands s on.Global x p none given) named)
  given_stands accounts limits s none (Dynamic x d) a given named = inr (one_named x a (dynamic_stands s x d none given) named)
  given_stands accounts limits s none (DynamicGrant x d) a given named = inr (one_named x a (option_stands s x d none given) named)
  given_stands accounts limits s none (Schema x u p) a given named =
      inr (one_named x a (granted_stands s (on.Schema u) x p none (and_parts (grants s (on.Schema u) x p) (not (state.rows (Restriction x p u))) given).0) named)
  given_stands accounts limits s none (Table x u t p) a given named = inr (one_named x a (granted_stands s (on.Table u t) x p none given) named)
  given_stands accounts limits s none (Column x u t c p) a given named = inr (one_named x a (column_stands s (on.Table u t) x c p none given) named)
  given_stands accounts limits s none (Function x u f p) a given named = inr (one_named x a (granted_stands s (on.Function u f) x p none given) named)
  given_stands accounts limits s none (Procedure x u f p) a given named = inr (one_named x a (granted_stands s (on.Procedure u f) x p none given) named)
  given_stands accounts limits s none (Edge r x) a given named = let both = role_stands s r x none given in inr (two_named r x a both.0 both.1 named)
  given_stands accounts limits s none (Admin r x) a given named = let both = role_stands s r x none (admin_role s r x given) in inr (two_named r x a both.0 both.1 named)
  given_stands accounts limits s none (Default x r) a given named = let both = default_stands accounts s x r none given in inr (two_named x r a both.0 both.1 named)
  given_stands accounts limits s none (Restriction x p u) a given named =
      let handed : Bool = grants s on.Global x p && limited limits u p in
      elim (or_cases (revokes s (on.Schema u) x p && state.rows (Global x p)) (handed && not (state.rows (Global x p)) && not (state.rows (Schema x u p))) given) [
        | inl revoked ↦ inr (one_named x a (revoked_stands s (on.Schema u) x p none (and_parts (revokes s (on.Schema u) x p) (state.rows (Global x p)) revoked).0) named)
        | inr granted ↦
            inr (one_named x a (granted_stands s on.Global x p none
            (and_parts (grants s on.Global x p) (limited limits u p)
            (and_parts handed (not (state.rows (Global x p))) (and_parts (handed && not (state.rows (Global x p))) (not (state.rows (Schema x u p))) granted).0).0).0) named)
      ]

-- ---- what drops or renames gives nothing

drop_user_gives : (limits : List Limit) (if_exists : Bool) (accounts : List AuthId) (state : State) (row : Row) → gives limits (DropUser if_exists accounts) state row ≡ false
drop_user_gives limits if_exists accounts state (Account a) = refl
drop_user_gives limits if_exists accounts state row = refl

drop_role_gives : (limits : List Limit) (if_exists : Bool) (roles : List AuthId) (state : State) (row : Row) → gives limits (DropRole if_exists roles) state row ≡ false
drop_role_gives limits if_exists roles state (Account a) = refl
drop_role_gives limits if_exists roles state row = refl

rename_gives : (limits : List Limit) (pairs : Pairs) (state : State) (row : Row) → gives limits (RenameUser pairs) state row ≡ false
rename_gives limits pairs state (Account a) = refl
rename_gives limits pairs state row = refl

gives_drops_none : (limits : List Limit) (s : Statement) (state : State) (row : Row) (a : AuthId) → gives limits s state row ≡ true → drops s a ≡ false
gives_drops_none limits (DropUser if_exists accounts) state row a given = never (sym (drop_user_gives limits if_exists accounts state row) ∙ given)
gives_drops_none limits (DropRole if_exists roles) state row a given = never (sym (drop_role_gives limits if_exists roles state row) ∙ given)
gives_drops_none limits s state row a given = refl

gives_renames_none : (limits : List Limit) (s : Statement) (state : State) (row : Row) (a : AuthId) → gives limits s state row ≡ true → stands state a ≡ true → stood_before s state (Account a) ≡ true
gives_renames_none limits (RenameUser pairs) state row a given there = never (sym (rename_gives limits pairs state row) ∙ given)
gives_renames_none limits s state row a given there = there

-- ---- rows that stood before

module _ (pairs : Pairs) (state : State) (accounts : HasItsAccounts state) where
  one_stood : (row : AuthId → Row) → ((x : AuthId) → IsNamed x (row x)) → (o : Option AuthId) → was state (one_name row o) ≡ true → was state (one_name Account o) ≡ true
  one_stood row names None stood = never stood
  one_stood row names (Some x) stood = accounts.named (row x) x stood (names x)

  one_renamed : (row : AuthId → Row) → ((x : AuthId) → IsNamed x (row x)) → (b a : AuthId) → was state (one_name row (name_before pairs b)) ≡ true → same_auth a b ≡ true
      → was state (one_name Account (name_before pairs a)) ≡ true
  one_renamed row names b a stood same =
      ap (λ (x : AuthId). was state (one_name Account (name_before pairs x))) (equal_from_same_auth a b same) ∙ one_stood row names (name_before pairs b) stood

  two_stood : (row : AuthId → AuthId → Row) → ((x y : AuthId) → IsNamed x (row x y)) → ((x y : AuthId) → IsNamed y (row x y)) → (o u : Option AuthId)
      → was state (two_names row o u) ≡ true → (was state (one_name Account o) ≡ true) × (was state (one_name Account u) ≡ true)
  two_stood row first second None u stood = never stood
  two_stood row first second (Some x) None stood = never stood
  two_stood row first second (Some x) (Some y) stood = (accounts.named (row x y) x stood (first x y), accounts.named (row x y) y stood (second x y))

  two_renamed : (row : AuthId → AuthId → Row) → ((x y : AuthId) → IsNamed x (row x y)) → ((x y : AuthId) → IsNamed y (row x y)) → (b c a : AuthId)
      → was state (two_names row (name_before pairs b) (name_before pairs c)) ≡ true → (same_auth a b || same_auth a c) ≡ true → was state (one_name Account (name_before pairs a)) ≡ true
  two_renamed row first second b c a stood either =
      let both = two_stood row first second (name_before pairs b) (name_before pairs c) stood in
      elim (or_cases (same_auth a b) (same_auth a c) either) [
        | inl same ↦ ap (λ (x : AuthId). was state (one_name Account (name_before pairs x))) (equal_from_same_auth a b same) ∙ both.0
        | inr same ↦ ap (λ (x : AuthId). was state (one_name Account (name_before pairs x))) (equal_from_same_auth a c same) ∙ both.1
      ]

  left_named : (x y : AuthId) → (same_auth x x || same_auth x y) ≡ true
  left_named x y = or_left (same_auth x x) (same_auth x y) (same_auth_itself x)

  right_named : (x y : AuthId) → (same_auth y x || same_auth y y) ≡ true
  right_named x y = or_right (same_auth y x) (same_auth y y) (same_auth_itself y)

  renamed_stands : (row : Row) (a : AuthId) → stood_before (RenameUser pairs) state row ≡ true → IsNamed a row → stood_before (RenameUser pairs) state (Account a) ≡ true
  renamed_stands (Account x) a stood named = one_renamed Account (λ y. same_auth_itself y) x a stood named
  renamed_stands (Global x p) a stood named = one_renamed (λ y. Global y p) (λ y. same_auth_itself y) x a stood named
  renamed_stands (Dynamic x d) a stood named = one_renamed (λ y. Dynamic y d) (λ y. same_auth_itself y) x a stood named
  renamed_stands (DynamicGrant x d) a stood named = one_renamed (λ y. DynamicGrant y d) (λ y. same_auth_itself y) x a stood named
  renamed_stands (Schema x s p) a stood named = one_renamed (λ y. Schema y s p) (λ y. same_auth_itself y) x a stood named
  renamed_stands (Table x s t p) a stood named = one_renamed (λ y. Table y s t p) (λ y. same_auth_itself y) x a stood named
  renamed_stands (Column x s t c p) a stood named = one_renamed (λ y. Column y s t c p) (λ y. same_auth_itself y) x a stood named
  renamed_stands (Function x s f p) a stood named = one_renamed (λ y. Function y s f p) (λ y. same_auth_itself y) x a stood named
  renamed_stands (Procedure x s f p) a stood named = one_renamed (λ y. Procedure y s f p) (λ y. same_auth_itself y) x a stood named
  renamed_stands (Edge r x) a stood named = two_renamed Edge left_named right_named r x a stood named
  renamed_stands (Admin r x) a stood named = two_renamed Admin left_named right_named r x a stood named
  renamed_stands (Default x r) a stood named = two_renamed Default left_named right_named x r a stood named
  renamed_stands (Restriction x p s) a stood named = one_renamed (λ y. Restriction y p s) (λ y. same_auth_itself y) x a stood named

stood_stands : (s : Statement) (state : State) → HasItsAccounts state → (row : Row) (a : AuthId) → stood_before s state row ≡ true → IsNamed a row → stood_before s state (Account a) ≡ true
stood_stands (RenameUser pairs) state accounts row a stood named = renamed_stands pairs state accounts row a stood named
stood_stands s state accounts row a stood named = accounts.named row a stood named

-- ---- accounts that go

one_passed : (test : AuthId → Bool) (x a : AuthId) → test x ≡ false → same_auth a x ≡ true → test a ≡ false
one_passed test x a none same = ap test (equal_from_same_auth a x same) ∙ none

two_passed : (test : AuthId → Bool) (x y a : AuthId) → (test x || test y) ≡ false → (same_auth a x || same_auth a y) ≡ true → test a ≡ false
two_passed test x y a none either =
    let parts = or_parts (test x) (test y) none in
    elim (or_cases (same_auth a x) (same_auth a y) either) [ inl same ↦ one_passed test x a parts.0 same | inr same ↦ one_passed test y a parts.1 same ]

-- a test that no name of the row passes
none_passes : (test : AuthId → Bool) (row : Row) (a : AuthId) → some_name test row ≡ false → IsNamed a row → test a ≡ false
none_passes test (Edge r x) a none named = two_passed test r x a none named
none_passes test (Admin r x) a none named = two_passed test r x a none named
none_passes test (Default x r) a none named = two_passed test x r a none named
none_passes test (Account x) a none named = one_passed test x a none named
none_passes test (Global x p) a none named = one_passed test x a none named
none_passes test (Dynamic x d) a none named = one_passed test x a none named
none_passes test (DynamicGrant x d) a none named = one_passed test x a none named
none_passes test (Schema x s p) a none named = one_passed test x a none named
none_passes test (Table x s t p) a none named = one_passed test x a none named
none_passes test (Column x s t c p) a none named = one_passed test x a none named
none_passes test (Function x s f p) a none named = one_passed test x a none named
none_passes test (Procedure x s f p) a none named = one_passed test x a none named
none_passes test (Restriction x p s) a none named = one_passed test x a none named

-- ---- after a statement

module _ (limits : List Limit) (s : Statement) (state : State) (accounts : HasItsAccounts state) (none : first_fault state s ≡ None) where
  stands_from : (a : AuthId) → stood_before s state (Account a) ≡ true → drops s a ≡ false → becomes limits s state (Account a) (stood_before s state (Account a)) ≡ true
  unfolding becomes
  stands_from a stood kept =
      or_right (creates s a) (stood_before s state (Account a) && not (drops s a || false))
      (and_from (stood_before s state (Account a)) (not (drops s a || false)) stood (ap (λ t. not (t || false)) kept))

  created_stands : (a : AuthId) → creates s a ≡ true → becomes limits s state (Account a) (stood_before s state (Account a)) ≡ true
  unfolding becomes
  created_stands a created = or_left (creates s a) (stood_before s state (Account a) && not (drops s a || false)) created

  pub named_after : (row : Row) (a : AuthId) → becomes limits s state row (stood_before s state row) ≡ true → IsNamed a row
      → becomes limits s state (Account a) (stood_before s state (Account a)) ≡ true
  unfolding becomes
  named_after row a stands named =
      elim (or_cases (gives limits s state row) (stood_before s state row && not (takes limits s row)) stands) [
        | inl given ↦ elim (given_stands state accounts limits s none row a given named) [
          | inl created ↦ created_stands a created
          | inr there ↦ stands_from a (gives_renames_none limits s state row a given there) (gives_drops_none limits s state row a given)
        ]
        | inr stays ↦
            let parts = and_parts (stood_before s state row) (not (takes limits s row)) stays in
            stands_from a (stood_stands s state accounts row a parts.0 named)
            (none_passes (drops s) row a (or_parts (some_name (drops s) row) (takes_away limits s row) (not-true (takes limits s row) parts.1)).0 named)
      ]
