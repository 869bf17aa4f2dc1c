-- What stands beside a row goes on standing beside it.
use Rattle.std.proofs.Common.{◌≡◌, ◌∙◌, ap, sym, refl, ℕ, Bool, true, false, not, ◌&&◌, ◌||◌, List}
use Rattle.std.proofs.Math.Bool.{and-true, or-false}
use Rattle.std.proofs.lemmas.Bool.{and_from, and_parts, not-true, or_from, or_left, or_parts, or_right}
use Rattle.acl_names.specs.declared.auth.AuthId.{AuthId}
use Rattle.accepted_lists.proofs.Named.{option_grants}
use Rattle.accepted_lists.specs.Sound.{stands_beside}
use Rattle.acl_model.specs.Effects.{becomes, gives, stood_before, takes}
use Rattle.acl_model.specs.Rows.{lists}
use Rattle.acl_model.specs.State.{State}
use Rattle.acl_model.specs.Words.{drops, grants, grants_admin, grants_dynamic, grants_role, limited, revokes, revokes_all, revokes_dynamic}
use Rattle.acl_model.specs.declared.row.Row.{Row}
use Rattle.acl_model.specs.declared.row.Row.TheVariants.{Global, Dynamic, DynamicGrant, Schema, Edge, Admin, Restriction}
use Rattle.acl_stmt.specs.declared.limit.Limit.{Limit}
use Rattle.acl_stmt.specs.declared.privileges.PrivList.{PrivList}
use Rattle.acl_stmt.specs.declared.statement.Statement.{Statement}
use Rattle.acl_stmt.specs.declared.statement.Statement.TheVariants.{Grant, GrantRoles, Revoke}
use Rattle.acl_stmt.specs.declared.target.Target.TheVariants as on
use Rattle.priv_sets.specs.Levels.{grant_option}

-- ---- tests

-- what is given, or stood and is not taken
abbrev kept : Bool → Bool → Bool → Bool
kept given stood taken = given || (stood && not taken)

kept_given : (given stood taken : Bool) → given ≡ true → kept given stood taken ≡ true
kept_given given stood taken is = or_left given (stood && not taken) is

kept_stood : (given stood taken : Bool) → stood ≡ true → taken ≡ false → kept given stood taken ≡ true
kept_stood given stood taken is still = or_right given (stood && not taken) (and_from stood (not taken) is (ap not still))

kept_not : (given stood taken : Bool) → given ≡ false → (stood ≡ false) → kept given stood taken ≡ false
kept_not given stood taken none gone = or_from given (stood && not taken) none (ap (λ t. t && not taken) gone)

taken_not : (given stood taken : Bool) → given ≡ false → taken ≡ true → kept given stood taken ≡ false
taken_not given stood taken none is = or_from given (stood && not taken) none (ap (λ t. stood && not t) is ∙ never_both stood)
  where
    never_both : (x : Bool) → (x && false) ≡ false
    never_both true = refl
    never_both false = refl

-- ---- what is given

grants_admin_role : (s : Statement) (role to : AuthId) → grants_admin s role to ≡ true → grants_role s role to ≡ true
grants_admin_role (GrantRoles roles accounts option) role to granted =
    let parts = and_parts (option && lists roles role) (lists accounts to) granted in
    and_from (lists roles role) (lists accounts to) (and_parts option (lists roles role) parts.0).1 parts.1
grants_admin_role s role to granted = cc

module _ (limits : List Limit) (state : State) where
  -- a restriction that REVOKE at a schema gives
  revoked_beside : (privileges : PrivList) (schema : List ℕ) (accounts : List AuthId) (a : AuthId) (p : ℕ) (s : List ℕ)
      → gives limits (Revoke privileges (on.Schema schema) accounts) state (Restriction a p s) ≡ true
      → (becomes limits (Revoke privileges (on.Schema schema) accounts) state (Global a p) (state.rows (Global a p))
      && not (becomes limits (Revoke privileges (on.Schema schema) accounts) state (Schema a s p) (state.rows (Schema a s p)))) ≡ true
  unfolding becomes
  revoked_beside privileges schema accounts a p s given =
      let revoked : Bool = revokes (Revoke privileges (on.Schema schema) accounts) (on.Schema s) a p in
      let parts = and_parts revoked (state.rows (Global a p)) (sym (or-false (revoked && state.rows (Global a p))) ∙ given) in
      and_from (state.rows (Global a p) && true) (not (state.rows (Schema a s p) && not (revoked || false)))
      (and-true (state.rows (Global a p)) ∙ parts.1)
      (ap not (taken_not false (state.rows (Schema a s p)) (revoked || false) refl (or_left revoked false parts.0)))

  -- and one that GRANT on `*.*` hands on
  handed_beside : (privileges : PrivList) (accounts : List AuthId) (option : Bool) (a : AuthId) (p : ℕ) (s : List ℕ)
      → gives limits (Grant privileges on.Global accounts option) state (Restriction a p s) ≡ true
      → (becomes limits (Grant privileges on.Global accounts option) state (Global a p) (state.rows (Global a p))
      && not (becomes limits (Grant privileges on.Global accounts option) state (Schema a s p) (state.rows (Schema a s p)))) ≡ true
  unfolding becomes
  handed_beside privileges accounts option a p s given =
      let granted : Bool = grants (Grant privileges on.Global accounts option) on.Global a p in
      let fourth = and_parts (granted && limited limits s p && not (state.rows (Global a p))) (not (state.rows (Schema a s p))) given in
      let third = and_parts (granted && limited limits s p) (not (state.rows (Global a p))) fourth.0 in
      let second = and_parts granted (limited limits s p) third.0 in
      and_from (kept granted (state.rows (Global a p)) false) (not (kept false (state.rows (Schema a s p)) false))
      (kept_given granted (state.rows (Global a p)) false second.0)
      (ap not (kept_not false (state.rows (Schema a s p)) false refl (not-true (state.rows (Schema a s p)) fourth.1)))

  restriction_given : (s : Statement) (a : AuthId) (p : ℕ) (schema : List ℕ) → gives limits s state (Restriction a p schema) ≡ true
      → (becomes limits s state (Global a p) (stood_before s state (Global a p)) && not (becomes limits s state (Schema a schema p) (stood_before s state (Schema a schema p)))) ≡ true
  restriction_given (Revoke privileges (on.Schema at) accounts) a p schema given = revoked_beside privileges at accounts a p schema given
  restriction_given (Grant privileges on.Global accounts option) a p schema given = handed_beside privileges accounts option a p schema given
  restriction_given s a p schema given = cc

  pub given_beside : (s : Statement) (row : Row) → gives limits s state row ≡ true → stands_beside (λ r. becomes limits s state r (stood_before s state r)) row ≡ true
  unfolding becomes
  given_beside s (DynamicGrant a d) given =
      kept_given (grants_dynamic s a d) (stood_before s state (Dynamic a d)) (takes limits s (Dynamic a d)) (option_grants s a d given)
  given_beside s (Admin role to) given =
      kept_given (grants_role s role to) (stood_before s state (Edge role to)) (takes limits s (Edge role to)) (grants_admin_role s role to given)
  given_beside s (Restriction a p schema) given = restriction_given s a p schema given
  given_beside s row given = refl

-- ---- what stays

parts_of_restriction : (d gs g r all : Bool) (handed : Bool) → (d || (((gs || (g && not handed)) || r) || all)) ≡ false
    → (d ≡ false) × (gs ≡ false) × (r ≡ false) × (all ≡ false)
parts_of_restriction d gs g r all handed none =
    let one = or_parts d (((gs || (g && not handed)) || r) || all) none in
    let two = or_parts ((gs || (g && not handed)) || r) all one.1 in
    let three = or_parts (gs || (g && not handed)) r two.0 in
    (one.0, (or_parts gs (g && not handed) three.0).0, three.1, two.1)

module _ (limits : List Limit) (s : Statement) (state : State) (stood : Row → Bool) where
  pub stays_beside : (row : Row) → stands_beside stood row ≡ true → takes limits s row ≡ false → stands_beside (λ r. becomes limits s state r (stood r)) row ≡ true
  unfolding becomes
  stays_beside (DynamicGrant a d) beside still =
      let outer = or_parts (drops s a) ((revokes_dynamic s a d || revokes s on.Global a grant_option) || revokes_all s a) still in
      let inner = or_parts (revokes_dynamic s a d || revokes s on.Global a grant_option) (revokes_all s a) outer.1 in
      let least = or_parts (revokes_dynamic s a d) (revokes s on.Global a grant_option) inner.0 in
      kept_stood (grants_dynamic s a d) (stood (Dynamic a d)) (takes limits s (Dynamic a d)) beside
      (or_from (drops s a) (revokes_dynamic s a d || revokes_all s a) outer.0 (or_from (revokes_dynamic s a d) (revokes_all s a) least.0 inner.1))
  stays_beside (Admin role to) beside still = kept_stood (grants_role s role to) (stood (Edge role to)) (takes limits s (Edge role to)) beside still
  stays_beside (Restriction a p schema) beside still =
      let both = and_parts (stood (Global a p)) (not (stood (Schema a schema p))) beside in
      let parts = parts_of_restriction (drops s a) (grants s (on.Schema schema) a p) (grants s on.Global a p) (revokes s on.Global a p) (revokes_all s a) (limited limits schema p) still in
      and_from (kept (grants s on.Global a p) (stood (Global a p)) (takes limits s (Global a p)))
      (not (kept (grants s (on.Schema schema) a p && not (state.rows (Restriction a p schema))) (stood (Schema a schema p)) (takes limits s (Schema a schema p))))
      (kept_stood (grants s on.Global a p) (stood (Global a p)) (takes limits s (Global a p)) both.0
      (or_from (drops s a) (revokes s on.Global a p || revokes_all s a) parts.0 (or_from (revokes s on.Global a p) (revokes_all s a) parts.2 parts.3)))
      (ap not (kept_not (grants s (on.Schema schema) a p && not (state.rows (Restriction a p schema))) (stood (Schema a schema p)) (takes limits s (Schema a schema p))
      (ap (λ t. t && not (state.rows (Restriction a p schema))) parts.1) (not-true (stood (Schema a schema p)) both.1)))
  stays_beside row beside still = refl
