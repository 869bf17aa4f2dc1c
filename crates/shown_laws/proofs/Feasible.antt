-- When a printed statement is feasible.
use Rattle.std.proofs.Common.{◌≡◌, ◌∙◌, ap, sym, refl, subst, ℕ, suc, zero, ◌<◌, Bool, true, false, cond, not, ◌&&◌, List, [], ◌∷◌, ◌++◌, map, Some, None, append-nil, true≢false, arith}
use Rattle.std.proofs.lemmas.Bool.{and_from, and_parts, not-true, or_from, or_left, or_right}
use Rattle.std.proofs.lemmas.List.Folds.{list_all-append}
use Rattle.std.specs.List.{find, list_all, list_any}
use Rattle.std.specs.Option.{option_map, option_or}
use Rattle.acl_names.proofs.SameAuth.{equal_from_same_auth, same_auth_itself}
use Rattle.acl_names.specs.AuthId.{same_auth}
use Rattle.acl_names.specs.declared.auth.AuthId.{AuthId}
use Rattle.acl_model.specs.Acceptance.{IsFeasible, with_edges}
use Rattle.acl_model.specs.Effects.{changed}
use Rattle.acl_model.specs.Refusals.{first_fault, may_revoke, no_account}
use Rattle.acl_model.specs.Roles.{Here, Onward, Reaches}
use Rattle.acl_model.specs.Rows.{lists}
use Rattle.acl_model.specs.State.{State, stands}
use Rattle.acl_model.specs.Words.{names_static}
use Rattle.acl_model.specs.declared.row.Row.{Row}
use Rattle.acl_model.specs.declared.row.Row.TheVariants.{Edge, Global, Schema}
use Rattle.acl_stmt.specs.Requests.{all_below}
use Rattle.acl_stmt.specs.declared.privileges.PrivList.{PrivList}
use Rattle.acl_stmt.specs.declared.refusal.Refusal.TheVariants.{NoSuchAccount, NoSuchGrant}
use Rattle.acl_stmt.specs.declared.statement.Statement.{Statement}
use Rattle.acl_stmt.specs.declared.statement.Statement.TheVariants.{Grant, GrantRoles, Revoke}
use Rattle.acl_stmt.specs.declared.target.Target.{Target}
use Rattle.acl_stmt.specs.declared.target.Target.TheVariants as on
use Rattle.listed_privileges.proofs.Bits.{some_below_from}
use Rattle.listed_privileges.specs.Sets.{some_below}
use Rattle.priv_sets.specs.declared.level.Level.TheVariants as level
use Rattle.shown_laws.proofs.Tests.{never}

-- each is feasible after those before it
abbrev pub AreFeasible : List Statement → State → Type 0
AreFeasible [] st = Unit {0}
AreFeasible (s ∷ ss) st = IsFeasible st s × AreFeasible ss (changed [] s st)

no_split : {X : Type 0} (earlier : List X) (x : X) (later : List X) → [] ≡ earlier ++ x ∷ later → ⊥
no_split [] x later split = cc
no_split (y ∷ earlier) x later split = cc

-- ---- GRANT and REVOKE

one_stands : (st : State) (a : AuthId) → stands st a ≡ true → no_account st (a ∷ []) ≡ None
one_stands st a there = ap (λ t. option_map (λ b. NoSuchAccount b) (cond (not t) (Some a) None)) there

pub grant_feasible : (a : AuthId) (privileges : PrivList) (target : Target) (option : Bool) (st : State) → stands st a ≡ true → IsFeasible st (Grant privileges target (a ∷ []) option)
unfolding first_fault
grant_feasible a privileges target option st there = record {
  no_fault = one_stands st a there;
  no_loop = λ earlier pair later split loops. no_split earlier pair later split;
  no_lack = λ earlier item later split lacks. no_split earlier item later split;
}

may_revoke_from : (privileges : PrivList) (schema : List ℕ) (a : AuthId) (st : State) (p : ℕ) → p < 31 → names_static privileges level.Schema p ≡ true → st.rows (Global a p) ≡ true
    → may_revoke st privileges (on.Schema schema) a ≡ true
may_revoke_from privileges schema a st p below named held =
    or_right (some_below 31 (λ q. st.rows (Schema a schema q))) (some_below 31 (λ q. names_static privileges level.Schema q && st.rows (Global a q)))
    (some_below_from 31 p (λ q. names_static privileges level.Schema q && st.rows (Global a q)) below (and_from (names_static privileges level.Schema p) (st.rows (Global a p)) named held))

-- where a privilege that is revoked on the schema is held on `*.*`
pub revoke_feasible : (a : AuthId) (privileges : PrivList) (schema : List ℕ) (st : State) (p : ℕ) → stands st a ≡ true → p < 31 → names_static privileges level.Schema p ≡ true
    → st.rows (Global a p) ≡ true → IsFeasible st (Revoke privileges (on.Schema schema) (a ∷ []))
unfolding first_fault
revoke_feasible a privileges schema st p there below named held = record {
  no_fault =
      ap (λ o. option_or o (option_map (λ b. NoSuchGrant b) (find (λ b. not (may_revoke st privileges (on.Schema schema) b)) (a ∷ [])))) (one_stands st a there)
      ∙ ap (λ t. option_map (λ b. NoSuchGrant b) (cond (not t) (Some a) None)) (may_revoke_from privileges schema a st p below named held);
  no_loop = λ earlier pair later split loops. no_split earlier pair later split;
  no_lack = λ earlier item later split lacks. lacks;
}

-- some number that passes
pub found_below : (limit : ℕ) (test : ℕ → Bool) → some_below limit test ≡ true → (n : ℕ) × (n < limit) × (test n ≡ true)
found_below zero test some = never some
found_below (suc limit) test some = at (test limit) refl (found_below limit test)
  where
    earlier : (t : Bool) → all_below limit (λ n. not (test n)) ≡ t → test limit ≡ false → not t ≡ true
    earlier false is fails = refl
    earlier true is fails = let whole : all_below (suc limit) (λ n. not (test n)) ≡ true = and_from (all_below limit (λ n. not (test n))) (not (test limit)) is (ap not fails) in
        absurd (true≢false (sym some ∙ ap not whole))

    lifted : ((n : ℕ) × (n < limit) × (test n ≡ true)) → (n : ℕ) × (n < suc limit) × (test n ≡ true)
    lifted found = let below : found.0 < limit = found.1 in (found.0, omega arith, found.2)

    at : (t : Bool) → test limit ≡ t → (some_below limit test ≡ true → (n : ℕ) × (n < limit) × (test n ≡ true)) → (n : ℕ) × (n < suc limit) × (test n ≡ true)
    at true passes below = (limit, omega arith, passes)
    at false fails below = lifted (below (earlier (all_below limit (λ n. not (test n))) refl fails))

-- ---- GRANT of roles

all_stand : (st : State) (roles : List AuthId) → ((r : AuthId) → lists roles r ≡ true → stands st r ≡ true) → no_account st roles ≡ None
all_stand st roles each = ap (option_map (λ b. NoSuchAccount b)) (none_missing roles each)
  where
    none_missing : (rs : List AuthId) → ((r : AuthId) → lists rs r ≡ true → stands st r ≡ true) → find (λ b. not (stands st b)) rs ≡ None
    none_missing [] all = refl
    none_missing (first ∷ rs) all =
        ap (λ t. cond (not t) (Some first) (find (λ b. not (stands st b)) rs)) (all first (or_left (same_auth first first) (lists rs first) (same_auth_itself first)))
        ∙ none_missing rs (λ r listed. all r (or_right (same_auth r first) (lists rs r) listed))

-- nobody reaches an account that is nobody's role
not_reached : (rows : Row → Bool) (x y : AuthId) → ((h : AuthId) → rows (Edge y h) ≡ false) → Reaches rows x y → x ≡ y
not_reached rows x y none Here = refl
not_reached rows x y none (Onward holder role way edge) = never (sym (none holder) ∙ edge)

module _ (a : AuthId) where
  -- a pair of another role and the account
  joins : AuthId × AuthId → Bool
  joins pair = not (same_auth pair.0 a) && same_auth pair.1 a

  all_join : (roles : List AuthId) → ((r : AuthId) → lists roles r ≡ true → same_auth r a ≡ false) → list_all joins (map (λ role. (role, a)) roles) ≡ true
  unfolding joins
  all_join [] other = refl
  all_join (first ∷ roles) other =
      and_from (not (same_auth first a) && same_auth a a) (list_all joins (map (λ role. (role, a)) roles))
      (and_from (not (same_auth first a)) (same_auth a a) (ap not (other first (or_left (same_auth first first) (lists roles first) (same_auth_itself first)))) (same_auth_itself a))
      (all_join roles (λ r listed. other r (or_right (same_auth r first) (lists roles r) listed)))

  -- no pair makes the account a role
  not_added : (h : AuthId) (pairs : List (AuthId × AuthId)) → list_all joins pairs ≡ true → list_any (λ pair. same_auth a pair.0 && same_auth h pair.1) pairs ≡ false
  unfolding joins
  not_added h [] all = refl
  not_added h (pair ∷ pairs) all =
      let parts = and_parts (joins pair) (list_all joins pairs) all in
      let first = and_parts (not (same_auth pair.0 a)) (same_auth pair.1 a) parts.0 in
      or_from (same_auth a pair.0 && same_auth h pair.1) (list_any (λ other. same_auth a other.0 && same_auth h other.1) pairs)
      (ap (λ t. t && same_auth h pair.1) (turned (not-true (same_auth pair.0 a) first.0) (same_auth a pair.0) refl)) (not_added h pairs parts.1)
    where
      turned : same_auth pair.0 a ≡ false → (t : Bool) → same_auth a pair.0 ≡ t → t ≡ false
      turned other false is = refl
      turned other true is =
          let equal : a ≡ pair.0 = equal_from_same_auth a pair.0 is in
          sym (same_auth_itself a) ∙ ap (λ (x : AuthId). same_auth x a) equal ∙ other

  no_loop_of : (st : State) (pairs : List (AuthId × AuthId)) → ((h : AuthId) → st.rows (Edge a h) ≡ false) → list_all joins pairs ≡ true
      → (earlier : List (AuthId × AuthId)) (pair : AuthId × AuthId) (later : List (AuthId × AuthId)) → pairs ≡ earlier ++ pair ∷ later
      → Reaches (with_edges earlier st.rows) pair.0 pair.1 → ⊥
  unfolding joins
  no_loop_of st pairs none all earlier pair later split reaches =
      let whole : list_all joins (earlier ++ pair ∷ later) ≡ true = ap (list_all joins) (sym split) ∙ all in
      let parts = and_parts (list_all joins earlier) (list_all joins (pair ∷ later)) (sym (list_all-append joins earlier (pair ∷ later)) ∙ whole) in
      let first = and_parts (not (same_auth pair.0 a)) (same_auth pair.1 a) (and_parts (joins pair) (list_all joins later) parts.1).0 in
      let holder : pair.1 ≡ a = equal_from_same_auth pair.1 a first.1 in
      let at_a : Reaches (with_edges earlier st.rows) pair.0 a = subst (λ (x : AuthId). Reaches (with_edges earlier st.rows) pair.0 x) holder reaches in
      let role : pair.0 ≡ a =
      not_reached (with_edges earlier st.rows) pair.0 a
      (λ h. or_from (st.rows (Edge a h)) (list_any (λ other. same_auth a other.0 && same_auth h other.1) earlier) (none h) (not_added h earlier parts.0)) at_a in
      true≢false (sym (ap (λ (x : AuthId). same_auth x a) role ∙ same_auth_itself a) ∙ not-true (same_auth pair.0 a) first.0)

pub roles_feasible : (a : AuthId) (roles : List AuthId) (option : Bool) (st : State) → stands st a ≡ true → ((r : AuthId) → lists roles r ≡ true → stands st r ≡ true)
    → ((h : AuthId) → st.rows (Edge a h) ≡ false) → ((r : AuthId) → lists roles r ≡ true → same_auth r a ≡ false) → IsFeasible st (GrantRoles roles (a ∷ []) option)
unfolding first_fault joins
roles_feasible a roles option st there stand none other = record {
  no_fault = ap (λ o. option_or o (no_account st (a ∷ []))) (all_stand st roles stand) ∙ one_stands st a there;
  no_loop = no_loop_of a st (map (λ role. (role, a)) roles ++ []) none (ap (list_all (joins a)) (append-nil (map (λ role. (role, a)) roles)) ∙ all_join a roles other);
  no_lack = λ earlier item later split lacks. no_split earlier item later split;
}
