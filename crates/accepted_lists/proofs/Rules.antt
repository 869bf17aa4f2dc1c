-- The rows that a legal statement gives keep their rules.
use Rattle.std.proofs.Common.{◌≡◌, subst, refl, Bool, true, false, not, ◌&&◌, List, inl, inr}
use Rattle.std.proofs.lemmas.Bool.{and_from, and_parts, or_cases}
use Rattle.acl_names.proofs.SameAuth.{equal_from_same_auth}
use Rattle.acl_names.specs.AuthId.{same_auth}
use Rattle.acl_names.specs.Text.{is_lower}
use Rattle.acl_names.specs.declared.auth.AuthId.{AuthId}
use Rattle.accepted_lists.proofs.Named.{grants_column_rules, grants_dynamic_below, grants_level, grants_named_role, limited_level, option_grants, revokes_level}
use Rattle.accepted_lists.proofs.Splits.{granted_pair}
use Rattle.accepted_lists.specs.Sound.{keeps_rules}
use Rattle.acl_model.specs.Acceptance.{HasNoLoop, role_pairs}
use Rattle.acl_model.specs.Effects.{gives}
use Rattle.acl_model.specs.Roles.{Here, Reaches}
use Rattle.acl_model.specs.State.{State}
use Rattle.acl_model.specs.Acceptance.{with_edges}
use Rattle.acl_model.specs.Words.{grants, grants_role, limited, revokes}
use Rattle.acl_model.specs.declared.row.Row.{Row}
use Rattle.acl_model.specs.declared.row.Row.TheVariants.{Account, Global, Dynamic, DynamicGrant, Schema, Table, Column, Function, Procedure, Edge, Admin, Default, Restriction}
use Rattle.acl_stmt.specs.Statements.{is_named, is_statement}
use Rattle.acl_stmt.specs.declared.limit.Limit.{Limit}
use Rattle.acl_stmt.specs.declared.statement.Statement.{Statement}
use Rattle.acl_stmt.specs.declared.target.Target.TheVariants as on
use Rattle.priv_sets.specs.Levels.{has_level}
use Rattle.priv_sets.specs.declared.level.Level.TheVariants as level

-- a role that is granted is another account than its holder, which it would reach else
granted_apart : (state : State) (s : Statement) (role to : AuthId) → grants_role s role to ≡ true → HasNoLoop state (role_pairs s) → (t : Bool) → same_auth role to ≡ t → not t ≡ true
granted_apart state s role to granted none false other = refl
granted_apart state s role to granted none true same =
    let at = granted_pair s role to granted in
    absurd (none at.earlier (role, to) at.later at.split
    (subst (λ (x : AuthId). Reaches (with_edges at.earlier state.rows) role x) (equal_from_same_auth role to same) Here))

module _ (limits : List Limit) (s : Statement) (state : State) (legal : is_statement s ≡ true) (none : HasNoLoop state (role_pairs s)) where
  pub given_rules : (row : Row) → gives limits s state row ≡ true → keeps_rules row ≡ true
  unfolding has_level
  given_rules (Account a) given = refl
  given_rules (Global a p) given = (grants_level s on.Global a p legal given).0
  given_rules (Dynamic a d) given = grants_dynamic_below s a d given
  given_rules (DynamicGrant a d) given = grants_dynamic_below s a d (option_grants s a d given)
  given_rules (Schema a schema p) given =
      (grants_level s (on.Schema schema) a p legal (and_parts (grants s (on.Schema schema) a p) (not (state.rows (Restriction a p schema))) given).0).0
  given_rules (Table a schema t p) given = (grants_level s (on.Table schema t) a p legal given).0
  given_rules (Column a schema t c p) given = grants_column_rules s (on.Table schema t) a c p given
  given_rules (Function a schema f p) given =
      let rules = grants_level s (on.Function schema f) a p legal given in and_from (has_level level.Routine p) (is_lower f) rules.0 rules.1
  given_rules (Procedure a schema f p) given =
      let rules = grants_level s (on.Procedure schema f) a p legal given in and_from (has_level level.Routine p) (is_lower f) rules.0 rules.1
  given_rules (Edge role to) given =
      and_from (is_named role) (not (same_auth role to)) (grants_named_role s role to legal given) (granted_apart state s role to given none (same_auth role to) refl)
  given_rules (Admin role to) given = refl
  given_rules (Default of role) given = refl
  given_rules (Restriction a p schema) given =
      let handed : Bool = grants s on.Global a p && limited limits schema p in
      elim (or_cases (revokes s (on.Schema schema) a p && state.rows (Global a p)) (handed && not (state.rows (Global a p)) && not (state.rows (Schema a schema p))) given) [
        | inl revoked ↦ revokes_level s (on.Schema schema) a p legal (and_parts (revokes s (on.Schema schema) a p) (state.rows (Global a p)) revoked).0
        | inr granted ↦
            limited_level limits schema p
            (and_parts (grants s on.Global a p) (limited limits schema p)
            (and_parts handed (not (state.rows (Global a p))) (and_parts (handed && not (state.rows (Global a p))) (not (state.rows (Schema a schema p))) granted).0).0).1
      ]
