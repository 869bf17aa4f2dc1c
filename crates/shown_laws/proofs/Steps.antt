-- What one printed statement does to a row of the account, and which rows it leaves.
use Rattle.std.proofs.Common.{◌≡◌, ℕ, ◌==◌, Bool, true, false, not, ◌&&◌, ◌||◌, List, [], ◌∷◌}
use Rattle.std.proofs.Math.Bool.{and-true}
use Rattle.std.proofs.lemmas.Bool.{or_left}
use Rattle.acl_names.proofs.SameAuth.{same_auth_itself}
use Rattle.acl_names.specs.AuthId.{same_auth}
use Rattle.acl_names.specs.Text.{text_eq}
use Rattle.acl_names.specs.declared.auth.AuthId.{AuthId}
use Rattle.acl_model.specs.Effects.{becomes, changed}
use Rattle.acl_model.specs.Rows.{lists}
use Rattle.acl_model.specs.State.{State}
use Rattle.acl_model.specs.Words.{is_dynamic_alone, names_column, names_dynamic, names_static}
use Rattle.acl_model.specs.declared.row.Row.{Row}
use Rattle.acl_model.specs.declared.row.Row.TheVariants.{Global, Dynamic, DynamicGrant, Schema, Table, Column, Function, Procedure, Edge, Admin, Restriction}
use Rattle.acl_stmt.specs.declared.privileges.PrivList.{PrivList}
use Rattle.acl_stmt.specs.declared.statement.Statement.TheVariants.{Grant, GrantRoles, Revoke}
use Rattle.acl_stmt.specs.declared.target.Target.{Target}
use Rattle.acl_stmt.specs.declared.target.Target.TheVariants as on
use Rattle.priv_sets.specs.Levels.{grant_option}
use Rattle.priv_sets.specs.declared.level.Level.{Level}
use Rattle.priv_sets.specs.declared.level.Level.TheVariants as level
use Rattle.shown_laws.proofs.Tests.{joined, joined_here, joined_option, joined_pair}

-- ---- rows that are left

-- the kinds of rows that a GRANT on a target may change
abbrev pub may_touch : Target → Row → Bool
may_touch on.Global (Global a p) = true
may_touch on.Global (Dynamic a d) = true
may_touch on.Global (DynamicGrant a d) = true
may_touch on.Global (Restriction a p s) = true
may_touch (on.Schema u) (Schema a s p) = true
may_touch (on.Schema u) (Restriction a p s) = true
may_touch (on.Table u v) (Table a s t p) = true
may_touch (on.Table u v) (Column a s t c p) = true
may_touch (on.Function u v) (Function a s f p) = true
may_touch (on.Procedure u v) (Procedure a s f p) = true
may_touch _ _ = false

pub grant_leaves : (privileges : PrivList) (target : Target) (accounts : List AuthId) (option : Bool) (row : Row) (st : State) → may_touch target row ≡ false
    → (changed [] (Grant privileges target accounts option) st).rows row ≡ st.rows row
unfolding changed becomes
grant_leaves privileges on.Global accounts option (Global a p) st leaves = cc
grant_leaves privileges on.Global accounts option (Dynamic a d) st leaves = cc
grant_leaves privileges on.Global accounts option (DynamicGrant a d) st leaves = cc
grant_leaves privileges on.Global accounts option (Restriction a p s) st leaves = cc
grant_leaves privileges (on.Schema u) accounts option (Schema a s p) st leaves = cc
grant_leaves privileges (on.Schema u) accounts option (Restriction a p s) st leaves = cc
grant_leaves privileges (on.Table u v) accounts option (Table a s t p) st leaves = cc
grant_leaves privileges (on.Table u v) accounts option (Column a s t c p) st leaves = cc
grant_leaves privileges (on.Function u v) accounts option (Function a s f p) st leaves = cc
grant_leaves privileges (on.Procedure u v) accounts option (Procedure a s f p) st leaves = cc
grant_leaves privileges target accounts option row st leaves = and-true (st.rows row)

-- REVOKE at a schema changes what GRANT there may change
pub revoke_leaves : (privileges : PrivList) (schema : List ℕ) (accounts : List AuthId) (row : Row) (st : State) → may_touch (on.Schema schema) row ≡ false
    → (changed [] (Revoke privileges (on.Schema schema) accounts) st).rows row ≡ st.rows row
unfolding changed becomes
revoke_leaves privileges schema accounts (Schema a s p) st leaves = cc
revoke_leaves privileges schema accounts (Restriction a p s) st leaves = cc
revoke_leaves privileges schema accounts row st leaves = and-true (st.rows row)

abbrev pub is_of_roles : Row → Bool
is_of_roles (Edge role to) = true
is_of_roles (Admin role to) = true
is_of_roles _ = false

pub roles_leave : (roles accounts : List AuthId) (option : Bool) (row : Row) (st : State) → is_of_roles row ≡ false
    → (changed [] (GrantRoles roles accounts option) st).rows row ≡ st.rows row
unfolding changed becomes
roles_leave roles accounts option (Edge role to) st leaves = cc
roles_leave roles accounts option (Admin role to) st leaves = cc
roles_leave roles accounts option row st leaves = and-true (st.rows row)

-- ---- rows of the account

pub listed_itself : (a : AuthId) → lists (a ∷ []) a ≡ true
listed_itself a = or_left (same_auth a a) false (same_auth_itself a)

-- the static privileges that a GRANT gives at a level, where its option is GRANT OPTION or is not
abbrev pub named_static : PrivList → Level → Bool → Bool → ℕ → Bool
named_static privileges at option static p = names_static privileges at p || (option && p == grant_option && static)

module _ (a : AuthId) (privileges : PrivList) (option : Bool) (st : State) where
  pub at_global : (p : ℕ) → (changed [] (Grant privileges on.Global (a ∷ []) option) st).rows (Global a p)
      ≡ (st.rows (Global a p) || named_static privileges level.Global option (not (is_dynamic_alone privileges)) p)
  unfolding changed becomes
  at_global p = joined_here (st.rows (Global a p)) (lists (a ∷ []) a) (named_static privileges level.Global option (not (is_dynamic_alone privileges)) p) (listed_itself a)

  pub at_dynamic : (d : ℕ) → (changed [] (Grant privileges on.Global (a ∷ []) option) st).rows (Dynamic a d) ≡ (st.rows (Dynamic a d) || names_dynamic privileges d)
  unfolding changed becomes
  at_dynamic d = joined_here (st.rows (Dynamic a d)) (lists (a ∷ []) a) (names_dynamic privileges d) (listed_itself a)

  pub at_dynamic_grant : (d : ℕ) → (changed [] (Grant privileges on.Global (a ∷ []) option) st).rows (DynamicGrant a d)
      ≡ (st.rows (DynamicGrant a d) || (option && names_dynamic privileges d))
  unfolding changed becomes
  at_dynamic_grant d = joined_option (st.rows (DynamicGrant a d)) option (lists (a ∷ []) a) (names_dynamic privileges d) (listed_itself a)

  module _ (u v s t : List ℕ) where
    pub at_table : (p : ℕ) → (changed [] (Grant privileges (on.Table u v) (a ∷ []) option) st).rows (Table a s t p)
        ≡ (st.rows (Table a s t p) || ((text_eq u s && text_eq v t) && named_static privileges level.Table option true p))
    unfolding changed becomes
    at_table p = joined (st.rows (Table a s t p)) (text_eq u s && text_eq v t) (lists (a ∷ []) a) (named_static privileges level.Table option true p) (listed_itself a)

    pub at_column : (c : List ℕ) (p : ℕ) → (changed [] (Grant privileges (on.Table u v) (a ∷ []) option) st).rows (Column a s t c p)
        ≡ (st.rows (Column a s t c p) || ((text_eq u s && text_eq v t) && names_column privileges p c))
    unfolding changed becomes
    at_column c p = joined (st.rows (Column a s t c p)) (text_eq u s && text_eq v t) (lists (a ∷ []) a) (names_column privileges p c) (listed_itself a)

    pub at_function : (p : ℕ) → (changed [] (Grant privileges (on.Function u v) (a ∷ []) option) st).rows (Function a s t p)
        ≡ (st.rows (Function a s t p) || ((text_eq u s && text_eq v t) && named_static privileges level.Routine option true p))
    unfolding changed becomes
    at_function p = joined (st.rows (Function a s t p)) (text_eq u s && text_eq v t) (lists (a ∷ []) a) (named_static privileges level.Routine option true p) (listed_itself a)

    pub at_procedure : (p : ℕ) → (changed [] (Grant privileges (on.Procedure u v) (a ∷ []) option) st).rows (Procedure a s t p)
        ≡ (st.rows (Procedure a s t p) || ((text_eq u s && text_eq v t) && named_static privileges level.Routine option true p))
    unfolding changed becomes
    at_procedure p = joined (st.rows (Procedure a s t p)) (text_eq u s && text_eq v t) (lists (a ∷ []) a) (named_static privileges level.Routine option true p) (listed_itself a)

module _ (a : AuthId) (roles : List AuthId) (option : Bool) (st : State) (role : AuthId) where
  pub at_edge : (changed [] (GrantRoles roles (a ∷ []) option) st).rows (Edge role a) ≡ (st.rows (Edge role a) || lists roles role)
  unfolding changed becomes
  at_edge = joined_pair (st.rows (Edge role a)) (lists (a ∷ []) a) (lists roles role) (listed_itself a)

  pub at_admin : (changed [] (GrantRoles roles (a ∷ []) option) st).rows (Admin role a) ≡ (st.rows (Admin role a) || (option && lists roles role))
  unfolding changed becomes
  at_admin = joined_pair (st.rows (Admin role a)) (lists (a ∷ []) a) (option && lists roles role) (listed_itself a)
