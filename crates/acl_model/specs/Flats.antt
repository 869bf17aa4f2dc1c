-- The flattened privileges of an account, computed afresh, and the accounts whose flattened privileges a statement may change
-- (MySQL 8.0 Reference Manual, "Using Roles"; that they are kept for each account is this product's own choice).
use Rattle.std.specs.Prelude.{ℕ, Bool, true, false, ◌≡◌, ◌↔◌, IsTrue, List, not}
use Rattle.acl_names.specs.AuthId.{same_auth}
use Rattle.acl_names.specs.declared.auth.AuthId.{AuthId}
use Rattle.acl_model.specs.Effects.{after}
use Rattle.acl_model.specs.Rights.{holds_globally, holds_on_schema, is_restricted, may_grant_dynamic}
use Rattle.acl_model.specs.Roles.{Reaches}
use Rattle.acl_model.specs.Rows.{holder, lists}
use Rattle.acl_model.specs.State.{State, stands}
use Rattle.acl_model.specs.declared.row.Row.{Row}
use Rattle.acl_model.specs.declared.row.Row.TheVariants.{Dynamic as DynamicRow, DynamicGrant, Edge, Global, Restriction, Schema}
use Rattle.acl_stmt.specs.declared.entry.Entry.{Entry}
use Rattle.acl_stmt.specs.declared.statement.Statement.{Statement}
use Rattle.acl_stmt.specs.declared.statement.Statement.TheVariants.{RenameUser}
use Rattle.priv_sets.specs.declared.privilege.Privilege.TheVariants.{Plain, Dynamic}
use Rattle.std.specs.List.{list_any}

-- a list of just the accounts that an account reaches
abbrev pub IsClosure : State → AuthId → List AuthId → Type 0
IsClosure state account accounts = (other : AuthId) → IsTrue (lists accounts other) ↔ Reaches state.rows account other

-- by numbers of privileges: what is held on `*.*`, dynamically and with its grant option, on each schema, and where it is restricted
pub record Flat : Type 0 where
  pub plain : ℕ → Bool
  pub dynamic : ℕ → Bool
  pub grantable : ℕ → Bool
  pub on_schema : List ℕ → ℕ → Bool
  pub restricted : List ℕ → ℕ → Bool

-- the flattened privileges of whoever reaches these accounts
abbrev pub flat_of : State → List AuthId → Flat
flat_of state accounts = record {
  plain = λ p. holds_globally state accounts (Plain p);
  dynamic = λ d. holds_globally state accounts (Dynamic d);
  grantable = λ d. may_grant_dynamic state accounts d;
  on_schema = λ schema p. holds_on_schema state accounts schema p;
  restricted = λ schema p. is_restricted state accounts p schema;
}

-- rows that the flattened privileges of their holder are made of
abbrev pub counts_for_flat : Row → Bool
counts_for_flat (Global a p) = true
counts_for_flat (DynamicRow a d) = true
counts_for_flat (DynamicGrant a d) = true
counts_for_flat (Schema a s p) = true
counts_for_flat (Restriction a p s) = true
counts_for_flat (Edge role to) = true
counts_for_flat _ = false

-- the account is new, or one of these rows of its own stands in just one of both states
pub data IsChanged (before now : State) (account : AuthId) : Type 0 where
  New : stands before account ≡ false → IsChanged before now account
  ByRow : (row : Row) → IsTrue (counts_for_flat row) → holder row ≡ account → before.rows row ≡ not (now.rows row) → IsChanged before now account

-- the account reaches a changed one, before the statement or after it
pub data ReachesChange (before now : State) (account : AuthId) : Type 0 where
  Formerly : (changed : AuthId) → IsChanged before now changed → Reaches before.rows account changed → ReachesChange before now account
  Afterwards : (changed : AuthId) → IsChanged before now changed → Reaches now.rows account changed → ReachesChange before now account

-- a renaming touches whoever reaches a new name afterwards, any other statement whoever reaches a changed account
abbrev pub IsReached : Statement → State → State → AuthId → Type 0
IsReached (RenameUser pairs) before now account = (name : AuthId) × (IsTrue (list_any (λ pair. same_auth name pair.1) pairs) × Reaches now.rows account name)
IsReached _ before now account = ReachesChange before now account

-- the accounts whose flattened privileges the statement may change: they stand afterwards
abbrev pub IsTouched : State → Entry → AuthId → Type 0
IsTouched before entry account = IsTrue (stands (after entry before) account) × IsReached entry.statement before (after entry before) account
