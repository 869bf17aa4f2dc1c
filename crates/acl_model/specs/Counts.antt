-- How many there are of what is limited (the limits are this product's own).
use Rattle.std.specs.Prelude.{ℕ, Bool, ◌≡◌, ◌<◌, ◌⊎◌, ◌↔◌, ◌&&◌, IsTrue, List, length}
use Rattle.std.specs.List.{list_any}
use Rattle.acl_names.specs.declared.auth.AuthId.{AuthId}
use Rattle.acl_names.specs.AuthId.{same_auth}
use Rattle.acl_names.specs.Text.{text_eq}
use Rattle.acl_model.specs.Rows.{same_row}
use Rattle.acl_model.specs.State.{State, stands}
use Rattle.acl_model.specs.declared.row.Row.{Row}
use Rattle.acl_model.specs.declared.row.Row.TheVariants.{Column, Default, Edge, Function, Procedure, Restriction, Schema, Table}
use Rattle.acl_stmt.specs.Lists.{all_differ_by}
use Rattle.acl_stmt.specs.declared.refusal.Full.{Full}
use Rattle.acl_stmt.specs.declared.refusal.Full.TheVariants as full

-- a list with each item of a set once, and no other
pub record ListsEachOnce {X : Type 0} (same : X → X → Bool) (P : X → Type 0) (items : List X) : Type 0 where
  pub once : IsTrue (all_differ_by same items)
  pub just_these : (item : X) → IsTrue (list_any (same item) items) ↔ P item

-- more than so many are in the set
pub record HasMoreThan {X : Type 0} (same : X → X → Bool) (P : X → Type 0) (limit : ℕ) : Type 0 where
  pub items : List X
  pub all : ListsEachOnce same P items
  pub more : limit < length items

-- a schema with a schema privilege or a restriction of some account
abbrev pub IsSchemaInUse : State → List ℕ → Type 0
IsSchemaInUse state schema = (a : AuthId) × ((p : ℕ) × (IsTrue (state.rows (Schema a schema p)) ⊎ IsTrue (state.rows (Restriction a p schema))))

abbrev pub same_pair : AuthId × List ℕ → AuthId × List ℕ → Bool
same_pair one other = same_auth one.0 other.0 && text_eq one.1 other.1

-- an account with a schema privilege or a restriction on a schema
abbrev pub IsPairInUse : State → AuthId × List ℕ → Type 0
IsPairInUse state pair = (p : ℕ) × (IsTrue (state.rows (Schema pair.0 pair.1 p)) ⊎ IsTrue (state.rows (Restriction pair.0 p pair.1)))

-- an account with a table, a column or a routine on which it holds a privilege, as a row of the privilege 0
abbrev pub IsObjectInUse : State → Row → Type 0
IsObjectInUse state (Table a s t q) = (q ≡ 0) × ((p : ℕ) × IsTrue (state.rows (Table a s t p)))
IsObjectInUse state (Column a s t c q) = (q ≡ 0) × ((p : ℕ) × IsTrue (state.rows (Column a s t c p)))
IsObjectInUse state (Function a s f q) = (q ≡ 0) × ((p : ℕ) × IsTrue (state.rows (Function a s f p)))
IsObjectInUse state (Procedure a s f q) = (q ≡ 0) × ((p : ℕ) × IsTrue (state.rows (Procedure a s f p)))
IsObjectInUse state _ = ⊥

-- a granted role or a default role
abbrev pub IsEdgeInUse : State → Row → Type 0
IsEdgeInUse state (Edge role to) = IsTrue (state.rows (Edge role to))
IsEdgeInUse state (Default of role) = IsTrue (state.rows (Default of role))
IsEdgeInUse state _ = ⊥

-- there are more of these than the limit
abbrev pub IsExceeded : State → Full → Type 0
IsExceeded state full.Accounts = HasMoreThan same_auth (λ a. IsTrue (stands state a)) 4096
IsExceeded state full.Schemas = HasMoreThan text_eq (IsSchemaInUse state) 4096
IsExceeded state full.Pairs = HasMoreThan same_pair (IsPairInUse state) 262144
IsExceeded state full.Objects = HasMoreThan same_row (IsObjectInUse state) 65536
IsExceeded state full.Edges = HasMoreThan same_row (IsEdgeInUse state) 65536
