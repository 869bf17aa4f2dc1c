-- Which statements are refused with what, and which are accepted (the order of the refusals is this product's own choice).
use Rattle.std.specs.Prelude.{ℕ, Bool, false, ◌≡◌, ◌⊎◌, ◌||◌, ◌&&◌, List, [], ◌∷◌, ◌++◌, None, Some, map}
use Rattle.std.specs.List.{flat_map, list_any}
use Rattle.acl_names.specs.AuthId.{same_auth}
use Rattle.acl_names.specs.declared.auth.AuthId.{AuthId}
use Rattle.acl_model.specs.Counts.{IsExceeded}
use Rattle.acl_model.specs.Effects.{after}
use Rattle.acl_model.specs.Firsts.{HasNone, IsFirst}
use Rattle.acl_model.specs.Refusals.{first_fault}
use Rattle.acl_model.specs.Roles.{Reaches}
use Rattle.acl_model.specs.State.{State}
use Rattle.acl_model.specs.declared.row.Row.{Row}
use Rattle.acl_model.specs.declared.row.Row.TheVariants.{Column, Edge, Table}
use Rattle.acl_stmt.specs.declared.entry.Entry.{Entry}
use Rattle.acl_stmt.specs.declared.refusal.Full.{Full}
use Rattle.acl_stmt.specs.declared.refusal.Full.TheVariants as full
use Rattle.acl_stmt.specs.declared.refusal.Refusal.{Refusal}
use Rattle.acl_stmt.specs.declared.refusal.Refusal.TheVariants as refusal
use Rattle.acl_stmt.specs.declared.statement.Statement.{Statement}
use Rattle.acl_stmt.specs.declared.statement.Statement.TheVariants.{GrantRoles, Revoke}
use Rattle.acl_stmt.specs.declared.target.Target.TheVariants as on

-- the pairs of GRANT of roles, the role first: account by account, and role by role within it
abbrev pub role_pairs : Statement → List (AuthId × AuthId)
role_pairs (GrantRoles roles accounts with_admin_option) = flat_map (λ account. map (λ role. (role, account)) roles) accounts
role_pairs _ = []

-- the rows with an edge for each of these pairs more
abbrev pub with_edges : List (AuthId × AuthId) → (Row → Bool) → Row → Bool
with_edges pairs rows (Edge role to) = rows (Edge role to) || list_any (λ pair. same_auth role pair.0 && same_auth to pair.1) pairs
with_edges pairs rows row = rows row

-- no pair's role reaches its account along the edges that stand and those of the pairs before it
abbrev pub HasNoLoop : State → List (AuthId × AuthId) → Type 0
HasNoLoop state pairs = (earlier : List (AuthId × AuthId)) (pair : AuthId × AuthId) (later : List (AuthId × AuthId)) →
    pairs ≡ earlier ++ pair ∷ later → Reaches (with_edges earlier state.rows) pair.0 pair.1 → ⊥

-- the pair is the first one whose role reaches its account so
pub record IsFirstLoop (state : State) (pairs : List (AuthId × AuthId)) (role account : AuthId) : Type 0 where
  pub before : List (AuthId × AuthId)
  pub rest : List (AuthId × AuthId)
  pub split : pairs ≡ before ++ (role, account) ∷ rest
  pub loops : Reaches (with_edges before state.rows) role account
  pub none_before : HasNoLoop state before

-- the account holds nothing on the table or on a column of it
pub record HasNothingOn (state : State) (schema table : List ℕ) (account : AuthId) : Type 0 where
  pub no_table_row : (p : ℕ) → state.rows (Table account schema table p) ≡ false
  pub no_column_row : (column : List ℕ) (p : ℕ) → state.rows (Column account schema table column p) ≡ false

-- REVOKE at a table finds nothing of the account's there
abbrev pub LacksGrant : State → Statement → AuthId → Type 0
LacksGrant state (Revoke privileges (on.Table schema table) accounts) account = HasNothingOn state schema table account
LacksGrant state _ account = ⊥

abbrev pub revoked_accounts : Statement → List AuthId
revoked_accounts (Revoke privileges target accounts) = accounts
revoked_accounts _ = []

-- nothing keeps the statement from being carried out but the limits
pub record IsFeasible (state : State) (statement : Statement) : Type 0 where
  pub no_fault : first_fault state statement ≡ None
  pub no_loop : HasNoLoop state (role_pairs statement)
  pub no_lack : HasNone (LacksGrant state statement) (revoked_accounts statement)

-- the limits, in the order in which they are told
abbrev pub limits_in_order : List Full
limits_in_order = full.Accounts ∷ full.Schemas ∷ full.Pairs ∷ full.Objects ∷ full.Edges ∷ []

-- the statement is refused with exactly this; denials, closing, the journal and want of memory have their own causes
abbrev pub IsRefused : State → Entry → Refusal → Type 0
IsRefused state entry (refusal.Loop role account) =
    (first_fault state entry.statement ≡ None) × IsFirstLoop state (role_pairs entry.statement) role account
IsRefused state entry (refusal.NoSuchGrant account) =
    (first_fault state entry.statement ≡ Some (refusal.NoSuchGrant account))
    ⊎ ((first_fault state entry.statement ≡ None) × IsFirst (LacksGrant state entry.statement) (revoked_accounts entry.statement) account)
IsRefused state entry (refusal.Full what) = IsFeasible state entry.statement × IsFirst (IsExceeded (after entry state)) limits_in_order what
IsRefused state entry other = first_fault state entry.statement ≡ Some other

-- the statement is accepted: nothing above refuses it
pub record IsAccepted (state : State) (entry : Entry) : Type 0 where
  pub feasible : IsFeasible state entry.statement
  pub within : HasNone (IsExceeded (after entry state)) limits_in_order
