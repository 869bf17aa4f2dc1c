-- Renaming, pair by pair.
use Rattle.std.specs.Prelude.{ℕ, Bool, false, ◌≡◌, ◌<◌, get_or, take, IsTrue, List, [], ◌∷◌, Option, Some, None, if◌then◌else◌}
use Rattle.acl_names.specs.declared.auth.AuthId.{AuthId}
use Rattle.acl_model.specs.State.{State, stands}
use Rattle.acl_model.specs.Effects.{changed}
use Rattle.acl_model.specs.declared.row.Row.{Row}
use Rattle.row_tables.specs.Changes.{renamed}
use Rattle.row_tables.specs.Conditions.{names_stand}
use Rattle.acl_stmt.specs.declared.refusal.Refusal.{Refusal}
use Rattle.acl_stmt.specs.declared.refusal.Refusal.TheVariants.{AccountExists, NoSuchAccount}
use Rattle.acl_stmt.specs.declared.statement.Statement.TheVariants.{RenameUser}

-- the old name has to stand, and the new one must not
abbrev pub pair_fault : (AuthId → Bool) → AuthId → AuthId → Option Refusal
pair_fault there old new = if there old then (if there new then Some (AccountExists new) else None) else Some (NoSuchAccount old)

-- the state with the renamings of a list, the last pair first
unfoldable pub renamed_in : List (AuthId × AuthId) → State → State
renamed_in [] state = state
renamed_in (pair ∷ pairs) state = renamed pair.0 pair.1 (renamed_in pairs state)

-- each pair of the list may be renamed, the last pair first
unfoldable pub AreLegal : List (AuthId × AuthId) → State → Type 0
AreLegal [] state = Unit {0}
AreLegal (pair ∷ pairs) state = (pair_fault (stands (renamed_in pairs state)) pair.0 pair.1 ≡ None) × AreLegal pairs state

-- the account may get the new name; rows name accounts that stand, and of others nothing is known
pub record MayBeRenamed (state : State) (old new : AuthId) : Type 0 where
  pub legal : pair_fault (stands state) old new ≡ None
  pub names : (row : Row) → IsTrue (state.rows row) → IsTrue (names_stand state row)
  pub known : (a : AuthId) → stands state a ≡ false → state.account_data a ≡ None

-- each of the first pairs may be renamed after those before it
abbrev pub HaveBeenRenamed : List (AuthId × AuthId) → ℕ → State → Type 0
HaveBeenRenamed pairs count before = (i : ℕ) → i < count → (pair : AuthId × AuthId) → pair ≡ get_or pairs i pair →
    MayBeRenamed (changed [] (RenameUser (take i pairs)) before) pair.0 pair.1

-- the state is what the first pairs made of some state
pub record AreRenamedFrom (pairs : List (AuthId × AuthId)) (count : ℕ) (now : State) : Type 0 where
  pub before : State
  pub made : now ≡ changed [] (RenameUser (take count pairs)) before
  pub way : HaveBeenRenamed pairs count before
