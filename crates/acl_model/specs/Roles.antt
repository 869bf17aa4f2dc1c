-- Roles: which an account holds, whom it reaches, and the accounts whose rows count for a session (MySQL 8.0 Reference
-- Manual, "Using Roles"; that a mandatory role counts for the account that is asked about alone is this product's own choice).
use Rattle.std.specs.Prelude.{Bool, ◌&&◌, ◌||◌, ◌↔◌, IsTrue, List}
use Rattle.acl_names.specs.declared.auth.AuthId.{AuthId}
use Rattle.acl_model.specs.Rows.{lists}
use Rattle.acl_model.specs.State.{State, is_mandatory, stands}
use Rattle.acl_model.specs.declared.row.Row.{Row}
use Rattle.acl_model.specs.declared.row.Row.TheVariants.{Edge}

-- the granted roles of an account: those granted to it directly, and the mandatory ones that stand
abbrev pub is_granted : State → AuthId → AuthId → Bool
is_granted state account role = state.rows (Edge role account) || (is_mandatory state role && stands state role)

-- a path from an account to each one that it holds as a role, directly or through others; it reaches itself
pub data Reaches (rows : Row → Bool) (account : AuthId) : AuthId → Type 0 where
  Here : Reaches rows account account
  Onward : (holder role : AuthId) → Reaches rows account holder → IsTrue (rows (Edge role holder)) → Reaches rows account role

-- the sources of a session: its account, and all that its active roles reach, of those that are granted now
pub data IsSource (state : State) (account : AuthId) (active : List AuthId) : AuthId → Type 0 where
  Itself : IsSource state account active account
  Through : (role source : AuthId) → IsTrue (lists active role) → IsTrue (is_granted state account role) → Reaches state.rows role source → IsSource state account active source

-- a list of just the sources
abbrev pub AreSources : State → AuthId → List AuthId → List AuthId → Type 0
AreSources state account active sources = (source : AuthId) → IsTrue (lists sources source) ↔ IsSource state account active source
