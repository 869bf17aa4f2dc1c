-- Which node reaches which along edges, and graphs whose edges lead back to no node.
use Rattle.std.specs.Prelude.{ℕ, Bool, IsTrue}

-- whether the role is granted to the node, directly
abbrev pub Granted : Type 0
Granted = ℕ → ℕ → Bool

-- a path from a node to each role that it holds, directly or through others
pub data Reaches (granted : Granted) (node : ℕ) : ℕ → Type 0 where
  Here : Reaches granted node node
  Onward : (holder role : ℕ) → Reaches granted node holder → IsTrue (granted role holder) → Reaches granted node role

-- no role reaches a node that it is granted to
abbrev pub IsFreeOfLoops : Granted → Type 0
IsFreeOfLoops granted = (role holder : ℕ) → IsTrue (granted role holder) → Reaches granted role holder → ⊥

-- what holds of a node, and of each role of whatever it holds of, holds of all that the node reaches
pub all_reached : (granted : Granted) (node : ℕ) (P : ℕ → Type 0) → P node →
    ((holder role : ℕ) → P holder → IsTrue (granted role holder) → P role) → (other : ℕ) → Reaches granted node other → P other
all_reached granted node P here onward other Here = here
all_reached granted node P here onward other (Onward holder role path edge) =
    onward holder role (all_reached granted node P here onward holder path) edge
