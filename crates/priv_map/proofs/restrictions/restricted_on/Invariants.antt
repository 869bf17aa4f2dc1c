use Rattle.std.proofs.Common.{◌≡◌, ℕ, ◌<◌, IsTrue, take}
use Rattle.priv_map.specs.Restricted.{lists_restriction}
use Rattle.priv_map.proofs.restrictions.restricted_on.Given as goal
use Rattle.priv_sets.specs.StaticSet.{holds, is_known}

abbrev pub invariant-loop-row : goal.invariant-loop-row
invariant-loop-row l = record { members : (q : ℕ) → q < 31 → holds l.restricted q ≡ lists_restriction (take l.row-index l.rows) l.account l.schema q; known : IsTrue (is_known l.restricted) }
