-- Statements that are issued one after the other without limits, and what may refuse them.
use Rattle.std.specs.Prelude.{◌≡◌, List, [], ◌∷◌}
use Rattle.acl_model.specs.Acceptance.{IsAccepted, IsRefused, limits_in_order}
use Rattle.acl_model.specs.Counts.{IsExceeded}
use Rattle.acl_model.specs.Effects.{after}
use Rattle.acl_model.specs.Firsts.{HasNone}
use Rattle.acl_model.specs.State.{State}
use Rattle.acl_stmt.specs.declared.entry.Entry.{Entry}
use Rattle.acl_stmt.specs.declared.refusal.Refusal.{Refusal}
use Rattle.acl_stmt.specs.declared.refusal.Refusal.TheVariants.{Full}
use Rattle.acl_stmt.specs.declared.statement.Statement.{Statement}

-- the entries issue these statements without limits, whoever issues them
abbrev pub AreEntriesOf : List Statement → List Entry → Type 0
AreEntriesOf [] [] = Unit {0}
AreEntriesOf (statement ∷ statements) (entry ∷ entries) = (entry.statement ≡ statement) × ((entry.limits ≡ []) × AreEntriesOf statements entries)
AreEntriesOf _ _ = ⊥

abbrev pub IsFull : Refusal → Type 0
IsFull (Full what) = Unit {0}
IsFull _ = ⊥

-- nothing may refuse the statement but a limit, and within the limits it is accepted
pub record IsLimitedAlone (state : State) (entry : Entry) : Type 0 where
  pub only : (refusal : Refusal) → IsRefused state entry refusal → IsFull refusal
  pub accepted : HasNone (IsExceeded (after entry state)) limits_in_order → IsAccepted state entry

-- so it is with each, after those before it
abbrev pub AreLimitedAlone : List Entry → State → Type 0
AreLimitedAlone [] state = Unit {0}
AreLimitedAlone (entry ∷ entries) state = IsLimitedAlone state entry × AreLimitedAlone entries (after entry state)
