-- Accepted statements keep rows sound.
use Rattle.std.proofs.Common.{◌≡◌, nat_lt, true, not, ◌&&◌, List, [], ◌∷◌, refl, inl, inr}
use Rattle.std.proofs.lemmas.Bool.{and_parts, not-true, or_cases}
use Rattle.acl_names.specs.AuthId.{same_auth}
use Rattle.accepted_lists.proofs.Beside.{given_beside, stays_beside}
use Rattle.accepted_lists.proofs.Named.{legal_of}
use Rattle.accepted_lists.proofs.Renamed.{stood_beside, stood_rules}
use Rattle.accepted_lists.proofs.Rules.{given_rules}
use Rattle.accepted_lists.specs.Accepted.{AreAccepted}
use Rattle.accepted_lists.specs.Sound.{IsSound, keeps_rules, stands_beside}
use Rattle.acl_model.specs.Acceptance.{IsAccepted, IsFeasible}
use Rattle.acl_model.specs.Effects.{after, becomes, changed, gives, state_after, stood_before, takes}
use Rattle.acl_model.specs.State.{State, opening, root}
use Rattle.acl_model.specs.declared.row.Row.{Row}
use Rattle.acl_model.specs.declared.row.Row.TheVariants.{Account, Global, Dynamic, DynamicGrant}
use Rattle.acl_stmt.specs.Statements.{is_statement}
use Rattle.acl_stmt.specs.declared.entry.Entry.{Entry}
use Rattle.acl_stmt.specs.declared.limit.Limit.{Limit}
use Rattle.acl_stmt.specs.declared.statement.Statement.{Statement}

module _ (limits : List Limit) (s : Statement) (state : State) (sound : IsSound state) (legal : is_statement s ≡ true) (feasible : IsFeasible state s) where
  next_rules : (row : Row) → becomes limits s state row (stood_before s state row) ≡ true → keeps_rules row ≡ true
  unfolding becomes
  next_rules row stands =
      elim (or_cases (gives limits s state row) (stood_before s state row && not (takes limits s row)) stands) [
        | inl given ↦ given_rules limits s state legal feasible.no_loop row given
        | inr stays ↦ stood_rules s state sound legal row (and_parts (stood_before s state row) (not (takes limits s row)) stays).0
      ]

  next_beside : (row : Row) → becomes limits s state row (stood_before s state row) ≡ true → stands_beside (λ r. becomes limits s state r (stood_before s state r)) row ≡ true
  unfolding becomes
  next_beside row stands =
      elim (or_cases (gives limits s state row) (stood_before s state row && not (takes limits s row)) stands) [
        | inl given ↦ given_beside limits state s row given
        | inr stays ↦
            let parts = and_parts (stood_before s state row) (not (takes limits s row)) stays in
            stays_beside limits s state (stood_before s state) row (stood_beside s state sound row parts.0) (not-true (takes limits s row) parts.1)
      ]

  pub sound_changed : IsSound (changed limits s state)
  unfolding changed
  sound_changed = record { rules = next_rules; beside = next_beside }

-- every accepted statement, of all 15 kinds
pub sound_after : (state : State) (entry : Entry) → IsSound state → IsAccepted state entry → IsSound (after entry state)
unfolding after
sound_after state entry sound accepted = sound_changed entry.limits entry.statement state sound (legal_of entry.limits entry.statement entry.legal) accepted.feasible

pub sound_from : (history : List Entry) (state : State) → IsSound state → AreAccepted history state → IsSound (state_after history state)
unfolding state_after
sound_from [] state sound accepted = sound
sound_from (entry ∷ history) state sound accepted = sound_from history (after entry state) (sound_after state entry sound accepted.0) accepted.1

opening_rules : (row : Row) → opening.rows row ≡ true → keeps_rules row ≡ true
opening_rules (Account a) stands = refl
opening_rules (Global a p) stands = (and_parts (same_auth a root) (nat_lt p 31) stands).1
opening_rules (Dynamic a d) stands = (and_parts (same_auth a root) (nat_lt d 20) stands).1
opening_rules (DynamicGrant a d) stands = (and_parts (same_auth a root) (nat_lt d 20) stands).1
opening_rules row stands = cc

opening_beside : (row : Row) → opening.rows row ≡ true → stands_beside opening.rows row ≡ true
opening_beside (Account a) stands = refl
opening_beside (Global a p) stands = refl
opening_beside (Dynamic a d) stands = refl
opening_beside (DynamicGrant a d) stands = stands
opening_beside row stands = cc

pub sound_opening : IsSound opening
sound_opening = record { rules = opening_rules; beside = opening_beside }

pub sound_history : (history : List Entry) → AreAccepted history opening → IsSound (state_after history opening)
sound_history history accepted = sound_from history opening sound_opening accepted
