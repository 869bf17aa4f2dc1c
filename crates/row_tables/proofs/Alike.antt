-- Tables that are seen alike.
use Rattle.std.proofs.Common.{◌≡◌, ◌∙◌, refl, sym, ap, subst, ℕ, ◌≤◌, Bool, length, count_by, nat_lt, Option, None, Some, is_some, IsTrue, MatchBool, inl, inr, arith}
use Rattle.std.specs.Option.{option_map}
use Rattle.std.proofs.lemmas.Bool.{cases_lt, le-ltb, lt-ltb}
use Rattle.account_holdings.specs.Holdings.{HoldAlike}
use Rattle.account_holdings.specs.declared.holding.Holding.{Holding}
use Rattle.acl_model.specs.Counts.{HasMoreThan, IsExceeded}
use Rattle.acl_model.specs.State.{stands}
use Rattle.acl_names.specs.AuthId.{same_auth}
use Rattle.acl_stmt.specs.declared.refusal.Full.{Full}
use Rattle.numbered_rows.proofs.Basis.{basis_alike}
use Rattle.numbered_rows.proofs.Counts.{over_accounts}
use Rattle.numbered_rows.proofs.Levels.{levels_alike}
use Rattle.numbered_rows.proofs.Standing.{well_alike}
use Rattle.numbered_rows.proofs.States.{by_kind, has_row-holding, same_state}
use Rattle.numbered_names.specs.Numbered.{HasEachOnce}
use Rattle.numbered_rows.specs.Conditions.{HasRoom}
use Rattle.numbered_rows.specs.Numbering.{holding_of, holds_some, number_of}
use Rattle.numbered_rows.specs.Tables.{AreSound, IsNumberedWell, Tables, has_row, known_at, state_of}

module _ (old new : Tables) (names : new.accounts.names ≡ old.accounts.names) (alike : HoldAlike old.holdings new.holdings) where
  some_alike : (o : Option Holding) → holds_some new.holdings o ≡ holds_some old.holdings o
  some_alike None = refl
  some_alike (Some h) = alike h

  pub alike_state : new.account_data ≡ old.account_data → new.mandatory ≡ old.mandatory → new.activate_all ≡ old.activate_all → state_of new ≡ state_of old
  unfolding state_of
  alike_state known roles active =
      same_state _ _
      (by_kind (λ row. has_row new row ≡ has_row old row) (λ a. ap (λ ns. is_some (number_of ns a)) names)
      (λ row other. has_row-holding new row other ∙ ap (λ ns. holds_some new.holdings (holding_of ns row)) names ∙ some_alike (holding_of old.accounts.names row) ∙ sym (has_row-holding old row other)))
      (λ a. ap (λ ns. option_map (known_at new.account_data) (number_of ns a)) names ∙ ap (λ k. option_map (known_at k) (number_of old.accounts.names a)) known) roles active

  pub alike_sound : new.account_data ≡ old.account_data → length new.holdings.globals ≡ length old.holdings.globals → AreSound old → AreSound new
  alike_sound known counted sound = record {
    once = subst (HasEachOnce same_auth) (sym names) sound.once;
    few = subst (λ ns. length ns ≤ 4096) (sym names) sound.few;
    known = ap length known ∙ sound.known ∙ sym (ap length names);
    counted = counted ∙ sound.counted ∙ sym (ap length names);
    well = subst (λ ns. IsNumberedWell ns new.holdings) (sym names) (well_alike old.accounts.names old.holdings new.holdings alike sound.well);
    basis = basis_alike old.holdings new.holdings alike sound.basis;
    levels = levels_alike old.holdings new.holdings alike sound.levels;
  }

-- what is told of the tables is told of what they are seen as
pub told : (t : Bool) (tables now : Tables) → tables ≡ now → (what w : Full) → what ≡ w
    → MatchBool t (IsExceeded (state_of tables) w) (IsExceeded (state_of tables) w → ⊥) → MatchBool t (IsExceeded (state_of now) what) (IsExceeded (state_of now) what → ⊥)
told t tables now seen what w is tells =
    let P : Full → Type 0 = λ v. MatchBool t (IsExceeded (state_of now) v) (IsExceeded (state_of now) v → ⊥) in
    subst P (sym is) (subst (λ x. MatchBool t (IsExceeded (state_of x) w) (IsExceeded (state_of x) w → ⊥)) seen tells)

pub room_told : (tables now : Tables) → tables ≡ now → AreSound tables → (n : ℕ) → n ≡ count_by is_some tables.accounts.names
    → MatchBool (nat_lt n 4096) (HasRoom (state_of now)) (HasMoreThan same_auth (λ a. IsTrue (stands (state_of now) a)) 4095)
room_told tables now seen sound n is =
    subst (λ t. MatchBool (nat_lt n 4096) (HasRoom (state_of t)) (HasMoreThan same_auth (λ a. IsTrue (stands (state_of t) a)) 4095)) seen here
  where
    M : Type 0
    M = HasMoreThan same_auth (λ a. IsTrue (stands (state_of tables) a)) 4095

    over : MatchBool (nat_lt 4095 n) M (M → ⊥)
    over = over_accounts tables sound.once 4095 n is

    here : MatchBool (nat_lt n 4096) (M → ⊥) M
    here = elim (cases_lt n 4096) [
      | inl below ↦ subst (λ t. MatchBool t (M → ⊥) M) (sym (lt-ltb n 4096 below)) (subst (λ t. MatchBool t M (M → ⊥)) (le-ltb 4095 n (omega arith)) over)
      | inr above ↦ subst (λ t. MatchBool t (M → ⊥) M) (sym (le-ltb n 4096 above)) (subst (λ t. MatchBool t M (M → ⊥)) (lt-ltb 4095 n (omega arith)) over)
    ]
