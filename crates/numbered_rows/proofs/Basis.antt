-- Who may grant a dynamic privilege holds it, before each change and after it.
use Rattle.std.proofs.Common.{◌≡◌, ◌∙◌, refl, sym, ap, subst, ℕ, Bool, true, false, not, ◌||◌, ◌&&◌, Option, None, Some}
use Rattle.std.proofs.Math.Bool.{and-true, or-false}
use Rattle.std.proofs.lemmas.Bool.{and_parts, or_left, true≢false}
use Rattle.account_holdings.proofs.SameHoldings.{equal_from_same_holding}
use Rattle.account_holdings.specs.Holdings.{HoldAlike, Holdings, IsWith, IsWithout, holds, same_holding}
use Rattle.account_holdings.specs.declared.globals.GlobalKind.TheVariants as kind
use Rattle.account_holdings.specs.declared.holding.Holding.{Holding}
use Rattle.account_holdings.specs.declared.holding.Holding.TheVariants as held
use Rattle.acl_model.specs.declared.row.Row.{Row}
use Rattle.acl_model.specs.declared.row.Row.TheVariants.{Dynamic, DynamicGrant}
use Rattle.numbered_rows.proofs.Matching.{name_of, row_again, row_of}
use Rattle.numbered_rows.proofs.Numbers.{Names}
use Rattle.numbered_rows.specs.Conditions.{IsFreeToGo, IsReadyFor}
use Rattle.numbered_rows.specs.Numbering.{holding_of, holds_some, number_of, one_number}
use Rattle.numbered_rows.specs.Tables.{HaveBasis, Tables, state_of}

pub basis_alike : (old new : Holdings) → HoldAlike old new → HaveBasis old → HaveBasis new
basis_alike old new alike basis n d there =
    alike (held.OnAll kind.Dynamic n d) ∙ basis n d (sym (alike (held.OnAll kind.Grantable n d)) ∙ there)

-- the number of an account whose holding is known
at_number : (holding : ℕ → Holding) → ((m n : ℕ) → holding m ≡ holding n → m ≡ n) → (o : Option ℕ) (n : ℕ) → one_number holding o ≡ Some (holding n) → o ≡ Some n
at_number holding one None n is = cc
at_number holding one (Some m) n is = let e : holding m ≡ holding n = cc in ap (λ k. Some k) (one m n e)

module _ (tables : Tables) (new : Holdings) (row : Row) (h : Holding) (is : holding_of tables.accounts.names row ≡ Some h) where
  abbrev names : Names
  names = tables.accounts.names

  pub basis_comes : IsReadyFor (state_of tables) row → IsWith tables.holdings new h → HaveBasis tables.holdings → HaveBasis new
  unfolding state_of
  basis_comes ready comes basis n d there =
      by (same_holding (held.OnAll kind.Grantable n d) h) refl
    where
      stays : holds tables.holdings (held.OnAll kind.Dynamic n d) ≡ true → holds new (held.OnAll kind.Dynamic n d) ≡ true
      stays before =
          comes (held.OnAll kind.Dynamic n d)
          ∙ or_left (holds tables.holdings (held.OnAll kind.Dynamic n d)) (same_holding (held.OnAll kind.Dynamic n d) h) before

      by : (t : Bool) → same_holding (held.OnAll kind.Grantable n d) h ≡ t → holds new (held.OnAll kind.Dynamic n d) ≡ true
      by false differs =
          stays (basis n d (sym (or-false (holds tables.holdings (held.OnAll kind.Grantable n d)))
          ∙ ap (λ t. holds tables.holdings (held.OnAll kind.Grantable n d) || t) (sym differs) ∙ sym (comes (held.OnAll kind.Grantable n d)) ∙ there))
      by true same =
          let equal : held.OnAll kind.Grantable n d ≡ h = equal_from_same_holding (held.OnAll kind.Grantable n d) h same in
          let that : row ≡ DynamicGrant (name_of names n) d = sym (row_again names row h is) ∙ ap (row_of names) (sym equal) in
          let number : number_of names (name_of names n) ≡ Some n =
          at_number (λ k. held.OnAll kind.Grantable k d) (λ m k e. cc) (number_of names (name_of names n)) n
          (ap (holding_of names) (sym that) ∙ is ∙ ap (λ x. Some x) (sym equal)) in
          let before : holds_some tables.holdings (one_number (λ k. held.OnAll kind.Dynamic k d) (number_of names (name_of names n))) ≡ true =
          subst (λ r. IsReadyFor (state_of tables) r) that ready in
          stays (ap (λ o. holds_some tables.holdings (one_number (λ k. held.OnAll kind.Dynamic k d) o)) (sym number) ∙ before)

  pub basis_goes : IsFreeToGo (state_of tables) row → IsWithout tables.holdings new h → HaveBasis tables.holdings → HaveBasis new
  unfolding state_of
  basis_goes free goes basis n d there =
      by (same_holding (held.OnAll kind.Dynamic n d) h) refl
    where
      before : holds tables.holdings (held.OnAll kind.Grantable n d) ≡ true
      before = (and_parts (holds tables.holdings (held.OnAll kind.Grantable n d)) (not (same_holding (held.OnAll kind.Grantable n d) h))
          (sym (goes (held.OnAll kind.Grantable n d)) ∙ there)).0

      by : (t : Bool) → same_holding (held.OnAll kind.Dynamic n d) h ≡ t → holds new (held.OnAll kind.Dynamic n d) ≡ true
      by false differs =
          goes (held.OnAll kind.Dynamic n d)
          ∙ ap (λ t. holds tables.holdings (held.OnAll kind.Dynamic n d) && not t) differs
          ∙ and-true (holds tables.holdings (held.OnAll kind.Dynamic n d)) ∙ basis n d before
      by true same =
          let equal : held.OnAll kind.Dynamic n d ≡ h = equal_from_same_holding (held.OnAll kind.Dynamic n d) h same in
          let that : row ≡ Dynamic (name_of names n) d = sym (row_again names row h is) ∙ ap (row_of names) (sym equal) in
          let number : number_of names (name_of names n) ≡ Some n =
          at_number (λ k. held.OnAll kind.Dynamic k d) (λ m k e. cc) (number_of names (name_of names n)) n
          (ap (holding_of names) (sym that) ∙ is ∙ ap (λ x. Some x) (sym equal)) in
          let none : holds_some tables.holdings (one_number (λ k. held.OnAll kind.Grantable k d) (number_of names (name_of names n))) ≡ false =
          subst (λ r. IsFreeToGo (state_of tables) r) that free in
          absurd (true≢false (sym before ∙ ap (λ o. holds_some tables.holdings (one_number (λ k. held.OnAll kind.Grantable k d) o)) (sym number) ∙ none))
