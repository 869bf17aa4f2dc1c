-- Whoever is named by what is held stands, before each change and after it.
use Rattle.std.proofs.Common.{◌≡◌, ◌∙◌, ◌⊎◌, refl, sym, ap, subst, ℕ, Bool, true, false, ◌==◌, ◌||◌, Option, None, Some, inl, inr}
use Rattle.std.proofs.lemmas.Bool.{true≢false, eq-eqb, eqb-true}
use Rattle.acl_names.proofs.SameAuth.{same_auth_itself}
use Rattle.acl_names.specs.AuthId.{same_auth}
use Rattle.acl_names.specs.declared.auth.AuthId.{AuthId}
use Rattle.account_holdings.proofs.SameHoldings.{equal_from_same_holding}
use Rattle.account_holdings.specs.Holdings.{HoldAlike, Holdings, IsWith, IsWithout, holds, names_number, same_holding}
use Rattle.account_holdings.specs.declared.globals.GlobalKind.TheVariants as kind
use Rattle.account_holdings.specs.declared.holding.Holding.{Holding}
use Rattle.account_holdings.specs.declared.holding.Holding.TheVariants as held
use Rattle.acl_model.specs.Rows.{some_name}
use Rattle.acl_model.specs.declared.row.Row.{Row}
use Rattle.acl_model.specs.declared.row.Row.TheVariants.{Account, Edge, Admin, Default}
use Rattle.numbered_names.specs.Numbered.{ChangesOnly, HasEachOnce, name_at}
use Rattle.numbered_rows.specs.Conditions.{IsUnnamed, is_account}
use Rattle.numbered_rows.specs.Numbering.{holding_of, holds_some, number_of, one_number, two_numbers}
use Rattle.numbered_rows.specs.Tables.{IsNumberedWell, IsUnused, Tables, has_row, state_of}
use Rattle.numbered_rows.proofs.Matching.{first_of, in_parts, name_of, name_or_root, or_last, row_of, second_of, shape}
use Rattle.numbered_rows.proofs.Numbers.{Names, named_at, number_is}
use Rattle.numbered_rows.proofs.States.{has_row-holding}
use Rattle.object_bits.specs.declared.object.Object.TheVariants as object

-- ---- the numbers of a row's holding

either : (x y : Bool) → (x || y) ≡ true → (x ≡ true) ⊎ (y ≡ true)
either true y is = inl refl
either false y is = inr is

alone : (m k n : ℕ) → (m == n) ≡ true → (m ≡ n) ⊎ (k ≡ n)
alone m k n same = inl (eqb-true m n same)

both : (m k n : ℕ) → (m == n || k == n) ≡ true → (m ≡ n) ⊎ (k ≡ n)
both m k n same =
    elim (either (m == n) (k == n) same) [
      | inl first ↦ inl (eqb-true m n first)
      | inr second ↦ inr (eqb-true k n second)
    ]

shape_names : (row : Row) (m k n : ℕ) → names_number n (shape row m k) ≡ true → (m ≡ n) ⊎ (k ≡ n)
shape_names (Edge role to) m k n named = both m k n named
shape_names (Admin role to) m k n named = both m k n named
shape_names (Default of role) m k n named = both m k n named
shape_names (Account a) m k n named = both m k n named
shape_names _ m k n named = alone m k n named

-- the accounts of a row's holding stand
pub stand_with : (names : Names) (row : Row) (h : Holding) → is_account row ≡ false → holding_of names row ≡ Some h → (n : ℕ) → names_number n h ≡ true → name_at names n ≡ None → ⊥
stand_with names row h other is n named free =
    by (number_of names (first_of row)) refl (number_of names (second_of row)) refl (sym (in_parts names row other) ∙ is)
  where
    at : (a : AuthId) (k : ℕ) → number_of names a ≡ Some k → k ≡ n → ⊥
    at a k found same = cc (named_at names a k found, ap (name_at names) same, free)

    by : (o : Option ℕ) → number_of names (first_of row) ≡ o → (u : Option ℕ) → number_of names (second_of row) ≡ u → two_numbers (shape row) o u ≡ Some h → ⊥
    by None found u known same = cc
    by (Some m) found None known same = cc
    by (Some m) found (Some k) known same =
        let equal : shape row m k ≡ h = cc in
        elim (shape_names row m k n (ap (names_number n) equal ∙ named)) [
          | inl first ↦ at (first_of row) m found first
          | inr second ↦ at (second_of row) k known second
        ]

-- ---- what changes keep

module _ (names : Names) (old new : Holdings) (h : Holding) where
  pub well_with : (row : Row) → is_account row ≡ false → holding_of names row ≡ Some h → IsWith old new h → IsNumberedWell names old → IsNumberedWell names new
  well_with row other is comes well n free g named = comes g ∙ rw (well n free g named) (by (same_holding g h) refl)
    where
      by : (t : Bool) → same_holding g h ≡ t → t ≡ false
      by false differs = refl
      by true same = absurd (stand_with names row h other is n (ap (names_number n) (sym (equal_from_same_holding g h same)) ∙ named) free)

  pub well_without : IsWithout old new h → IsNumberedWell names old → IsNumberedWell names new
  well_without goes well n free g named = goes g ∙ rw (well n free g named) refl

pub well_alike : (names : Names) (old new : Holdings) → HoldAlike old new → IsNumberedWell names old → IsNumberedWell names new
well_alike names old new alike well n free g named = alike g ∙ well n free g named

module _ (old new : Names) (number : ℕ) (holdings : Holdings) where
  pub well_named : (a : AuthId) → ChangesOnly old new number (Some a) → IsNumberedWell old holdings → IsNumberedWell new holdings
  well_named a only well n free = by (n == number) refl
    where
      by : (t : Bool) → (n == number) ≡ t → IsUnused holdings n
      by true at = cc (only n, at, free)
      by false apart =
          let same : name_at new n ≡ name_at old n = only n ∙ rw apart refl in
          well n (sym same ∙ free)

  pub well_removed : ChangesOnly old new number None → IsUnused holdings number → IsNumberedWell old holdings → IsNumberedWell new holdings
  well_removed only unused well n free = by (n == number) refl
    where
      by : (t : Bool) → (n == number) ≡ t → IsUnused holdings n
      by true at = subst (λ k. IsUnused holdings k) (sym (eqb-true n number at)) unused
      by false apart =
          let same : name_at new n ≡ name_at old n = only n ∙ rw apart refl in
          well n (sym same ∙ free)

-- ---- an account that no row names is named by nothing that is held

module _ (names : Names) (once : HasEachOnce same_auth names) where
  number_back : (n : ℕ) (b : AuthId) → name_at names n ≡ Some b → number_of names (name_of names n) ≡ Some n
  number_back n b is = number_is names once (name_of names n) n (is ∙ ap (λ a. Some a) (sym (ap name_or_root is)))

  module _ (h : Holding) (stand : (n : ℕ) → names_number n h ≡ true → (b : AuthId) × (name_at names n ≡ Some b)) where
    back : (n : ℕ) → names_number n h ≡ true → number_of names (name_of names n) ≡ Some n
    back n named = let there = stand n named in number_back n there.0 there.1

two_back : (holding : ℕ → ℕ → Holding) (o u : Option ℕ) (m n : ℕ) → o ≡ Some m → u ≡ Some n → two_numbers holding o u ≡ Some (holding m n)
two_back holding o u m n first second = rw (first, second) refl

module _ (names : Names) (once : HasEachOnce same_auth names) where
  abbrev Stand : Holding → Type 0
  Stand h = (n : ℕ) → names_number n h ≡ true → (b : AuthId) × (name_at names n ≡ Some b)

  -- the holding of a holding's row is that holding
  pub holding_again : (h : Holding) → Stand h → holding_of names (row_of names h) ≡ Some h
  holding_again (held.OnAll kind.Static n p) stand = ap (one_number (λ k. held.OnAll kind.Static k p)) (back names once (held.OnAll kind.Static n p) stand n (eq-eqb n n refl))
  holding_again (held.OnAll kind.Dynamic n p) stand = ap (one_number (λ k. held.OnAll kind.Dynamic k p)) (back names once (held.OnAll kind.Dynamic n p) stand n (eq-eqb n n refl))
  holding_again (held.OnAll kind.Grantable n p) stand = ap (one_number (λ k. held.OnAll kind.Grantable k p)) (back names once (held.OnAll kind.Grantable n p) stand n (eq-eqb n n refl))
  holding_again (held.OnSchema n s p) stand = ap (one_number (λ k. held.OnSchema k s p)) (back names once (held.OnSchema n s p) stand n (eq-eqb n n refl))
  holding_again (held.Restricted n s p) stand = ap (one_number (λ k. held.Restricted k s p)) (back names once (held.Restricted n s p) stand n (eq-eqb n n refl))
  holding_again (held.OnObject n (object.Table s t) p) stand =
      ap (one_number (λ k. held.OnObject k (object.Table s t) p)) (back names once (held.OnObject n (object.Table s t) p) stand n (eq-eqb n n refl))
  holding_again (held.OnObject n (object.Column s t c) p) stand =
      ap (one_number (λ k. held.OnObject k (object.Column s t c) p)) (back names once (held.OnObject n (object.Column s t c) p) stand n (eq-eqb n n refl))
  holding_again (held.OnObject n (object.Function s f) p) stand =
      ap (one_number (λ k. held.OnObject k (object.Function s f) p)) (back names once (held.OnObject n (object.Function s f) p) stand n (eq-eqb n n refl))
  holding_again (held.OnObject n (object.Procedure s f) p) stand =
      ap (one_number (λ k. held.OnObject k (object.Procedure s f) p)) (back names once (held.OnObject n (object.Procedure s f) p) stand n (eq-eqb n n refl))
  holding_again (held.Edge role to) stand =
      two_back held.Edge (number_of names (name_of names role)) (number_of names (name_of names to)) role to
      (back names once (held.Edge role to) stand role (rw (eq-eqb role role refl) refl)) (back names once (held.Edge role to) stand to (rw (eq-eqb to to refl) (or_last (role == to))))
  holding_again (held.Admin role to) stand =
      two_back held.Admin (number_of names (name_of names role)) (number_of names (name_of names to)) role to
      (back names once (held.Admin role to) stand role (rw (eq-eqb role role refl) refl)) (back names once (held.Admin role to) stand to (rw (eq-eqb to to refl) (or_last (role == to))))
  holding_again (held.Default of role) stand =
      two_back held.Default (number_of names (name_of names of)) (number_of names (name_of names role)) of role
      (back names once (held.Default of role) stand of (rw (eq-eqb of of refl) refl)) (back names once (held.Default of role) stand role (rw (eq-eqb role role refl) (or_last (of == role))))

module _ (names : Names) (a : AuthId) (number : ℕ) (is : name_at names number ≡ Some a) where
  one_named : (n : ℕ) → (n == number) ≡ true → same_auth a (name_of names n) ≡ true
  one_named n same =
      ap (λ o. same_auth a (name_or_root o)) (ap (name_at names) (eqb-true n number same) ∙ is) ∙ same_auth_itself a

  two_named : (m n : ℕ) → (m == number || n == number) ≡ true → (same_auth a (name_of names m) || same_auth a (name_of names n)) ≡ true
  two_named m n same =
      elim (either (m == number) (n == number) same) [
        | inl first ↦ rw (one_named m first) refl
        | inr second ↦ rw (one_named n second) (or_last (same_auth a (name_of names m)))
      ]

  -- the row names the account
  pub row_names : (h : Holding) → names_number number h ≡ true → some_name (same_auth a) (row_of names h) ≡ true
  row_names (held.OnAll kind.Static n p) named = one_named n named
  row_names (held.OnAll kind.Dynamic n p) named = one_named n named
  row_names (held.OnAll kind.Grantable n p) named = one_named n named
  row_names (held.OnSchema n s p) named = one_named n named
  row_names (held.Restricted n s p) named = one_named n named
  row_names (held.OnObject n (object.Table s t) p) named = one_named n named
  row_names (held.OnObject n (object.Column s t c) p) named = one_named n named
  row_names (held.OnObject n (object.Function s f) p) named = one_named n named
  row_names (held.OnObject n (object.Procedure s f) p) named = one_named n named
  row_names (held.Edge role to) named = two_named role to named
  row_names (held.Admin role to) named = two_named role to named
  row_names (held.Default of role) named = two_named of role named

pub no_account_row : (names : Names) (h : Holding) → is_account (row_of names h) ≡ false
no_account_row names (held.OnAll kind.Static n p) = refl
no_account_row names (held.OnAll kind.Dynamic n p) = refl
no_account_row names (held.OnAll kind.Grantable n p) = refl
no_account_row names (held.OnObject n (object.Table s t) p) = refl
no_account_row names (held.OnObject n (object.Column s t c) p) = refl
no_account_row names (held.OnObject n (object.Function s f) p) = refl
no_account_row names (held.OnObject n (object.Procedure s f) p) = refl
no_account_row names _ = refl

module _ (tables : Tables) (once : HasEachOnce same_auth tables.accounts.names) (well : IsNumberedWell tables.accounts.names tables.holdings) where
  -- the accounts of what is held stand
  pub held_stand : (h : Holding) → holds tables.holdings h ≡ true → (n : ℕ) → names_number n h ≡ true → (b : AuthId) × (name_at tables.accounts.names n ≡ Some b)
  held_stand h stands n named = by (name_at tables.accounts.names n) refl
    where
      by : (o : Option AuthId) → name_at tables.accounts.names n ≡ o → (b : AuthId) × (name_at tables.accounts.names n ≡ Some b)
      by None free = absurd (true≢false (sym stands ∙ well n free h named))
      by (Some b) is = (b, is)

  -- what is held is a row that stands
  pub row_stands : (h : Holding) → holds tables.holdings h ≡ true → has_row tables (row_of tables.accounts.names h) ≡ true
  row_stands h stands =
      has_row-holding tables (row_of tables.accounts.names h) (no_account_row tables.accounts.names h)
      ∙ ap (holds_some tables.holdings) (holding_again tables.accounts.names once h (held_stand h stands)) ∙ stands

  pub unused_from_unnamed : (a : AuthId) (number : ℕ) → name_at tables.accounts.names number ≡ Some a → IsUnnamed (state_of tables) a → IsUnused tables.holdings number
  unfolding state_of
  unused_from_unnamed a number is unnamed h named = by (holds tables.holdings h) refl
    where
      by : (t : Bool) → holds tables.holdings h ≡ t → t ≡ false
      by false stands = refl
      by true stands =
          absurd (unnamed (row_of tables.accounts.names h) (no_account_row tables.accounts.names h) (row_stands h stands) (row_names tables.accounts.names a number is h named))
