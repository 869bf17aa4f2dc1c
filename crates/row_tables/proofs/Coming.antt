-- Rows that come, layer by layer.
use Rattle.std.proofs.Common.{◌≡◌, ◌∙◌, ap, sym, subst, ℕ, ◌<◌, ◌+◌, Bool, true, false, ◌&&◌, ◌||◌, List, [], ◌∷◌, ◌++◌, length, get_or, take, filter, refl, IsTrue}
use Rattle.std.proofs.Math.Bool.{and-true, or-false}
use Rattle.std.proofs.lemmas.Bool.{and_from, and_parts}
use Rattle.acl_names.specs.declared.auth.AuthId.{AuthId}
use Rattle.acl_model.specs.Rows.{holder, same_row}
use Rattle.acl_model.specs.State.{State, stands}
use Rattle.acl_model.specs.declared.row.Row.{Row}
use Rattle.acl_model.specs.declared.row.Row.TheVariants.{Account, Dynamic, DynamicGrant, Edge, Admin, Default}
use Rattle.row_tables.proofs.States.{same_state}
use Rattle.row_tables.specs.Changes.{data_with, with_row}
use Rattle.row_tables.specs.Conditions.{IsReadyFor, is_account, names_stand}
use Rattle.row_tables.specs.Layers.{is_in}
use Rattle.row_tables.specs.Lists.{HasBasis, IsReadyAmong, with_rows}
use Rattle.row_tables.specs.declared.layer.Layer.{Layer}
use Rattle.row_tables.specs.declared.layer.Layer.TheVariants.{Holdings, Options}
use Rattle.row_tables.proofs.RowLists.{any-filter, any-more, has, listed, not_both, passing_more}

-- ---- one row more comes

or_or : (a b c : Bool) → ((a || b) || c) ≡ (a || (b || c))
or_or true b c = refl
or_or false b c = refl

data_same : (x : Row) (st : State) (a : AuthId) → is_account x ≡ false → data_with x st a ≡ st.account_data a
data_same (Account b) st a other = cc
data_same _ st a other = refl

with_one : (s : State) (xs : List Row) (x : Row) → is_account x ≡ false → with_row x (with_rows xs s) ≡ with_rows (xs ++ x ∷ []) s
unfolding with_row with_rows
with_one s xs x other = same_state _ _
    (λ row. or_or (s.rows row) (has xs row) (same_row row x) ∙ ap (λ t. s.rows row || t) (sym (any-more xs x row)))
    (λ a. data_same x (with_rows xs s) a other) refl refl

-- no row comes
pub with_none : (s : State) → s ≡ with_rows [] s
unfolding with_rows
with_none s = same_state _ _ (λ row. sym (or-false (s.rows row))) (λ a. refl) refl refl

no_account_comes : (s : State) (come : List Row) (row : Row) → HasBasis s come row → is_account row ≡ false
no_account_comes s come (Account a) basis = absurd basis
no_account_comes s come _ basis = refl

pub puts_more : (s cur new : State) (p : Row → Bool) (all : List Row) (i : ℕ) (x y : Row) → i < length all → x ≡ get_or all i x → p x ≡ true → IsReadyAmong cur [] x → y ≡ x
    → new ≡ with_row y cur → cur ≡ with_rows (filter p (take i all)) s → new ≡ with_rows (filter p (take (i + 1) all)) s
puts_more s cur new p all i x y within is passes ready same ok inv =
    ok ∙ ap (λ (r : Row). with_row r cur) same ∙ ap (with_row x) inv ∙ with_one s (filter p (take i all)) x (no_account_comes cur ([]) x ready.basis)
    ∙ ap (λ xs. with_rows xs s) (sym (passing_more p all i x within is passes))

-- ---- what is ready stays so when others come

module _ (s : State) (xs : List Row) where
  stands_still : (a : AuthId) → stands s a ≡ true → (stands s a || has xs (Account a)) ≡ true
  stands_still a there = ap (λ t. t || has xs (Account a)) there

  both_stand : (a b : AuthId) → (stands s a && stands s b) ≡ true → ((stands s a || has xs (Account a)) && (stands s b || has xs (Account b))) ≡ true
  both_stand a b there =
      let parts = and_parts (stands s a) (stands s b) there in
      and_from (stands s a || has xs (Account a)) (stands s b || has xs (Account b)) (stands_still a parts.0) (stands_still b parts.1)

  names_after : (row : Row) → names_stand s row ≡ true → names_stand (with_rows xs s) row ≡ true
  unfolding with_rows
  names_after (Account a) there = refl
  names_after (Edge role to) there = both_stand role to there
  names_after (Admin role to) there = both_stand role to there
  names_after (Default of role) there = both_stand of role there
  names_after row there = stands_still (holder row) there

  basis_after : (row : Row) → HasBasis s [] row → HasBasis (with_rows xs s) [] row
  unfolding with_rows
  basis_after (DynamicGrant a d) basis = ap (λ t. (t || has xs (Dynamic a d)) || false) (sym (or-false (s.rows (Dynamic a d))) ∙ basis)
  basis_after _ basis = basis

  ready_after : (row : Row) → IsReadyAmong s [] row → IsReadyAmong (with_rows xs s) [] row
  ready_after row ready = record { names = names_after row ready.names; level = ready.level; basis = basis_after row ready.basis }

pub ready_at : (s cur : State) (p : Row → Bool) (all : List Row) (i : ℕ) (x : Row) → ((row : Row) → IsTrue (has all row) → IsTrue (p row) → IsReadyAmong s [] row)
    → i < length all → x ≡ get_or all i x → p x ≡ true → cur ≡ with_rows (filter p (take i all)) s → IsReadyAmong cur [] x
ready_at s cur p all i x ready within is passes inv =
    subst (λ (st : State). IsReadyAmong st [] x) (sym inv) (ready_after s (filter p (take i all)) x (ready x (listed all i x within is) passes))

-- of a copy
pub ready_copy : (s : State) (x y : Row) → y ≡ x → IsReadyAmong s [] x → IsReadyAmong s [] y
ready_copy s x y same ready = subst (λ (r : Row). IsReadyAmong s [] r) (sym same) ready

pub ready_for : (s : State) (row : Row) → HasBasis s [] row → IsReadyFor s row
ready_for s (Account a) basis = absurd basis
ready_for s (Edge role to) basis = absurd basis
ready_for s (Admin role to) basis = absurd basis
ready_for s (DynamicGrant a d) basis = sym (or-false (s.rows (Dynamic a d))) ∙ basis
ready_for s _ basis = tt

-- ---- the two layers

module _ (s : State) (come : List Row) (ready : (row : Row) → IsTrue (has come row) → IsReadyAmong s come row) where
  abbrev part : Layer → List Row
  part layer = filter (is_in layer) come

  basis_alone : (row : Row) → is_in Holdings row ≡ true → HasBasis s come row → HasBasis s [] row
  basis_alone (DynamicGrant a d) inside basis = absurd (not_both inside)
  basis_alone _ inside basis = basis

  pub ready_holdings : (row : Row) → IsTrue (has come row) → IsTrue (is_in Holdings row) → IsReadyAmong s [] row
  ready_holdings row there inside =
      let r = ready row there in
      record { names = r.names; level = r.level; basis = basis_alone row inside r.basis }

  basis_option : (row : Row) → is_in Options row ≡ true → HasBasis s come row → HasBasis (with_rows (part Holdings) s) [] row
  unfolding with_rows
  basis_option (DynamicGrant a d) inside basis =
      or-false (s.rows (Dynamic a d) || has (part Holdings) (Dynamic a d))
      ∙ ap (λ t. s.rows (Dynamic a d) || t) (any-filter (is_in Holdings) (Dynamic a d) come ∙ and-true (has come (Dynamic a d))) ∙ basis
  basis_option (Admin role to) inside basis = absurd basis
  basis_option _ inside basis = absurd (not_both inside)

  pub ready_options : (cur : State) → cur ≡ with_rows (part Holdings) s → (row : Row) → IsTrue (has come row) → IsTrue (is_in Options row) → IsReadyAmong cur [] row
  ready_options cur is row there inside =
      let r = ready row there in
      subst (λ (st : State). IsReadyAmong st [] row) (sym is)
      (record { names = names_after s (part Holdings) row r.names; level = r.level; basis = basis_option row inside r.basis })

  none_listed : (a : AuthId) (t : Bool) → has come (Account a) ≡ t → t ≡ false
  none_listed a true there = absurd (ready (Account a) there).basis
  none_listed a false absent = refl

  by_option : (t g : Bool) → ((t || (g && false)) || (g && true)) ≡ (t || g)
  by_option true g = refl
  by_option false true = refl
  by_option false false = refl

  by_holding : (t g : Bool) → ((t || (g && true)) || (g && false)) ≡ (t || g)
  by_holding true g = refl
  by_holding false true = refl
  by_holding false false = refl

  by_account : (t g : Bool) → g ≡ false → ((t || (g && false)) || (g && false)) ≡ (t || g)
  by_account true g absent = refl
  by_account false true absent = cc
  by_account false false absent = refl

  by_layer : (row : Row) (t : Bool) → ((t || (has come row && is_in Holdings row)) || (has come row && is_in Options row)) ≡ (t || has come row)
  by_layer (Account a) t = by_account t (has come (Account a)) (none_listed a (has come (Account a)) refl)
  by_layer (DynamicGrant a d) t = by_option t (has come (DynamicGrant a d))
  by_layer (Admin role to) t = by_option t (has come (Admin role to))
  by_layer row t = by_holding t (has come row)

  layers_come : with_rows (part Options) (with_rows (part Holdings) s) ≡ with_rows come s
  unfolding with_rows
  layers_come = same_state _ _
      (λ row. ap (λ h. (s.rows row || h) || has (part Options) row) (any-filter (is_in Holdings) row come)
      ∙ ap (λ o. (s.rows row || (has come row && is_in Holdings row)) || o) (any-filter (is_in Options) row come)
      ∙ by_layer row (s.rows row)) (λ a. refl) refl refl

  pub all_come : (cur last : State) → cur ≡ with_rows (part Holdings) s → last ≡ with_rows (part Options) cur → last ≡ with_rows come s
  all_come cur last first second = second ∙ ap (with_rows (part Options)) first ∙ layers_come
