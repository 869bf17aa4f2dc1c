-- Rows that go, layer by layer.
use Rattle.std.proofs.Common.{◌≡◌, ◌∙◌, ap, sym, subst, ℕ, ◌<◌, ◌+◌, Bool, true, false, cond, not, ◌&&◌, ◌||◌, List, [], ◌∷◌, ◌++◌, Option, None, length, get_or, take, filter, refl, IsTrue}
use Rattle.std.proofs.Math.Bool.{and-true, or-false}
use Rattle.std.proofs.lemmas.Bool.{and_parts}
use Rattle.acl_names.specs.AuthId.{same_auth}
use Rattle.acl_names.specs.declared.auth.AuthId.{AuthId}
use Rattle.acl_model.specs.Rows.{same_row}
use Rattle.acl_model.specs.State.{State}
use Rattle.acl_model.specs.declared.account_data.AccountData.{AccountData}
use Rattle.acl_model.specs.declared.row.Row.{Row}
use Rattle.acl_model.specs.declared.row.Row.TheVariants.{Account, Dynamic, DynamicGrant, Edge, Admin}
use Rattle.row_tables.proofs.States.{same_state}
use Rattle.row_tables.specs.Changes.{data_without, without_row}
use Rattle.row_tables.specs.Conditions.{IsFreeToGo, is_account}
use Rattle.row_tables.specs.Layers.{is_in}
use Rattle.row_tables.specs.Lists.{IsClosed, without_rows}
use Rattle.row_tables.specs.declared.layer.Layer.{Layer}
use Rattle.row_tables.specs.declared.layer.Layer.TheVariants.{Accounts, Holdings, Options}
use Rattle.row_tables.proofs.RowLists.{any-filter, any-more, has, listed, not_both, part_has, passing_more}

-- ---- one row more goes

gone_by : (s g e : Bool) → ((s && not g) && not e) ≡ (s && not (g || e))
gone_by false g e = refl
gone_by true true e = refl
gone_by true false e = refl

known_by : (d : Option AccountData) (g e : Bool) → cond e None (cond g None d) ≡ cond (g || e) None d
known_by d true true = refl
known_by d true false = refl
known_by d false true = refl
known_by d false false = refl

known_without : (s : State) (xs : List Row) (x : Row) (a : AuthId) → data_without x (without_rows xs s) a ≡ (without_rows (xs ++ x ∷ []) s).account_data a
unfolding without_rows
known_without s xs (Account b) a =
    known_by (s.account_data a) (has xs (Account a)) (same_auth a b) ∙ ap (λ t. cond t None (s.account_data a)) (sym (any-more xs (Account b) (Account a)))
known_without s xs x a = ap (λ t. cond t None (s.account_data a)) (sym (any-more xs x (Account a) ∙ or-false (has xs (Account a))))

without_one : (s : State) (xs : List Row) (x : Row) → without_row x (without_rows xs s) ≡ without_rows (xs ++ x ∷ []) s
unfolding without_row without_rows
without_one s xs x = same_state _ _
    (λ row. gone_by (s.rows row) (has xs row) (same_row row x) ∙ ap (λ t. s.rows row && not t) (sym (any-more xs x row)))
    (λ a. known_without s xs x a) refl refl

-- no row goes
pub without_none : (s : State) → s ≡ without_rows [] s
unfolding without_rows
without_none s = same_state _ _ (λ row. sym (and-true (s.rows row))) (λ a. refl) refl refl

pub takes_more : (s cur new : State) (p : Row → Bool) (all : List Row) (i : ℕ) (x : Row) → i < length all → x ≡ get_or all i x → p x ≡ true → new ≡ without_row x cur
    → cur ≡ without_rows (filter p (take i all)) s → new ≡ without_rows (filter p (take (i + 1) all)) s
takes_more s cur new p all i x within is passes ok inv =
    ok ∙ ap (without_row x) inv ∙ without_one s (filter p (take i all)) x ∙ ap (λ xs. without_rows xs s) (sym (passing_more p all i x within is passes))

-- what is free to go stays so when others go
free_after : (s : State) (xs : List Row) (row : Row) → IsFreeToGo s row → IsFreeToGo (without_rows xs s) row
unfolding without_rows
free_after s xs (Account a) free = λ row other there named. free row other (and_parts (s.rows row) (not (has xs row)) there).0 named
free_after s xs (Dynamic a d) free = ap (λ t. t && not (has xs (DynamicGrant a d))) free
free_after s xs (Edge role to) free = ap (λ t. t && not (has xs (Admin role to))) free
free_after s xs _ free = tt

pub free_at : (s cur : State) (p : Row → Bool) (all : List Row) (i : ℕ) (x : Row) → ((row : Row) → IsTrue (has all row) → IsTrue (p row) → IsFreeToGo s row)
    → i < length all → x ≡ get_or all i x → p x ≡ true → cur ≡ without_rows (filter p (take i all)) s → IsFreeToGo cur x
free_at s cur p all i x free within is passes inv =
    subst (λ (st : State). IsFreeToGo st x) (sym inv) (free_after s (filter p (take i all)) x (free x (listed all i x within is) passes))

-- ---- the three layers

taken_with : (t u : Bool) → (t ≡ true → u ≡ true) → (t && not u) ≡ false
taken_with false u goes = refl
taken_with true u goes = ap not (goes refl)

module _ (s : State) (gone : List Row) (closed : IsClosed s gone) where
  abbrev part : Layer → List Row
  part layer = filter (is_in layer) gone

  pub free_options : (row : Row) → IsTrue (has gone row) → IsTrue (is_in Options row) → IsFreeToGo s row
  free_options (Account a) there inside = absurd (not_both inside)
  free_options (Dynamic a d) there inside = absurd (not_both inside)
  free_options (Edge role to) there inside = absurd (not_both inside)
  free_options _ there inside = tt

  holdings_free : (row : Row) → IsTrue (has gone row) → IsTrue (is_in Holdings row) → IsFreeToGo (without_rows (part Options) s) row
  unfolding without_rows
  holdings_free (Account a) there inside = absurd (not_both inside)
  holdings_free (Dynamic a d) there inside = taken_with (s.rows (DynamicGrant a d)) (has (part Options) (DynamicGrant a d))
      (λ stood. part_has (is_in Options) (DynamicGrant a d) gone (closed.of_dynamic a d there stood) refl)
  holdings_free (Edge role to) there inside = taken_with (s.rows (Admin role to)) (has (part Options) (Admin role to))
      (λ stood. part_has (is_in Options) (Admin role to) gone (closed.of_edge role to there stood) refl)
  holdings_free _ there inside = tt

  pub free_holdings : (cur : State) → cur ≡ without_rows (part Options) s → (row : Row) → IsTrue (has gone row) → IsTrue (is_in Holdings row) → IsFreeToGo cur row
  free_holdings cur is row there inside = subst (λ (st : State). IsFreeToGo st row) (sym is) (holdings_free row there inside)

  left_over : (p : Row → Bool) (row : Row) → has gone row ≡ true → p row ≡ true → not (has (filter p gone) row) ≡ true → ⊥
  left_over p row there passes left = not_both (sym (ap not (part_has p row gone there passes)) ∙ left)

  still_there : (row : Row) → is_account row ≡ false → has gone row ≡ true → not (has (part Options) row) ≡ true → not (has (part Holdings) row) ≡ true → ⊥
  still_there (Account a) other there no_option no_holding = cc
  still_there (DynamicGrant a d) other there no_option no_holding = left_over (is_in Options) (DynamicGrant a d) there refl no_option
  still_there (Admin role to) other there no_option no_holding = left_over (is_in Options) (Admin role to) there refl no_option
  still_there row other there no_option no_holding = left_over (is_in Holdings) row there refl no_holding

  accounts_free : (row : Row) → IsTrue (has gone row) → IsTrue (is_in Accounts row) → IsFreeToGo (without_rows (part Holdings) (without_rows (part Options) s)) row
  unfolding without_rows
  accounts_free (Account a) there inside = λ row other stands named.
      let outer = and_parts (s.rows row && not (has (part Options) row)) (not (has (part Holdings) row)) stands in
      let inner = and_parts (s.rows row) (not (has (part Options) row)) outer.0 in
      still_there row other (closed.of_account a row there inner.0 named) inner.1 outer.1
  accounts_free _ there inside = absurd (not_both inside)

  pub free_accounts : (cur next : State) → cur ≡ without_rows (part Options) s → next ≡ without_rows (part Holdings) cur
      → (row : Row) → IsTrue (has gone row) → IsTrue (is_in Accounts row) → IsFreeToGo next row
  free_accounts cur next is follows row there inside =
      subst (λ (st : State). IsFreeToGo st row) (sym (follows ∙ ap (without_rows (part Holdings)) is)) (accounts_free row there inside)

  by_option : (t g : Bool) → (((t && not (g && true)) && not (g && false)) && not (g && false)) ≡ (t && not g)
  by_option false g = refl
  by_option true true = refl
  by_option true false = refl

  by_holding : (t g : Bool) → (((t && not (g && false)) && not (g && true)) && not (g && false)) ≡ (t && not g)
  by_holding false g = refl
  by_holding true true = refl
  by_holding true false = refl

  by_account : (t g : Bool) → (((t && not (g && false)) && not (g && false)) && not (g && true)) ≡ (t && not g)
  by_account false g = refl
  by_account true true = refl
  by_account true false = refl

  by_layer : (row : Row) (t g : Bool) → (((t && not (g && is_in Options row)) && not (g && is_in Holdings row)) && not (g && is_in Accounts row)) ≡ (t && not g)
  by_layer (Account a) t g = by_account t g
  by_layer (DynamicGrant a d) t g = by_option t g
  by_layer (Admin role to) t g = by_option t g
  by_layer row t g = by_holding t g

  rows_gone : (row : Row) → (((s.rows row && not (has (part Options) row)) && not (has (part Holdings) row)) && not (has (part Accounts) row)) ≡ (s.rows row && not (has gone row))
  rows_gone row =
      ap (λ o. ((s.rows row && not o) && not (has (part Holdings) row)) && not (has (part Accounts) row)) (any-filter (is_in Options) row gone)
      ∙ ap (λ h. ((s.rows row && not (has gone row && is_in Options row)) && not h) && not (has (part Accounts) row)) (any-filter (is_in Holdings) row gone)
      ∙ ap (λ a. ((s.rows row && not (has gone row && is_in Options row)) && not (has gone row && is_in Holdings row)) && not a) (any-filter (is_in Accounts) row gone)
      ∙ by_layer row (s.rows row) (has gone row)

  by_known : (d : Option AccountData) (g : Bool) → cond (g && true) None (cond (g && false) None (cond (g && false) None d)) ≡ cond g None d
  by_known d true = refl
  by_known d false = refl

  known_gone : (a : AuthId) (d : Option AccountData) → cond (has (part Accounts) (Account a)) None (cond (has (part Holdings) (Account a)) None (cond (has (part Options) (Account a)) None d)) ≡ cond (has gone (Account a)) None d
  known_gone a d =
      ap (λ t. cond t None (cond (has (part Holdings) (Account a)) None (cond (has (part Options) (Account a)) None d))) (any-filter (is_in Accounts) (Account a) gone)
      ∙ ap (λ t. cond (has gone (Account a) && true) None (cond t None (cond (has (part Options) (Account a)) None d))) (any-filter (is_in Holdings) (Account a) gone)
      ∙ ap (λ t. cond (has gone (Account a) && true) None (cond (has gone (Account a) && false) None (cond t None d))) (any-filter (is_in Options) (Account a) gone)
      ∙ by_known d (has gone (Account a))

  layers_gone : without_rows (part Accounts) (without_rows (part Holdings) (without_rows (part Options) s)) ≡ without_rows gone s
  unfolding without_rows
  layers_gone = same_state _ _ rows_gone (λ a. known_gone a (s.account_data a)) refl refl

  pub all_gone : (cur next last : State) → cur ≡ without_rows (part Options) s → next ≡ without_rows (part Holdings) cur → last ≡ without_rows (part Accounts) next
      → last ≡ without_rows gone s
  all_gone cur next last first second third =
      third ∙ ap (without_rows (part Accounts)) (second ∙ ap (without_rows (part Holdings)) first) ∙ layers_gone
