-- Rows that have gone and come, taken back.
use Rattle.std.proofs.Common.{◌≡◌, ◌∙◌, ap, sym, refl, ℕ, Bool, true, false, cond, not, ◌||◌, ◌&&◌, List, None, IsTrue}
use Rattle.std.proofs.lemmas.Bool.{true≢false}
use Rattle.acl_model.specs.State.{State}
use Rattle.acl_model.specs.declared.row.Row.{Row}
use Rattle.acl_model.specs.declared.row.Row.TheVariants.{Account, Dynamic, DynamicGrant, Edge}
use Rattle.acl_names.specs.declared.auth.AuthId.{AuthId}
use Rattle.row_tables.proofs.RowLists.{has}
use Rattle.row_tables.proofs.States.{same_state}
use Rattle.row_tables.specs.Lists.{IsClosed, with_rows, without_rows}

module _ (s : State) (gone come : List Row) (stand : (row : Row) → has gone row ≡ true → s.rows row ≡ true)
    (fresh : (row : Row) → has come row ≡ true → (without_rows gone s).rows row ≡ false)
    (no_account_goes : (a : AuthId) → has gone (Account a) ≡ false) (no_account_comes : (a : AuthId) → has come (Account a) ≡ false) where
  row_back : (stood g c : Bool) → (g ≡ true → stood ≡ true) → (c ≡ true → (stood && not g) ≡ false) → (((stood && not g) || c) && not c || g) ≡ stood
  row_back true true true stands new = refl
  row_back true true false stands new = refl
  row_back true false true stands new = absurd (true≢false (new refl))
  row_back true false false stands new = refl
  row_back false true c stands new = absurd (true≢false (sym (stands refl)))
  row_back false false true stands new = refl
  row_back false false false stands new = refl

  fresh_row : (row : Row) → has come row ≡ true → (s.rows row && not (has gone row)) ≡ false
  unfolding without_rows
  fresh_row row there = fresh row there

  -- what is taken back is what was
  pub taken_back : with_rows gone (without_rows come (with_rows come (without_rows gone s))) ≡ s
  unfolding with_rows without_rows
  taken_back =
      same_state _ _ (λ row. row_back (s.rows row) (has gone row) (has come row) (stand row) (fresh_row row))
      (λ a. ap (λ t. cond t None (cond (has gone (Account a)) None (s.account_data a))) (no_account_comes a)
      ∙ ap (λ t. cond t None (s.account_data a)) (no_account_goes a)) refl refl

  module _ (beside : (a : AuthId) (d : ℕ) → IsTrue ((without_rows gone s).rows (DynamicGrant a d)) → IsTrue ((without_rows gone s).rows (Dynamic a d)))
      (no_role_comes : (role to : AuthId) → has come (Edge role to) ≡ false) where
    -- what has come may go again
    pub come_is_closed : IsClosed (with_rows come (without_rows gone s)) come
    unfolding with_rows
    come_is_closed = record {
      of_dynamic = λ a d there stands. by a d there (has come (DynamicGrant a d)) refl stands;
      of_edge = λ role to there stands. absurd (true≢false (sym there ∙ no_role_comes role to));
      of_account = λ a row there stands names. absurd (true≢false (sym there ∙ no_account_comes a));
    }
      where
        either : (t u : Bool) → u ≡ false → (t || u) ≡ true → t ≡ true
        either true u none is = refl
        either false true none is = cc
        either false false none is = cc

        by : (a : AuthId) (d : ℕ) → has come (Dynamic a d) ≡ true → (t : Bool) → has come (DynamicGrant a d) ≡ t
            → ((without_rows gone s).rows (DynamicGrant a d) || has come (DynamicGrant a d)) ≡ true → has come (DynamicGrant a d) ≡ true
        by a d there true is stands = is
        by a d there false is stands =
            absurd (true≢false (sym (beside a d (either ((without_rows gone s).rows (DynamicGrant a d)) (has come (DynamicGrant a d)) is stands)) ∙ fresh (Dynamic a d) there))
