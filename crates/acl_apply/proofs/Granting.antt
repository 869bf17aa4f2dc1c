-- GRANT of privileges.
use Rattle.std.proofs.Common.{◌≡◌, ◌∙◌, ap, sym, subst, ℕ, Bool, true, false, cond, ◌&&◌, ◌||◌, List, None, refl, IsTrue}
use Rattle.std.proofs.Math.Bool.{and-false, or-true}
use Rattle.acl_names.specs.declared.auth.AuthId.{AuthId}
use Rattle.acl_model.specs.Effects.{changed, gives, takes}
use Rattle.acl_model.specs.Refusals.{first_fault, no_account}
use Rattle.acl_model.specs.State.{State}
use Rattle.acl_model.specs.declared.row.Row.{Row}
use Rattle.acl_model.specs.declared.row.Row.TheVariants.{Account, Dynamic, DynamicGrant, Edge, Admin}
use Rattle.acl_rows.specs.Conditions.{has_its_level, names_stand}
use Rattle.acl_stmt.specs.declared.limit.Limit.{Limit}
use Rattle.acl_stmt.specs.declared.privileges.PrivList.{PrivList}
use Rattle.acl_stmt.specs.declared.statement.Statement.TheVariants.{Grant}
use Rattle.acl_stmt.specs.declared.target.Target.{Target}
use Rattle.acl_stmt.specs.declared.target.Target.TheVariants as on
use Rattle.acl_rows.proofs.RowLists.{has, not_both}
use Rattle.acl_rows.specs.Lists.{HasBasis, IsClosed, IsReadyAmong, with_rows, without_rows}
use Rattle.acl_apply.proofs.ByLists.{IsPlain, by_lists, closed_by, names_left}

-- an account that does not stand refuses the grant, and nothing else does
pub grant_fault : (s : State) (privileges : PrivList) (target : Target) (accounts : List AuthId) (option : Bool) → no_account s accounts ≡ first_fault s (Grant privileges target accounts option)
unfolding first_fault
grant_fault s privileges target accounts option = refl

-- the grant option of a dynamic privilege comes with it
option_alone : (w l n : Bool) → (w && l && n) ≡ true → (l && n) ≡ true
option_alone true l n given = given
option_alone false l n given = absurd (not_both given)

dynamic_given : (limits : List Limit) (privileges : PrivList) (target : Target) (accounts : List AuthId) (option : Bool) (s : State) (a : AuthId) (d : ℕ)
    → gives limits (Grant privileges target accounts option) s (DynamicGrant a d) ≡ true → gives limits (Grant privileges target accounts option) s (Dynamic a d) ≡ true
dynamic_given limits privileges on.Global accounts option s a d given = option_alone option _ _ given
dynamic_given limits privileges (on.Schema schema) accounts option s a d given = given
dynamic_given limits privileges (on.Table schema table) accounts option s a d given = given
dynamic_given limits privileges (on.Function schema name) accounts option s a d given = given
dynamic_given limits privileges (on.Procedure schema name) accounts option s a d given = given

module _ (limits : List Limit) (privileges : PrivList) (target : Target) (accounts : List AuthId) (option : Bool) (s : State) (gone come : List Row)
    (are_gone : (row : Row) → has gone row ≡ (s.rows row && takes limits (Grant privileges target accounts option) row))
    (are_come : (row : Row) → has come row ≡ gives limits (Grant privileges target accounts option) s row) where
  plain : IsPlain limits (Grant privileges target accounts option) s
  plain = record { rows = λ row. refl; known = λ a. ap (λ t. cond t None (s.account_data a)) (and-false (s.rows (Account a))); names = refl; active = refl }

  pub grant_closed : IsClosed s gone
  grant_closed = closed_by limits (Grant privileges target accounts option) s gone are_gone

  stay_there : (a : AuthId) → has gone (Account a) ≡ false
  stay_there a = are_gone (Account a) ∙ and-false (s.rows (Account a))

  basis : (row : Row) → has come row ≡ true → HasBasis (without_rows gone s) come row
  basis (Account a) there = not_both (sym (are_come (Account a)) ∙ there)
  basis (Edge role to) there = not_both (sym (are_come (Edge role to)) ∙ there)
  basis (Admin role to) there = not_both (sym (are_come (Admin role to)) ∙ there)
  basis (DynamicGrant a d) there =
      ap (λ t. (without_rows gone s).rows (Dynamic a d) || t)
      (are_come (Dynamic a d) ∙ dynamic_given limits privileges target accounts option s a d (sym (are_come (DynamicGrant a d)) ∙ there)) ∙ or-true ((without_rows gone s).rows (Dynamic a d))
  basis _ there = tt

  pub grant_ready : ((row : Row) → gives limits (Grant privileges target accounts option) s row ≡ true → (names_stand s row ≡ true) × (has_its_level row ≡ true))
      → (cur : State) → cur ≡ without_rows gone s → (row : Row) → IsTrue (has come row) → IsReadyAmong cur come row
  grant_ready facts cur is row there =
      let f = facts row (sym (are_come row) ∙ there) in
      subst (λ (st : State). IsReadyAmong st come row) (sym is)
      (record {
        names = names_left s gone come stay_there row f.0;
        level = f.1;
        basis = basis row there;
      })

  pub granted : (cur now : State) → cur ≡ without_rows gone s → now ≡ with_rows come cur → now ≡ changed limits (Grant privileges target accounts option) s
  granted cur now is comes =
      comes ∙ ap (with_rows come) is ∙ by_lists limits (Grant privileges target accounts option) s gone come are_gone are_come plain
