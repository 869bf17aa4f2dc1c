-- A statement's change as rows that go and rows that come.
use Rattle.std.proofs.Common.{◌≡◌, ◌∙◌, ap, sym, ℕ, Bool, true, false, cond, not, ◌&&◌, ◌||◌, List, [], None, refl}
use Rattle.std.proofs.Math.Bool.{or-false, or-true}
use Rattle.std.proofs.lemmas.Bool.{and_from, and_parts}
use Rattle.acl_names.proofs.SameAuth.{equal_from_same_auth}
use Rattle.acl_names.specs.AuthId.{same_auth}
use Rattle.acl_names.specs.declared.auth.AuthId.{AuthId}
use Rattle.acl_model.specs.Accounts.{data_after}
use Rattle.acl_model.specs.Effects.{activation_after, becomes, changed, gives, mandatory_after, stood_before, takes, takes_away}
use Rattle.acl_model.specs.Rows.{holder, some_name}
use Rattle.acl_model.specs.State.{State, stands}
use Rattle.acl_model.specs.Words.{drops, revokes, revokes_all, revokes_dynamic}
use Rattle.acl_model.specs.declared.row.Row.{Row}
use Rattle.acl_model.specs.declared.row.Row.TheVariants.{Account, Dynamic, DynamicGrant, Edge, Admin, Default}
use Rattle.acl_rows.proofs.Puts.{nothing_known}
use Rattle.acl_rows.proofs.States.{same_state}
use Rattle.acl_rows.specs.Conditions.{names_stand}
use Rattle.acl_rows.specs.Tables.{Tables, state_of}
use Rattle.acl_stmt.specs.declared.limit.Limit.{Limit}
use Rattle.acl_stmt.specs.declared.statement.Statement.{Statement}
use Rattle.acl_stmt.specs.declared.target.Target.TheVariants as on
use Rattle.priv_sets.specs.Levels.{grant_option}
use Rattle.acl_rows.proofs.Coming.{with_none}
use Rattle.acl_rows.proofs.RowLists.{has, not_both}
use Rattle.acl_rows.specs.Lists.{IsClosed, with_rows, without_rows}

-- ---- what goes

option_too : (x y z w : Bool) → (x || (y || w)) ≡ true → (x || ((y || z) || w)) ≡ true
option_too true y z w goes = refl
option_too false true z w goes = refl
option_too false false true w goes = refl
option_too false false false w goes = goes

module _ (limits : List Limit) (st : Statement) (s : State) (gone : List Row) (are : (row : Row) → has gone row ≡ (s.rows row && takes limits st row)) where
  takes_option : (a : AuthId) (d : ℕ) → takes limits st (Dynamic a d) ≡ true → takes limits st (DynamicGrant a d) ≡ true
  takes_option a d goes = option_too (drops st a) (revokes_dynamic st a d) (revokes st on.Global a grant_option) (revokes_all st a) goes

  dropped_too : (a b : AuthId) → drops st a ≡ true → same_auth a b ≡ true → drops st b ≡ true
  dropped_too a b dropped same = ap (drops st) (sym (equal_from_same_auth a b same)) ∙ dropped

  one_dropped : (a b c : AuthId) → drops st a ≡ true → (t u : Bool) → same_auth a b ≡ t → same_auth a c ≡ u → (t || u) ≡ true → (drops st b || drops st c) ≡ true
  one_dropped a b c dropped true u same other named = ap (λ t. t || drops st c) (dropped_too a b dropped same)
  one_dropped a b c dropped false true differs same named = ap (λ t. drops st b || t) (dropped_too a c dropped same) ∙ or-true (drops st b)
  one_dropped a b c dropped false false differs other named = absurd (not_both named)

  name_dropped : (a : AuthId) (row : Row) → drops st a ≡ true → some_name (same_auth a) row ≡ true → some_name (drops st) row ≡ true
  name_dropped a (Edge role to) dropped named = one_dropped a role to dropped (same_auth a role) (same_auth a to) refl refl named
  name_dropped a (Admin role to) dropped named = one_dropped a role to dropped (same_auth a role) (same_auth a to) refl refl named
  name_dropped a (Default of role) dropped named = one_dropped a of role dropped (same_auth a of) (same_auth a role) refl refl named
  name_dropped a row dropped named = dropped_too a (holder row) dropped named

  takes_named : (a : AuthId) (row : Row) → takes limits st (Account a) ≡ true → some_name (same_auth a) row ≡ true → takes limits st row ≡ true
  takes_named a row goes named =
      let dropped : drops st a ≡ true = sym (or-false (drops st a)) ∙ goes in
      ap (λ t. t || takes_away limits st row) (name_dropped a row dropped named)

  taken : (row : Row) → has gone row ≡ true → takes limits st row ≡ true
  taken row listed = (and_parts (s.rows row) (takes limits st row) (sym (are row) ∙ listed)).1

  goes_too : (row : Row) → s.rows row ≡ true → takes limits st row ≡ true → has gone row ≡ true
  goes_too row stood goes = are row ∙ and_from (s.rows row) (takes limits st row) stood goes

  -- what stands on a row that goes, goes with it
  pub closed_by : IsClosed s gone
  closed_by = record {
    of_dynamic = λ a d listed stood. goes_too (DynamicGrant a d) stood (takes_option a d (taken (Dynamic a d) listed));
    of_edge = λ role to listed stood. goes_too (Admin role to) stood (taken (Edge role to) listed);
    of_account = λ a row listed stood named. goes_too row stood (takes_named a row (taken (Account a) listed) named);
  }

-- ---- the state after both

-- beside its rows the statement leaves the state as it is, but for what is known of accounts that go
pub record IsPlain (limits : List Limit) (st : Statement) (s : State) : Type 0 where
  pub rows : (row : Row) → stood_before st s row ≡ s.rows row
  pub known : (a : AuthId) → cond (s.rows (Account a) && takes limits st (Account a)) None (s.account_data a) ≡ data_after st s a
  pub names : s.mandatory ≡ mandatory_after st s
  pub active : s.activate_all ≡ activation_after st s

stays : (t k g : Bool) → ((t && not (t && k)) || g) ≡ (g || (t && not k))
stays true true g = sym (or-false g)
stays true false g = sym (or-true g)
stays false k g = sym (or-false g)

pub by_lists : (limits : List Limit) (st : Statement) (s : State) (gone come : List Row)
    → ((row : Row) → has gone row ≡ (s.rows row && takes limits st row)) → ((row : Row) → has come row ≡ gives limits st s row)
    → IsPlain limits st s → with_rows come (without_rows gone s) ≡ changed limits st s
unfolding changed becomes with_rows without_rows
by_lists limits st s gone come are_gone are_come plain = same_state _ _
    (λ row. ap (λ g. (s.rows row && not g) || has come row) (are_gone row)
    ∙ ap (λ g. (s.rows row && not (s.rows row && takes limits st row)) || g) (are_come row)
    ∙ stays (s.rows row) (takes limits st row) (gives limits st s row)
    ∙ ap (λ t. gives limits st s row || (t && not (takes limits st row))) (sym (plain.rows row)))
    (λ a. ap (λ g. cond g None (s.account_data a)) (are_gone (Account a)) ∙ plain.known a) plain.names plain.active

-- no row comes
pub by_one_list : (limits : List Limit) (st : Statement) (s : State) (gone : List Row)
    → ((row : Row) → has gone row ≡ (s.rows row && takes limits st row)) → ((row : Row) → false ≡ gives limits st s row)
    → IsPlain limits st s → without_rows gone s ≡ changed limits st s
by_one_list limits st s gone are_gone none plain = with_none (without_rows gone s) ∙ by_lists limits st s gone ([]) are_gone none plain

-- ---- what comes

module _ (s : State) (gone come : List Row) (stays_there : (a : AuthId) → has gone (Account a) ≡ false) where
  stands_still : (a : AuthId) → stands s a ≡ true → (stands s a && not (has gone (Account a))) ≡ true
  stands_still a there = and_from (stands s a) (not (has gone (Account a))) there (ap not (stays_there a))

  both_stand : (a b : AuthId) → (stands s a && stands s b) ≡ true → ((stands s a && not (has gone (Account a))) && (stands s b && not (has gone (Account b)))) ≡ true
  both_stand a b there =
      let parts = and_parts (stands s a) (stands s b) there in
      and_from (stands s a && not (has gone (Account a))) (stands s b && not (has gone (Account b))) (stands_still a parts.0) (stands_still b parts.1)

  pub names_left : (row : Row) → names_stand s row ≡ true → names_stand (without_rows gone s) row ≡ true
  unfolding without_rows
  names_left (Account a) there = refl
  names_left (Edge role to) there = both_stand role to there
  names_left (Admin role to) there = both_stand role to there
  names_left (Default of role) there = both_stand of role there
  names_left row there = stands_still (holder row) there

-- of an account that does not stand nothing is known
pub unknown : (tables : Tables) (a : AuthId) → stands (state_of tables) a ≡ false → (state_of tables).account_data a ≡ None
unfolding state_of
unknown tables a absent = nothing_known tables.accounts a absent ((state_of tables).account_data a) refl
