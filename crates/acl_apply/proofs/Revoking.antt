-- REVOKE of privileges, and of all privileges.
use Rattle.std.proofs.Common.{◌≡◌, ◌∙◌, ap, sym, subst, true, false, cond, not, ◌&&◌, List, [], Option, Some, None, refl, IsTrue}
use Rattle.std.proofs.Math.Bool.{and-false}
use Rattle.std.specs.List.{find}
use Rattle.std.specs.Option.{option_map, option_or}
use Rattle.acl_names.specs.declared.auth.AuthId.{AuthId}
use Rattle.acl_model.specs.Effects.{changed, gives, takes}
use Rattle.acl_model.specs.Refusals.{first_fault, may_revoke, no_account}
use Rattle.acl_model.specs.State.{State, stands}
use Rattle.acl_model.specs.declared.row.Row.{Row}
use Rattle.acl_model.specs.declared.row.Row.TheVariants.{Account, DynamicGrant, Edge, Admin}
use Rattle.acl_stmt.specs.Statements.{is_statement}
use Rattle.acl_stmt.specs.declared.privileges.PrivList.{PrivList}
use Rattle.acl_stmt.specs.declared.refusal.Refusal.{Refusal}
use Rattle.acl_stmt.specs.declared.refusal.Refusal.TheVariants.{AccountExists, Mandatory, NoMemory, NoSuchAccount, NoSuchGrant}
use Rattle.acl_stmt.specs.declared.statement.Statement.TheVariants.{Revoke, RevokeAll}
use Rattle.acl_stmt.specs.declared.target.Target.{Target}
use Rattle.revoke_effects.proofs.Lawful.{given_level, given_names}
use Rattle.acl_rows.proofs.RowLists.{has, not_both}
use Rattle.acl_rows.specs.Lists.{HasBasis, IsClosed, IsReadyAmong, with_rows, without_rows}
use Rattle.acl_apply.proofs.ByLists.{IsPlain, by_lists, by_one_list, closed_by, names_left}
use Rattle.acl_apply.specs.Causes.{IsWantOrFault}
use Rattle.acl_apply.specs.Revoked.{IsRevokeCause}

-- ---- what is refused

revoke_fault : (s : State) (privileges : PrivList) (target : Target) (accounts : List AuthId) → first_fault s (Revoke privileges target accounts)
    ≡ option_or (no_account s accounts) (option_map (λ a. NoSuchGrant a) (find (λ a. not (may_revoke s privileges target a)) accounts))
unfolding first_fault
revoke_fault s privileges target accounts = refl

not_another : (o : Option AuthId) (e : Refusal) → ((a : AuthId) → NoSuchAccount a ≡ e → ⊥) → option_map (λ a. NoSuchAccount a) o ≡ Some e → ⊥
not_another None e other is = cc
not_another (Some a) e other is =
    let same : NoSuchAccount a ≡ e = cc in
    other a same

-- an account that does not stand refuses the statement
pub missing_cause : (s : State) (privileges : PrivList) (target : Target) (accounts : List AuthId) (e : Refusal) → IsWantOrFault (no_account s accounts) e → IsRevokeCause s privileges target accounts e
missing_cause s privileges target accounts NoMemory is = tt
missing_cause s privileges target accounts (NoSuchAccount a) is =
    revoke_fault s privileges target accounts
    ∙ ap (λ o. option_or o (option_map (λ a. NoSuchGrant a) (find (λ a. not (may_revoke s privileges target a)) accounts))) is
missing_cause s privileges target accounts (AccountExists a) is = absurd (not_another (find (λ b. not (stands s b)) accounts) (AccountExists a) (λ b same. cc) is)
missing_cause s privileges target accounts (Mandatory a) is = absurd (not_another (find (λ b. not (stands s b)) accounts) (Mandatory a) (λ b same. cc) is)
missing_cause s privileges target accounts (NoSuchGrant a) is = absurd (not_another (find (λ b. not (stands s b)) accounts) (NoSuchGrant a) (λ b same. cc) is)
missing_cause s privileges target accounts _ is = absurd is

pub memory_cause : (s : State) (privileges : PrivList) (target : Target) (accounts : List AuthId) (e : Refusal) → e ≡ NoMemory → IsRevokeCause s privileges target accounts e
memory_cause s privileges target accounts e is = subst (λ (r : Refusal). IsRevokeCause s privileges target accounts r) (sym is) tt

pub all_missing_fault : (s : State) (accounts : List AuthId) → no_account s accounts ≡ first_fault s (RevokeAll accounts)
unfolding first_fault
all_missing_fault s accounts = refl

-- ---- what goes and what comes

module _ (privileges : PrivList) (target : Target) (accounts : List AuthId) (s : State) (gone come : List Row)
    (are_gone : (row : Row) → has gone row ≡ (s.rows row && takes [] (Revoke privileges target accounts) row))
    (are_come : (row : Row) → has come row ≡ gives [] (Revoke privileges target accounts) s row) where
  plain : IsPlain [] (Revoke privileges target accounts) s
  plain = record { rows = λ row. refl; known = λ a. ap (λ t. cond t None (s.account_data a)) (and-false (s.rows (Account a))); names = refl; active = refl }

  pub revoke_closed : IsClosed s gone
  revoke_closed = closed_by ([]) (Revoke privileges target accounts) s gone are_gone

  stay_there : (a : AuthId) → has gone (Account a) ≡ false
  stay_there a = are_gone (Account a) ∙ and-false (s.rows (Account a))

  basis : (row : Row) → gives [] (Revoke privileges target accounts) s row ≡ true → HasBasis (without_rows gone s) come row
  basis (Account a) given = not_both given
  basis (Edge role to) given = not_both given
  basis (Admin role to) given = not_both given
  basis (DynamicGrant a d) given = absurd (not_both given)
  basis _ given = tt

  pub revoke_ready : is_statement (Revoke privileges target accounts) ≡ true → first_fault s (Revoke privileges target accounts) ≡ None → (cur : State) → cur ≡ without_rows gone s
      → (row : Row) → IsTrue (has come row) → IsReadyAmong cur come row
  revoke_ready legal none cur is row there =
      let given : gives [] (Revoke privileges target accounts) s row ≡ true = sym (are_come row) ∙ there in
      subst (λ (st : State). IsReadyAmong st come row) (sym is)
      (record {
        names = names_left s gone come stay_there row (given_names privileges target accounts s row none given);
        level = given_level privileges target accounts s row legal given;
        basis = basis row given;
      })

  pub revoked : (cur now : State) → cur ≡ without_rows gone s → now ≡ with_rows come cur → now ≡ changed [] (Revoke privileges target accounts) s
  revoked cur now is comes =
      comes ∙ ap (with_rows come) is ∙ by_lists ([]) (Revoke privileges target accounts) s gone come are_gone are_come plain

-- ---- all privileges

all_gives_none : (s : State) (accounts : List AuthId) (row : Row) → false ≡ gives [] (RevokeAll accounts) s row
all_gives_none s accounts (Account a) = refl
all_gives_none s accounts _ = refl

module _ (accounts : List AuthId) (s : State) (gone : List Row)
    (are_gone : (row : Row) → has gone row ≡ (s.rows row && takes [] (RevokeAll accounts) row)) where
  pub all_closed : IsClosed s gone
  all_closed = closed_by ([]) (RevokeAll accounts) s gone are_gone

  all_plain : IsPlain [] (RevokeAll accounts) s
  all_plain = record { rows = λ row. refl; known = λ a. ap (λ t. cond t None (s.account_data a)) (and-false (s.rows (Account a))); names = refl; active = refl }

  pub all_revoked : (now : State) → now ≡ without_rows gone s → now ≡ changed [] (RevokeAll accounts) s
  all_revoked now is = is ∙ by_one_list ([]) (RevokeAll accounts) s gone are_gone (all_gives_none s accounts) all_plain
