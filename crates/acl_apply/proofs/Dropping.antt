-- DROP USER.
use Rattle.std.proofs.Common.{◌≡◌, ◌∙◌, ap, sym, Bool, true, false, cond, ◌&&◌, ◌||◌, List, [], Option, Some, None, refl}
use Rattle.std.proofs.Math.Bool.{or-false}
use Rattle.std.specs.List.{find}
use Rattle.std.specs.Option.{option_map, option_or}
use Rattle.acl_names.specs.declared.auth.AuthId.{AuthId}
use Rattle.acl_model.specs.Effects.{changed, gives, takes}
use Rattle.acl_model.specs.Refusals.{first_fault, first_gone}
use Rattle.acl_model.specs.Rows.{lists, some_name}
use Rattle.acl_model.specs.State.{State, is_mandatory, stands}
use Rattle.acl_model.specs.declared.account_data.AccountData.{AccountData}
use Rattle.acl_model.specs.declared.row.Row.{Row}
use Rattle.acl_model.specs.declared.row.Row.TheVariants.{Account}
use Rattle.acl_rows.specs.Tables.{Tables, state_of}
use Rattle.acl_stmt.specs.declared.refusal.Refusal.{Refusal}
use Rattle.acl_stmt.specs.declared.refusal.Refusal.TheVariants.{Mandatory, NoSuchAccount}
use Rattle.acl_stmt.specs.declared.statement.Statement.TheVariants.{DropUser}
use Rattle.acl_rows.proofs.RowLists.{has}
use Rattle.acl_rows.specs.Lists.{IsClosed, without_rows}
use Rattle.acl_apply.proofs.ByLists.{IsPlain, by_one_list, closed_by, unknown}

abbrev missing : State → List AuthId → Option Refusal
missing s accounts = option_map (λ a. NoSuchAccount a) (first_gone (stands s) accounts)

abbrev kept : State → List AuthId → Option Refusal
kept s accounts = option_map (λ a. Mandatory a) (find (λ a. stands s a && is_mandatory s a) accounts)

-- ---- what is refused

drop_fault : (s : State) (exists : Bool) (accounts : List AuthId) → first_fault s (DropUser exists accounts) ≡ option_or (cond exists None (missing s accounts)) (kept s accounts)
unfolding first_fault
drop_fault s exists accounts = refl

pub fault_if_exists : (s : State) (exists : Bool) (accounts : List AuthId) → exists ≡ true → first_fault s (DropUser exists accounts) ≡ kept s accounts
fault_if_exists s exists accounts is = drop_fault s exists accounts ∙ ap (λ b. option_or (cond b None (missing s accounts)) (kept s accounts)) is

fault_else : (s : State) (exists : Bool) (accounts : List AuthId) → exists ≡ false → first_fault s (DropUser exists accounts) ≡ option_or (missing s accounts) (kept s accounts)
fault_else s exists accounts is = drop_fault s exists accounts ∙ ap (λ b. option_or (cond b None (missing s accounts)) (kept s accounts)) is

pub fault_if_all : (s : State) (exists : Bool) (accounts : List AuthId) → exists ≡ false → missing s accounts ≡ None → first_fault s (DropUser exists accounts) ≡ kept s accounts
fault_if_all s exists accounts is none = fault_else s exists accounts is ∙ ap (λ o. option_or o (kept s accounts)) none

pub fault_if_gone : (s : State) (exists : Bool) (accounts : List AuthId) → exists ≡ false → (e : Refusal) → missing s accounts ≡ Some e → first_fault s (DropUser exists accounts) ≡ Some e
fault_if_gone s exists accounts is e some = fault_else s exists accounts is ∙ ap (λ o. option_or o (kept s accounts)) some

pub none_if_exists : (s : State) (exists : Bool) (accounts : List AuthId) → exists ≡ true → kept s accounts ≡ None → first_fault s (DropUser exists accounts) ≡ None
none_if_exists s exists accounts is none = fault_if_exists s exists accounts is ∙ none

pub none_if_all : (s : State) (exists : Bool) (accounts : List AuthId) → exists ≡ false → missing s accounts ≡ None → kept s accounts ≡ None → first_fault s (DropUser exists accounts) ≡ None
none_if_all s exists accounts is all none = fault_if_all s exists accounts is all ∙ none

-- ---- what goes

takes_naming : (exists : Bool) (accounts : List AuthId) (row : Row) → some_name (lists accounts) row ≡ takes [] (DropUser exists accounts) row
takes_naming exists accounts (Account a) = sym (or-false (lists accounts a))
takes_naming exists accounts row = sym (or-false (some_name (lists accounts) row))

gives_none : (s : State) (exists : Bool) (accounts : List AuthId) (row : Row) → false ≡ gives [] (DropUser exists accounts) s row
gives_none s exists accounts (Account a) = refl
gives_none s exists accounts _ = refl

none_known : (l : Bool) (d : Option AccountData) → d ≡ None → d ≡ cond l None d
none_known true d none = none
none_known false d none = refl

plain : (s : State) (exists : Bool) (accounts : List AuthId) → ((a : AuthId) → stands s a ≡ false → s.account_data a ≡ None) → IsPlain [] (DropUser exists accounts) s
plain s exists accounts absent = record { rows = λ row. refl; known = λ a. at a (stands s a) refl; names = refl; active = refl }
  where
    at : (a : AuthId) (t : Bool) → stands s a ≡ t → cond (t && (lists accounts a || false)) None (s.account_data a) ≡ cond (lists accounts a) None (s.account_data a)
    at a true is = ap (λ u. cond u None (s.account_data a)) (or-false (lists accounts a))
    at a false is = none_known (lists accounts a) (s.account_data a) (absent a is)

module _ (s : State) (exists : Bool) (accounts : List AuthId) (gone : List Row) (are : (row : Row) → has gone row ≡ (s.rows row && some_name (lists accounts) row)) where
  abbrev are_taken : (row : Row) → has gone row ≡ (s.rows row && takes [] (DropUser exists accounts) row)
  are_taken row = are row ∙ ap (λ t. s.rows row && t) (takes_naming exists accounts row)

  pub drop_closed : IsClosed s gone
  drop_closed = closed_by ([]) (DropUser exists accounts) s gone are_taken

  pub drop_leaves : ((a : AuthId) → stands s a ≡ false → s.account_data a ≡ None) → without_rows gone s ≡ changed [] (DropUser exists accounts) s
  drop_leaves absent = by_one_list ([]) (DropUser exists accounts) s gone are_taken (gives_none s exists accounts) (plain s exists accounts absent)

-- the state that a list of the rows that name the accounts leaves
pub dropped : (tables : Tables) (exists : Bool) (accounts : List AuthId) (gone : List Row) (now : State)
    → ((row : Row) → has gone row ≡ ((state_of tables).rows row && some_name (lists accounts) row)) → now ≡ without_rows gone (state_of tables)
    → now ≡ changed [] (DropUser exists accounts) (state_of tables)
dropped tables exists accounts gone now are is = is ∙ drop_leaves (state_of tables) exists accounts gone are (unknown tables)
