-- What is known beside privileges is known of just the accounts that stand.
use Rattle.std.proofs.Common.{◌≡◌, ◌∙◌, ap, refl, Bool, true, false, cond, not, ◌&&◌, ◌||◌, List, [], ◌∷◌, Option, Some, None, is_some, nat_lt}
use Rattle.std.proofs.lemmas.Bool.{and_parts}
use Rattle.std.specs.List.{list_any}
use Rattle.std.specs.Option.{option_map}
use Rattle.acl_names.proofs.SameAuth.{equal_from_same_auth}
use Rattle.acl_names.specs.AuthId.{same_auth}
use Rattle.acl_names.specs.declared.auth.AuthId.{AuthId}
use Rattle.acl_names.specs.declared.policy.Verifier.{Verifier}
use Rattle.accepted_lists.proofs.Standing.{named_after}
use Rattle.accepted_lists.proofs.Renamed.{was}
use Rattle.accepted_lists.specs.Accepted.{AreAccepted}
use Rattle.accepted_lists.specs.Standing.{HasItsAccounts}
use Rattle.acl_model.specs.Acceptance.{IsAccepted}
use Rattle.acl_model.specs.Accounts.{created, data_after, data_of_old, first_verifier, is_altered}
use Rattle.acl_model.specs.Effects.{after, becomes, changed, state_after, stood_before}
use Rattle.acl_model.specs.Refusals.{first_fault}
use Rattle.acl_model.specs.Renames.{name_before, one_name}
use Rattle.acl_model.specs.Rows.{lists, some_name}
use Rattle.acl_model.specs.State.{State, opening, root, stands}
use Rattle.acl_model.specs.declared.account_data.AccountData.{AccountData}
use Rattle.acl_model.specs.declared.row.Row.{Row}
use Rattle.acl_model.specs.declared.row.Row.TheVariants.{Account, Global, Dynamic, DynamicGrant}
use Rattle.acl_stmt.specs.declared.entry.Entry.{Entry}
use Rattle.acl_stmt.specs.declared.limit.Limit.{Limit}
use Rattle.acl_stmt.specs.declared.options.AccountOptions.{AccountOptions}
use Rattle.acl_stmt.specs.declared.statement.Statement.{Statement}
use Rattle.acl_stmt.specs.declared.statement.Statement.TheVariants.{CreateUser, AlterUser, DropUser, RenameUser, CreateRole, DropRole, SetPassword}

some_mapped : {A B : Type 0} (f : A → B) (o : Option A) → is_some (option_map f o) ≡ is_some o
some_mapped f None = refl
some_mapped f (Some x) = refl

some_first : (a : AuthId) (pairs : List (AuthId × Verifier)) → is_some (first_verifier a pairs) ≡ list_any (λ pair. same_auth a pair.0) pairs
some_first a [] = refl
some_first a (pair ∷ pairs) = by (same_auth a pair.0) (some_first a pairs)
  where
    by : (t : Bool) → is_some (first_verifier a pairs) ≡ list_any (λ p. same_auth a p.0) pairs
        → is_some (cond t (Some pair.1) (first_verifier a pairs)) ≡ (t || list_any (λ p. same_auth a p.0) pairs)
    by true rest = refl
    by false rest = rest

-- an account that stands already is passed over
some_created : (options : AccountOptions) (o : Option Verifier) (stood : Bool) (before : Option AccountData) → is_some before ≡ stood
    → is_some (created options o stood before) ≡ (is_some o || (stood && true))
some_created options None true before known = known
some_created options None false before known = known
some_created options (Some v) true before known = known
some_created options (Some v) false before known = refl

some_role : (listed stood : Bool) (made : AccountData) (before : Option AccountData) → is_some before ≡ stood
    → is_some (cond (listed && not stood) (Some made) before) ≡ (listed || (stood && true))
some_role true true made before known = known
some_role true false made before known = refl
some_role false true made before known = known
some_role false false made before known = known

some_altered : (altered : Bool) (change : AccountData → AccountData) (stood : Bool) (before : Option AccountData) → is_some before ≡ stood
    → is_some (cond altered (option_map change before) before) ≡ (stood && true)
some_altered true change true before known = some_mapped change before ∙ known
some_altered true change false before known = some_mapped change before ∙ known
some_altered false change true before known = known
some_altered false change false before known = known

some_dropped : (dropped stood : Bool) (before : Option AccountData) → is_some before ≡ stood → is_some (cond dropped None before) ≡ (stood && not (dropped || false))
some_dropped true true before known = refl
some_dropped true false before known = refl
some_dropped false true before known = known
some_dropped false false before known = known

still : (stood : Bool) (before : Option AccountData) → is_some before ≡ stood → is_some before ≡ (stood && true)
still true before known = known
still false before known = known

module _ (limits : List Limit) (state : State) (accounts : HasItsAccounts state) where
  some_renamed : (o : Option AuthId) → is_some (data_of_old state o) ≡ (was state (one_name Account o) && true)
  some_renamed None = refl
  some_renamed (Some x) = still (stands state x) (state.account_data x) (accounts.known x)

  pub known_after : (s : Statement) (a : AuthId) → is_some (data_after s state a) ≡ becomes limits s state (Account a) (stood_before s state (Account a))
  unfolding becomes
  known_after (CreateUser if_not_exists listed options) a =
      some_created options (first_verifier a listed) (stands state a) (state.account_data a) (accounts.known a)
      ∙ ap (λ t. t || (stands state a && true)) (some_first a listed)
  known_after (CreateRole if_not_exists roles) a = some_role (lists roles a) (stands state a) _ (state.account_data a) (accounts.known a)
  known_after (AlterUser listed options) a = some_altered (is_altered a listed) _ (stands state a) (state.account_data a) (accounts.known a)
  known_after (DropUser if_exists listed) a = some_dropped (lists listed a) (stands state a) (state.account_data a) (accounts.known a)
  known_after (DropRole if_exists roles) a = some_dropped (lists roles a) (stands state a) (state.account_data a) (accounts.known a)
  known_after (RenameUser pairs) a = some_renamed (name_before pairs a)
  known_after (SetPassword (Some account) verifier) a = some_altered (same_auth a account) _ (stands state a) (state.account_data a) (accounts.known a)
  known_after s a = still (stands state a) (state.account_data a) (accounts.known a)

  pub accounts_changed : (s : Statement) → first_fault state s ≡ None → HasItsAccounts (changed limits s state)
  unfolding changed
  accounts_changed s none = record {
    named = λ row a there named. named_after limits s state accounts none row a there named;
    known = known_after s;
  }

-- ---- accepted lists

pub accounts_after : (state : State) (entry : Entry) → HasItsAccounts state → IsAccepted state entry → HasItsAccounts (after entry state)
unfolding after
accounts_after state entry accounts accepted = accounts_changed entry.limits state accounts entry.statement accepted.feasible.no_fault

pub accounts_from : (history : List Entry) (state : State) → HasItsAccounts state → AreAccepted history state → HasItsAccounts (state_after history state)
unfolding state_after
accounts_from [] state accounts accepted = accounts
accounts_from (entry ∷ history) state accounts accepted = accounts_from history (after entry state) (accounts_after state entry accounts accepted.0) accepted.1

opening_named : (row : Row) (a : AuthId) → opening.rows row ≡ true → some_name (same_auth a) row ≡ true → stands opening a ≡ true
opening_named (Account x) a there named = at x a named there
  where
    at : (x a : AuthId) → same_auth a x ≡ true → same_auth x root ≡ true → same_auth a root ≡ true
    at x a same there = ap (λ (y : AuthId). same_auth y root) (equal_from_same_auth a x same) ∙ there
opening_named (Global x p) a there named = ap (λ (y : AuthId). same_auth y root) (equal_from_same_auth a x named) ∙ (and_parts (same_auth x root) (nat_lt p 31) there).0
opening_named (Dynamic x d) a there named = ap (λ (y : AuthId). same_auth y root) (equal_from_same_auth a x named) ∙ (and_parts (same_auth x root) (nat_lt d 20) there).0
opening_named (DynamicGrant x d) a there named = ap (λ (y : AuthId). same_auth y root) (equal_from_same_auth a x named) ∙ (and_parts (same_auth x root) (nat_lt d 20) there).0
opening_named row a there named = cc

opening_known : (t : Bool) (made : AccountData) → is_some (cond t (Some made) None) ≡ t
opening_known true made = refl
opening_known false made = refl

pub accounts_opening : HasItsAccounts opening
accounts_opening = record { named = opening_named; known = λ a. opening_known (same_auth a root) _ }
