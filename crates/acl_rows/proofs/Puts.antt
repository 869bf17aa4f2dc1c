-- What a row more, a row less and other data make of the tables.
use Rattle.std.proofs.Common.{◌≡◌, ◌∙◌, ap, sym, Bool, true, false, cond, not, ◌&&◌, ◌||◌, List, [], ◌∷◌, ◌++◌, Option, Some, None, filter, refl}
use Rattle.std.proofs.Math.Bool.{and-true, or-false, or-true}
use Rattle.std.proofs.lemmas.List.Folds.{find-append, list_any-append}
use Rattle.std.specs.List.{find, list_any}
use Rattle.std.specs.Option.{is_some, option_map, option_or}
use Rattle.acl_names.proofs.SameAuth.{equal_from_same_auth}
use Rattle.acl_names.specs.AuthId.{same_auth}
use Rattle.acl_names.specs.declared.auth.AuthId.{AuthId}
use Rattle.acl_model.proofs.SameRows.{equal_from_same_row}
use Rattle.acl_model.specs.Accounts.{new_account}
use Rattle.acl_model.specs.Rows.{same_row}
use Rattle.acl_model.specs.State.{State}
use Rattle.acl_model.specs.declared.account_data.AccountData.{AccountData}
use Rattle.acl_model.specs.declared.row.Row.{Row}
use Rattle.acl_model.specs.declared.row.Row.TheVariants.{Account}
use Rattle.acl_rows.specs.Changes.{data_with, data_without, with_row, without_row}
use Rattle.acl_rows.specs.Conditions.{is_account}
use Rattle.acl_rows.specs.Tables.{Tables, data_of, has_account, has_row, state_of}
use Rattle.acl_rows.proofs.Lookups.{found_where_any}
use Rattle.acl_rows.proofs.States.{account_is_no_grant, same_state}

-- ---- one more

pub has_account-push : (accounts : List (AuthId × AccountData)) (b : AuthId) (value : AccountData) (a : AuthId)
    → has_account (accounts ++ (b, value) ∷ []) a ≡ (has_account accounts a || same_auth a b)
has_account-push accounts b value a = list_any-append (λ pair. same_auth a pair.0) accounts ((b, value) ∷ []) ∙ ap (λ t. has_account accounts a || t) (or-false (same_auth a b))

rows_with_account : (accounts : List (AuthId × AccountData)) (grants : List Row) (b : AuthId) (row : Row)
    → has_row (accounts ++ (b, new_account) ∷ []) grants row ≡ (has_row accounts grants row || same_row row (Account b))
rows_with_account accounts grants b (Account a) = has_account-push accounts b new_account a
rows_with_account accounts grants b row = sym (or-false (list_any (same_row row) grants))

pub nothing_known : (accounts : List (AuthId × AccountData)) (a : AuthId) → has_account accounts a ≡ false → (o : Option AccountData) → data_of accounts a ≡ o → o ≡ None
nothing_known accounts a absent None is = refl
nothing_known accounts a absent (Some value) is =
    let some : is_some (data_of accounts a) ≡ has_account accounts a = found_where_any (λ pair. pair.1) (λ pair. same_auth a pair.0) accounts in
    let there : is_some (data_of accounts a) ≡ true = ap is_some is in
    cc

none_found : {X Y : Type 0} (f : X → Y) (o : Option X) (last : Option X) → option_map f o ≡ None → option_map f (option_or o last) ≡ option_map f last
none_found f None last none = refl
none_found f (Some x) last none = cc

kept_found : {X Y : Type 0} (f : X → Y) (o : Option X) → option_map f (option_or o None) ≡ option_map f o
kept_found f None = refl
kept_found f (Some x) = refl

data_with_account : (accounts : List (AuthId × AccountData)) (b a : AuthId) → has_account accounts b ≡ false → (t : Bool) → same_auth a b ≡ t
    → data_of (accounts ++ (b, new_account) ∷ []) a ≡ (cond (t && not (has_account accounts b)) (Some new_account) (data_of accounts a))
data_with_account accounts b a absent true same =
    let equal : a ≡ b = equal_from_same_auth a b same in
    let gone : has_account accounts a ≡ false = ap (has_account accounts) equal ∙ absent in
    ap (option_map (λ pair. pair.1)) (find-append (λ pair. same_auth a pair.0) accounts ((b, new_account) ∷ []))
    ∙ none_found (λ pair. pair.1) (find (λ pair. same_auth a pair.0) accounts) _ (nothing_known accounts a gone (data_of accounts a) refl)
    ∙ rw (same, absent) refl
data_with_account accounts b a absent false differ =
    ap (option_map (λ pair. pair.1)) (find-append (λ pair. same_auth a pair.0) accounts ((b, new_account) ∷ []))
    ∙ rw differ (kept_found (λ pair. pair.1) (find (λ pair. same_auth a pair.0) accounts))

-- an account that did not stand comes
pub state_of-account : (tables : Tables) (b : AuthId) → (state_of tables).rows (Account b) ≡ false
    → state_of (record tables { accounts = tables.accounts ++ (b, new_account) ∷ [] }) ≡ with_row (Account b) (state_of tables)
unfolding state_of with_row
state_of-account tables b absent =
    same_state _ _ (rows_with_account tables.accounts tables.grants b) (λ a. data_with_account tables.accounts b a absent (same_auth a b) refl) refl refl

rows_with_grant : (accounts : List (AuthId × AccountData)) (grants : List Row) (added row : Row) → is_account added ≡ false
    → has_row accounts (grants ++ added ∷ []) row ≡ (has_row accounts grants row || same_row row added)
rows_with_grant accounts grants added (Account a) other = sym (ap (λ t. has_account accounts a || t) (account_is_no_grant a added other) ∙ or-false (has_account accounts a))
rows_with_grant accounts grants added row other =
    list_any-append (same_row row) grants (added ∷ []) ∙ ap (λ t. list_any (same_row row) grants || t) (or-false (same_row row added))

data_stays : (added : Row) (state : State) (a : AuthId) → is_account added ≡ false → state.account_data a ≡ data_with added state a
data_stays (Account b) state a other = cc
data_stays _ state a other = refl

-- any other row comes
pub grant_comes : (tables : Tables) (added : Row) → is_account added ≡ false
    → state_of (record tables { grants = tables.grants ++ added ∷ [] }) ≡ with_row added (state_of tables)
unfolding state_of with_row
grant_comes tables added other =
    same_state _ _ (λ row. rows_with_grant tables.accounts tables.grants added row other) (λ a. data_stays added _ a other) refl refl

pub row_again : (state : State) (added row : Row) → state.rows added ≡ true → (t : Bool) → same_row row added ≡ t → state.rows row ≡ (state.rows row || t)
row_again state added row stands false differ = sym (or-false (state.rows row))
row_again state added row stands true same =
    ap state.rows (equal_from_same_row row added same) ∙ stands ∙ sym (or-true (state.rows row))

standing_data : (state : State) (b a : AuthId) → state.rows (Account b) ≡ true → (t : Bool)
    → state.account_data a ≡ cond (t && not (state.rows (Account b))) (Some new_account) (state.account_data a)
standing_data state b a stands true = rw stands refl
standing_data state b a stands false = refl

data_again : (state : State) (added : Row) (a : AuthId) → state.rows added ≡ true → state.account_data a ≡ data_with added state a
data_again state (Account b) a stands = standing_data state b a stands (same_auth a b)
data_again state _ a stands = refl

-- a row that stands comes again
pub with_row-standing : (state : State) (added : Row) → state.rows added ≡ true → state ≡ with_row added state
unfolding with_row
with_row-standing state added stands = same_state _ _ (λ row. row_again state added row stands (same_row row added) refl) (λ a. data_again state added a stands) refl refl

-- ---- one less

module _ {X K : Type 0} (key : X → K) (same : K → K → Bool) (equal : (a b : K) → same a b ≡ true → a ≡ b) (a taken : K) where
  any_step : (x : X) (rest : Bool) (t u : Bool) → same taken (key x) ≡ t → same a taken ≡ u
      → (cond (not t) (same a (key x) || (rest && not u)) (rest && not u)) ≡ ((same a (key x) || rest) && not u)
  any_step x rest true true passes known = refl_at (same a (key x)) rest
    where
      refl_at : (b c : Bool) → (c && false) ≡ ((b || c) && false)
      refl_at true true = refl
      refl_at true false = refl
      refl_at false true = refl
      refl_at false false = refl
  any_step x rest true false passes known =
      let first : same a (key x) ≡ false = rw (← equal taken (key x) passes) known in
      rw first refl
  any_step x rest false true differs known =
      let first : same a (key x) ≡ false = rw (equal a taken known) differs in
      rw first (at rest)
    where
      at : (c : Bool) → (false || (c && false)) ≡ ((false || c) && false)
      at true = refl
      at false = refl
  any_step x rest false false differs known = at (same a (key x)) rest
    where
      at : (b c : Bool) → (b || (c && true)) ≡ ((b || c) && true)
      at true true = refl
      at true false = refl
      at false true = refl
      at false false = refl

  any_of_cond : (p : X → Bool) (x : X) (xs : List X) (t : Bool) → list_any p (cond t (x ∷ xs) xs) ≡ cond t (p x || list_any p xs) (list_any p xs)
  any_of_cond p x xs true = refl
  any_of_cond p x xs false = refl

  -- what stands when one goes
  pub list_any-filter : (xs : List X) → list_any (λ x. same a (key x)) (filter (λ x. not (same taken (key x))) xs) ≡ (list_any (λ x. same a (key x)) xs && not (same a taken))
  list_any-filter [] = refl
  list_any-filter (x ∷ xs) =
      any_of_cond (λ y. same a (key y)) x (filter (λ y. not (same taken (key y))) xs) (not (same taken (key x)))
      ∙ ap (λ r. cond (not (same taken (key x))) (same a (key x) || r) r) (list_any-filter xs)
      ∙ any_step x (list_any (λ y. same a (key y)) xs) (same taken (key x)) (same a taken) refl refl

  find_of_cond : (p : X → Bool) (x : X) (xs : List X) (t : Bool) → find p (cond t (x ∷ xs) xs) ≡ cond t (cond (p x) (Some x) (find p xs)) (find p xs)
  find_of_cond p x xs true = refl
  find_of_cond p x xs false = refl

  find_step : (x : X) (rest : Option X) (t u : Bool) → same taken (key x) ≡ t → same a taken ≡ u
      → (cond (not t) (cond (same a (key x)) (Some x) (cond u None rest)) (cond u None rest)) ≡ cond u None (cond (same a (key x)) (Some x) rest)
  find_step x rest true true passes known = refl
  find_step x rest true false passes known =
      let first : same a (key x) ≡ false = rw (← equal taken (key x) passes) known in
      rw first refl
  find_step x rest false true differs known =
      let first : same a (key x) ≡ false = rw (equal a taken known) differs in
      rw first refl
  find_step x rest false false differs known = refl

  -- what is found when one goes
  pub find-filter : (xs : List X) → find (λ x. same a (key x)) (filter (λ x. not (same taken (key x))) xs) ≡ cond (same a taken) None (find (λ x. same a (key x)) xs)
  find-filter [] = at (same a taken)
    where
      at : (u : Bool) → None ≡ cond {A = Option X} u None None
      at true = refl
      at false = refl
  find-filter (x ∷ xs) =
      find_of_cond (λ y. same a (key y)) x (filter (λ y. not (same taken (key y))) xs) (not (same taken (key x)))
      ∙ ap (λ r. cond (not (same taken (key x))) (cond (same a (key x)) (Some x) r) r) (find-filter xs)
      ∙ find_step x (find (λ y. same a (key y)) xs) (same taken (key x)) (same a taken) refl refl

rows_without_account : (accounts : List (AuthId × AccountData)) (grants : List Row) (b : AuthId) (row : Row)
    → has_row (filter (λ pair. not (same_auth b pair.0)) accounts) grants row ≡ (has_row accounts grants row && not (same_row row (Account b)))
rows_without_account accounts grants b (Account a) = list_any-filter (λ (pair : AuthId × AccountData). pair.0) same_auth equal_from_same_auth a b accounts
rows_without_account accounts grants b row = sym (and-true (list_any (same_row row) grants))

nothing_of : {X Y : Type 0} (f : X → Y) (t : Bool) (o : Option X) → option_map f (cond t None o) ≡ cond t None (option_map f o)
nothing_of f true o = refl
nothing_of f false o = refl

-- an account goes
pub state_of-no_account : (tables : Tables) (b : AuthId)
    → state_of (record tables { accounts = filter (λ pair. not (same_auth b pair.0)) tables.accounts }) ≡ without_row (Account b) (state_of tables)
unfolding state_of without_row
state_of-no_account tables b = same_state _ _ (rows_without_account tables.accounts tables.grants b)
    (λ a. ap (option_map (λ pair. pair.1)) (find-filter (λ (pair : AuthId × AccountData). pair.0) same_auth equal_from_same_auth a b tables.accounts)
    ∙ nothing_of (λ pair. pair.1) (same_auth a b) _) refl refl

rows_without_grant : (accounts : List (AuthId × AccountData)) (grants : List Row) (taken row : Row) → is_account taken ≡ false
    → has_row accounts (filter (λ standing. not (same_row taken standing)) grants) row ≡ (has_row accounts grants row && not (same_row row taken))
rows_without_grant accounts grants taken (Account a) other =
    sym (ap (λ t. has_account accounts a && not t) (account_is_no_grant a taken other) ∙ and-true (has_account accounts a))
rows_without_grant accounts grants taken row other = list_any-filter (λ (x : Row). x) same_row equal_from_same_row row taken grants

data_left : (taken : Row) (state : State) (a : AuthId) → is_account taken ≡ false → state.account_data a ≡ data_without taken state a
data_left (Account b) state a other = cc
data_left _ state a other = refl

-- any other row goes
pub state_of-no_grant : (tables : Tables) (taken : Row) → is_account taken ≡ false
    → state_of (record tables { grants = filter (λ standing. not (same_row taken standing)) tables.grants }) ≡ without_row taken (state_of tables)
unfolding state_of without_row
state_of-no_grant tables taken other =
    same_state _ _ (λ row. rows_without_grant tables.accounts tables.grants taken row other) (λ a. data_left taken _ a other) refl refl

-- the account of a row that does not stand is not listed
pub account_absent : (tables : Tables) (row : Row) (b : AuthId) → row ≡ Account b → (state_of tables).rows row ≡ false → has_account tables.accounts b ≡ false
unfolding state_of
account_absent tables row b is absent = sym (ap (has_row tables.accounts tables.grants) is) ∙ absent

pub account_comes : (tables : Tables) (b : AuthId) (row : Row) (pushed : List (AuthId × AccountData)) → row ≡ Account b → (state_of tables).rows row ≡ false
    → pushed ≡ tables.accounts ++ (b, new_account) ∷ [] → state_of (record tables { accounts = pushed }) ≡ with_row row (state_of tables)
account_comes tables b row pushed is absent same =
    let listed : (state_of tables).rows (Account b) ≡ false = sym (ap (state_of tables).rows is) ∙ absent in
    rw (same, is) (state_of-account tables b listed)

pub row_comes : (tables : Tables) (other row : Row) (pushed : List Row) → other ≡ row → is_account row ≡ false → pushed ≡ tables.grants ++ other ∷ []
    → state_of (record tables { grants = pushed }) ≡ with_row row (state_of tables)
row_comes tables other row pushed is none same = rw (same, is) (grant_comes tables row none)
