-- Other data of one account.
use Rattle.std.proofs.Common.{◌≡◌, ◌∙◌, ap, sym, Bool, true, false, cond, List, [], ◌∷◌, Option, Some, refl}
use Rattle.std.specs.List.{find, list_any}
use Rattle.std.specs.Option.{option_map}
use Rattle.acl_names.proofs.SameAuth.{equal_from_same_auth}
use Rattle.acl_names.specs.AuthId.{same_auth}
use Rattle.acl_names.specs.declared.auth.AuthId.{AuthId}
use Rattle.acl_model.specs.declared.account_data.AccountData.{AccountData}
use Rattle.acl_model.specs.declared.row.Row.{Row}
use Rattle.acl_model.specs.declared.row.Row.TheVariants.{Account}
use Rattle.acl_rows.specs.Changes.{with_data}
use Rattle.acl_rows.specs.Renaming.{change_first}
use Rattle.acl_rows.specs.Tables.{Tables, data_of, has_account, has_row, names_of, state_of}
use Rattle.acl_rows.proofs.Differ.{among_is_has, differ}
use Rattle.acl_rows.proofs.States.{differ_back, same_state}

abbrev Listed : Type 0
Listed = AuthId × AccountData

map_cond : {X Y : Type 0} (f : X → Y) (t : Bool) (x : X) (o : Option X) → option_map f (cond t (Some x) o) ≡ cond t (Some (f x)) (option_map f o)
map_cond f true x o = refl
map_cond f false x o = refl

pub data_cons : (x : Listed) (xs : List Listed) (a : AuthId) → data_of (x ∷ xs) a ≡ cond (same_auth a x.0) (Some x.1) (data_of xs a)
data_cons x xs a = map_cond (λ (pair : Listed). pair.1) (same_auth a x.0) x (find (λ pair. same_auth a pair.0) xs)

-- ---- other data

abbrev with_value : AuthId → AccountData → List Listed → List Listed
with_value b value accounts = change_first (λ pair. same_auth b pair.0) (λ pair. (pair.0, value)) accounts

pub names_of-value : (b : AuthId) (value : AccountData) (accounts : List Listed) → names_of (with_value b value accounts) ≡ names_of accounts
names_of-value b value [] = refl
names_of-value b value (x ∷ xs) = at (same_auth b x.0) (names_of-value b value xs)
  where
    at : (t : Bool) → names_of (with_value b value xs) ≡ names_of xs → names_of (cond t ((x.0, value) ∷ xs) (x ∷ with_value b value xs)) ≡ (x.0 ∷ names_of xs)
    at true rest = refl
    at false rest = ap (λ names. x.0 ∷ names) rest

value_here : (b : AuthId) (value : AccountData) (x : Listed) (xs : List Listed) (a : AuthId) (u : Bool) → same_auth a x.0 ≡ u → b ≡ x.0
    → data_of ((x.0, value) ∷ xs) a ≡ cond (same_auth a b) (Some value) (data_of (x ∷ xs) a)
value_here b value x xs a true same is = data_cons (x.0, value) xs a ∙ rw (is, same) refl
value_here b value x xs a false differ is = data_cons (x.0, value) xs a ∙ rw (is, differ) refl

value_later : (b : AuthId) (value : AccountData) (x : Listed) (xs changed : List Listed) (a : AuthId) (u : Bool) → same_auth a x.0 ≡ u → same_auth b x.0 ≡ false
    → data_of changed a ≡ cond (same_auth a b) (Some value) (data_of xs a)
    → data_of (x ∷ changed) a ≡ cond (same_auth a b) (Some value) (data_of (x ∷ xs) a)
value_later b value x xs changed a true same other rest =
    let apart : same_auth a b ≡ false = rw (equal_from_same_auth a x.0 same) (differ_back b x.0 other) in
    data_cons x changed a ∙ rw (apart, same) refl
value_later b value x xs changed a false differs other rest =
    data_cons x changed a ∙ ap (λ t. cond t (Some x.1) (data_of changed a)) differs ∙ rest
    ∙ ap (λ o. cond (same_auth a b) (Some value) o) (sym (data_cons x xs a ∙ ap (λ t. cond t (Some x.1) (data_of xs a)) differs))

data_of-value : (b : AuthId) (value : AccountData) (xs : List Listed) (a : AuthId) → has_account xs b ≡ true
    → data_of (with_value b value xs) a ≡ cond (same_auth a b) (Some value) (data_of xs a)
data_of-value b value [] a listed = cc
data_of-value b value (x ∷ xs) a listed = at (same_auth b x.0) refl (data_of-value b value xs a)
  where
    at : (t : Bool) → same_auth b x.0 ≡ t → (has_account xs b ≡ true → data_of (with_value b value xs) a ≡ cond (same_auth a b) (Some value) (data_of xs a))
        → data_of (cond (same_auth b x.0) ((x.0, value) ∷ xs) (x ∷ with_value b value xs)) a ≡ cond (same_auth a b) (Some value) (data_of (x ∷ xs) a)
    at true same rest = rw same (value_here b value x xs a (same_auth a x.0) refl (equal_from_same_auth b x.0 same))
    at false other rest =
        let later : has_account xs b ≡ true = rw other at listed in
        rw other (value_later b value x xs (with_value b value xs) a (same_auth a x.0) refl other (rest later))

any_by_names : (a : AuthId) (xs ys : List Listed) → names_of xs ≡ names_of ys → has_account xs a ≡ has_account ys a
any_by_names a xs ys same = sym (among_is_has a xs) ∙ ap (list_any (same_auth a)) same ∙ among_is_has a ys

rows_of-value : (b : AuthId) (value : AccountData) (accounts : List Listed) (grants : List Row) (row : Row) → has_row (with_value b value accounts) grants row ≡ has_row accounts grants row
rows_of-value b value accounts grants (Account a) = any_by_names a (with_value b value accounts) accounts (names_of-value b value accounts)
rows_of-value b value accounts grants _ = refl

-- an account gets other data
pub state_of-value : (tables : Tables) (b : AuthId) (value : AccountData) → (state_of tables).rows (Account b) ≡ true
    → state_of (record tables { accounts = change_first (λ pair. same_auth b pair.0) (λ pair. (pair.0, value)) tables.accounts }) ≡ with_data b value (state_of tables)
unfolding state_of with_data
state_of-value tables b value stands =
    same_state _ _ (rows_of-value b value tables.accounts tables.grants) (λ a. data_of-value b value tables.accounts a stands) refl refl
