-- Each account is listed once.
use Rattle.std.specs.Result.{OnErr, OnOk}
use Rattle.std.proofs.Common.{◌≡◌, ap, Result, Ok, Err, Bool, true, false, cond, not, ◌||◌, List, [], ◌∷◌, ◌++◌, filter, refl}
use Rattle.std.proofs.lemmas.Bool.{and_from, and_parts, or_from, or_parts, not-true, not_from_false}
use Rattle.std.specs.List.{list_any}
use Rattle.acl_names.specs.AuthId.{same_auth}
use Rattle.acl_names.specs.declared.auth.AuthId.{AuthId}
use Rattle.acl_model.specs.declared.account_data.AccountData.{AccountData}
use Rattle.acl_rows.specs.Tables.{has_account, names_of}
use Rattle.acl_rows.proofs.States.{differ_back}
use Rattle.acl_stmt.specs.Lists.{all_differ_by}

abbrev pub differ : List (AuthId × AccountData) → Bool
differ accounts = all_differ_by same_auth (names_of accounts)

abbrev pub among : AuthId → List (AuthId × AccountData) → Bool
among a accounts = list_any (same_auth a) (names_of accounts)

pub among_is_has : (a : AuthId) (accounts : List (AuthId × AccountData)) → among a accounts ≡ has_account accounts a
among_is_has a [] = refl
among_is_has a (pair ∷ accounts) = ap (λ t. same_auth a pair.0 || t) (among_is_has a accounts)

still_not : (p : AuthId × AccountData → Bool) (a : AuthId) (accounts : List (AuthId × AccountData)) → among a accounts ≡ false → among a (filter p accounts) ≡ false
still_not p a [] absent = refl
still_not p a (pair ∷ accounts) absent =
    let parts = or_parts (same_auth a pair.0) (among a accounts) absent in
    by_test (p pair) (still_not p a accounts parts.1) parts.0
  where
    by_test : (t : Bool) → among a (filter p accounts) ≡ false → same_auth a pair.0 ≡ false → among a (cond t (pair ∷ filter p accounts) (filter p accounts)) ≡ false
    by_test true rest first = or_from (same_auth a pair.0) (among a (filter p accounts)) first rest
    by_test false rest first = rest

pub differ-filter : (p : AuthId × AccountData → Bool) (accounts : List (AuthId × AccountData)) → differ accounts ≡ true → differ (filter p accounts) ≡ true
differ-filter p [] once = refl
differ-filter p (pair ∷ accounts) once =
    let parts = and_parts (not (among pair.0 accounts)) (differ accounts) once in
    by_test (p pair) (differ-filter p accounts parts.1) (still_not p pair.0 accounts (not-true (among pair.0 accounts) parts.0))
  where
    by_test : (t : Bool) → differ (filter p accounts) ≡ true → among pair.0 (filter p accounts) ≡ false → differ (cond t (pair ∷ filter p accounts) (filter p accounts)) ≡ true
    by_test true rest first = and_from (not (among pair.0 (filter p accounts))) (differ (filter p accounts)) (not_from_false (among pair.0 (filter p accounts)) first) rest
    by_test false rest first = rest

not_added : (a b : AuthId) (value : AccountData) (accounts : List (AuthId × AccountData)) → among a accounts ≡ false → same_auth a b ≡ false → among a (accounts ++ (b, value) ∷ []) ≡ false
not_added a b value [] absent other = or_from (same_auth a b) false other refl
not_added a b value (pair ∷ accounts) absent other =
    let parts = or_parts (same_auth a pair.0) (among a accounts) absent in
    or_from (same_auth a pair.0) (among a (accounts ++ (b, value) ∷ [])) parts.0 (not_added a b value accounts parts.1 other)

pub differ-push : (b : AuthId) (value : AccountData) (accounts : List (AuthId × AccountData)) → differ accounts ≡ true → has_account accounts b ≡ false → differ (accounts ++ (b, value) ∷ []) ≡ true
differ-push b value [] once absent = refl
differ-push b value (pair ∷ accounts) once absent =
    let parts = and_parts (not (among pair.0 accounts)) (differ accounts) once in
    let gone = or_parts (same_auth b pair.0) (has_account accounts b) absent in
    and_from (not (among pair.0 (accounts ++ (b, value) ∷ []))) (differ (accounts ++ (b, value) ∷ []))
    (not_from_false (among pair.0 (accounts ++ (b, value) ∷ [])) (not_added pair.0 b value accounts (not-true (among pair.0 accounts) parts.0) (differ_back b pair.0 gone.0)))
    (differ-push b value accounts parts.1 gone.1)

-- whether there was memory for the account or not
pub differ_after : {T E : Type 0} (result : Result T E) (b : AuthId) (value : AccountData) (before now : List (AuthId × AccountData))
    → OnOk result (now ≡ before ++ (b, value) ∷ []) → OnErr result (now ≡ before) → differ before ≡ true → has_account before b ≡ false → differ now ≡ true
differ_after (Ok x) b value before now pushed same once absent = rw pushed (differ-push b value before once absent)
differ_after (Err e) b value before now pushed same once absent = rw same once
