-- How many accounts stand.
use Rattle.std.proofs.Common.{◌≡◌, ◌∙◌, ap, sym, ℕ, Bool, true, false, List, [], ◌∷◌, suc, length, refl, MatchBool, IsTrue, nat_lt, arith}
use Rattle.std.proofs.lemmas.Bool.{ltb-false, ltb-true, le-ltb, lt-ltb}
use Rattle.acl_names.proofs.SameAuth.{equal_from_same_auth, same_auth_itself}
use Rattle.acl_names.specs.AuthId.{same_auth}
use Rattle.acl_names.specs.declared.auth.AuthId.{AuthId}
use Rattle.acl_model.specs.Counts.{HasMoreThan, ListsEachOnce}
use Rattle.acl_model.specs.State.{stands}
use Rattle.acl_model.specs.declared.account_data.AccountData.{AccountData}
use Rattle.acl_rows.specs.Conditions.{HasRoom}
use Rattle.acl_rows.specs.Tables.{Tables, names_of, state_of}
use Rattle.acl_rows.proofs.Counting.{is_over_limit}
use Rattle.acl_rows.proofs.Differ.{among_is_has, differ}

names_counted : (accounts : List (AuthId × AccountData)) → length (names_of accounts) ≡ length accounts
names_counted [] = refl
names_counted (pair ∷ accounts) = ap suc (names_counted accounts)

-- the accounts that stand, each once
pub accounts_once : (tables : Tables) → differ tables.accounts ≡ true → ListsEachOnce same_auth (λ a. IsTrue (stands (state_of tables) a)) (names_of tables.accounts)
unfolding state_of
accounts_once tables once = record {
  once = once;
  just_these = λ a. (λ any. sym (among_is_has a tables.accounts) ∙ any, λ has. among_is_has a tables.accounts ∙ has);
}

room_by : (tables : Tables) → differ tables.accounts ≡ true → (n : ℕ) → n ≡ length (names_of tables.accounts) → (t : Bool) → nat_lt n 4096 ≡ t
    → MatchBool t (HasRoom (state_of tables)) (HasMoreThan same_auth (λ a. IsTrue (stands (state_of tables) a)) 4095)
room_by tables once n is true below =
    let small : nat_lt 4095 (length (names_of tables.accounts)) ≡ false = le-ltb 4095 (length (names_of tables.accounts)) (omega (arith, ltb-true n 4096 below)) in
    is_over_limit same_auth equal_from_same_auth same_auth_itself _ (names_of tables.accounts) (accounts_once tables once) 4095 false small
room_by tables once n is false above =
    let large : nat_lt 4095 (length (names_of tables.accounts)) ≡ true = lt-ltb 4095 (length (names_of tables.accounts)) (omega (arith, ltb-false n 4096 above)) in
    is_over_limit same_auth equal_from_same_auth same_auth_itself _ (names_of tables.accounts) (accounts_once tables once) 4095 true large

-- whether fewer than 4,096 accounts stand
pub room : (tables : Tables) → differ tables.accounts ≡ true → (n : ℕ) → n ≡ length tables.accounts
    → MatchBool (nat_lt n 4096) (HasRoom (state_of tables)) (HasMoreThan same_auth (λ a. IsTrue (stands (state_of tables) a)) 4095)
room tables once n is = room_by tables once n (is ∙ sym (names_counted tables.accounts)) (nat_lt n 4096) refl

-- whether more than 4,096 accounts stand
pub over_accounts : (tables : Tables) → differ tables.accounts ≡ true → (n : ℕ) → n ≡ length tables.accounts
    → MatchBool (nat_lt 4096 n) (HasMoreThan same_auth (λ a. IsTrue (stands (state_of tables) a)) 4096) (HasMoreThan same_auth (λ a. IsTrue (stands (state_of tables) a)) 4096 → ⊥)
over_accounts tables once n is = rw (is ∙ sym (names_counted tables.accounts))
    (is_over_limit same_auth equal_from_same_auth same_auth_itself _ (names_of tables.accounts) (accounts_once tables once) 4096 (nat_lt 4096 (length (names_of tables.accounts))) refl)
