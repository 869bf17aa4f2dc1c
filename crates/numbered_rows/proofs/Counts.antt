-- What the tables count is what the limits speak of.
use Rattle.std.proofs.Common.{◌≡◌, ◌∙◌, refl, sym, ap, ℕ, suc, zero, ◌+◌, Bool, true, false, cond, ◌||◌, not, List, [], ◌∷◌, Option, None, Some, is_some, IsTrue, MatchBool, nat_lt, length, count_by, if◌then◌else◌, arith}
use Rattle.std.specs.List.{list_any}
use Rattle.std.specs.Option.{option_map}
use Rattle.std.proofs.lemmas.Bool.{and_from, not_from_false}
use Rattle.std.proofs.lemmas.List.Sums.{sum_by-cons}
use Rattle.acl_names.proofs.SameAuth.{equal_from_same_auth, same_auth_itself}
use Rattle.acl_names.specs.AuthId.{same_auth}
use Rattle.acl_names.specs.declared.auth.AuthId.{AuthId}
use Rattle.acl_model.specs.Counts.{HasMoreThan, ListsEachOnce}
use Rattle.acl_model.specs.State.{stands}
use Rattle.acl_stmt.specs.Lists.{all_differ_by}
use Rattle.numbered_names.specs.Numbered.{HasEachOnce, is_name}
use Rattle.numbered_rows.specs.Numbering.{number_of}
use Rattle.numbered_rows.specs.Tables.{Tables, state_of}
use Rattle.numbered_rows.proofs.Counting.{is_over_limit}
use Rattle.numbered_rows.proofs.Numbers.{Names, named_at}

-- ---- accounts

-- the names that stand
abbrev pub standing : Names → List AuthId
standing [] = []
standing (None ∷ names) = standing names
standing (Some a ∷ names) = a ∷ standing names

standing_count : (names : Names) → length (standing names) ≡ count_by is_some names
standing_count [] = refl
standing_count (None ∷ names) = omega (arith, standing_count names, sum_by-cons (λ (o : Option AuthId). if is_some o then 1 else 0) None names)
standing_count (Some a ∷ names) = omega (arith, standing_count names, sum_by-cons (λ (o : Option AuthId). if is_some o then 1 else 0) (Some a) names)

some_mapped : (o : Option ℕ) → is_some (option_map (λ n. n + 1) o) ≡ is_some o
some_mapped None = refl
some_mapped (Some n) = refl

any_standing : (names : Names) (a : AuthId) → list_any (same_auth a) (standing names) ≡ is_some (number_of names a)
any_standing [] a = refl
any_standing (None ∷ names) a = any_standing names a ∙ sym (some_mapped (number_of names a))
any_standing (Some b ∷ names) a = by (same_auth a b) (any_standing names a)
  where
    by : (t : Bool) → list_any (same_auth a) (standing names) ≡ is_some (number_of names a)
        → (t || list_any (same_auth a) (standing names)) ≡ is_some (cond t (Some 0) (option_map (λ n. n + 1) (number_of names a)))
    by true rest = refl
    by false rest = rest ∙ sym (some_mapped (number_of names a))

once_later : (first : Option AuthId) (names : Names) → HasEachOnce same_auth (first ∷ names) → HasEachOnce same_auth names
once_later first names once one other name is same = let e : suc one ≡ suc other = once (suc one) (suc other) name is same in omega (arith, e)

standing_once : (names : Names) → HasEachOnce same_auth names → all_differ_by same_auth (standing names) ≡ true
standing_once [] once = refl
standing_once (None ∷ names) once = standing_once names (once_later None names once)
standing_once (Some a ∷ names) once =
    and_from (not (list_any (same_auth a) (standing names))) (all_differ_by same_auth (standing names))
    (not_from_false (list_any (same_auth a) (standing names)) (any_standing names a ∙ none (number_of names a) refl))
    (standing_once names (once_later (Some a) names once))
  where
    none : (o : Option ℕ) → number_of names a ≡ o → is_some o ≡ false
    none None found = refl
    none (Some n) found =
        let e : zero ≡ suc n = once zero (suc n) a refl (ap (is_name same_auth a) (named_at names a n found) ∙ same_auth_itself a) in
        absurd (omega (arith, e))

module _ (tables : Tables) (once : HasEachOnce same_auth tables.accounts.names) where
  pub accounts_listed : ListsEachOnce same_auth (λ a. IsTrue (stands (state_of tables) a)) (standing tables.accounts.names)
  unfolding state_of
  accounts_listed = record {
    once = standing_once tables.accounts.names once;
    just_these = λ a. ((λ any. sym (any_standing tables.accounts.names a) ∙ any), (λ there. any_standing tables.accounts.names a ∙ there));
  }

  pub over_accounts : (limit n : ℕ) → n ≡ count_by is_some tables.accounts.names
      → MatchBool (nat_lt limit n) (HasMoreThan same_auth (λ a. IsTrue (stands (state_of tables) a)) limit) (HasMoreThan same_auth (λ a. IsTrue (stands (state_of tables) a)) limit → ⊥)
  over_accounts limit n is =
      let counted : length (standing tables.accounts.names) ≡ n = standing_count tables.accounts.names ∙ sym is in
      is_over_limit same_auth equal_from_same_auth same_auth_itself (λ a. IsTrue (stands (state_of tables) a)) (standing tables.accounts.names) accounts_listed limit (nat_lt limit n)
      (ap (nat_lt limit) counted)
