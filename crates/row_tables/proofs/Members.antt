-- What a list has stays through a sort and the taking out of repeats.
use Rattle.std.proofs.Common.{◌≡◌, sym, Bool, true, false, List, get_or, refl, rules, subst}
use Rattle.std.proofs.lemmas.List.Folds.{Any-from_list_any, list_any-from_Any}
use Rattle.std.proofs.lemmas.List.Kept.{Contains-dedup, Contains-from_dedup}
use Rattle.std.proofs.lemmas.List.Sorted.{Contains-permutation, IsPermutation-sym}
use Rattle.std.specs.Cmp.{IsEquivalence, IsTotalOrder}
use Rattle.std.specs.Cmp.Rules.{comparing}
use Rattle.std.specs.List.{Contains, dedup, list_any}
use Rattle.std.specs.List.Sorted.{IsPermutation}
use Rattle.std.specs.Ordering.{eq_by_cmp}
use Rattle.acl_names.specs.AuthId.{auth_cmp, same_auth}
use Rattle.acl_names.specs.declared.auth.AuthId.{AuthId}

pub both_ways : (s t : Bool) → (s ≡ true → t ≡ true) → (t ≡ true → s ≡ true) → s ≡ t
both_ways true t there back = sym (there refl)
both_ways false true there back = back refl
both_ways false false there back = refl

module _ {X : Type 0} (same : X → X → Bool) (equal : (a b : X) → same a b ≡ true → a ≡ b) (itself : (a : X) → same a a ≡ true) where
  pub Contains-from_any : (xs : List X) (x : X) → list_any (same x) xs ≡ true → Contains xs x
  Contains-from_any xs x any =
      let found = Any-from_list_any (same x) xs any in
      (found.0, found.2, subst (λ (y : X). get_or xs found.0 y ≡ y) (sym (equal x found.1 found.4)) found.3)

  pub any-from_Contains : (xs : List X) (x : X) → Contains xs x → list_any (same x) xs ≡ true
  any-from_Contains xs x has = list_any-from_Any (same x) xs (has.0, x, has.1, has.2, itself x)

  pub same_members : (xs ys : List X) → ((x : X) → Contains xs x → Contains ys x) → ((x : X) → Contains ys x → Contains xs x) → (x : X) → list_any (same x) xs ≡ list_any (same x) ys
  same_members xs ys there back x = both_ways (list_any (same x) xs) (list_any (same x) ys)
      (λ any. any-from_Contains ys x (there x (Contains-from_any xs x any))) (λ any. any-from_Contains xs x (back x (Contains-from_any ys x any)))

  pub members-dedup : IsEquivalence same → (xs : List X) (x : X) → list_any (same x) (dedup same xs) ≡ list_any (same x) xs
  members-dedup e xs = same_members (dedup same xs) xs (Contains-from_dedup same xs) (Contains-dedup e equal xs)

  pub members-permutation : (xs ys : List X) → IsPermutation xs ys → (x : X) → list_any (same x) ys ≡ list_any (same x) xs
  members-permutation xs ys moved = same_members ys xs (λ x. Contains-permutation ys xs x (IsPermutation-sym xs ys moved)) (λ x. Contains-permutation xs ys x moved)

pub auth_total : IsTotalOrder auth_cmp
auth_total = search (comparing, rules)

pub auth_ties : (a b : AuthId) → same_auth a b ≡ eq_by_cmp auth_cmp a b
auth_ties = search (comparing, rules)

pub auth_equiv : IsEquivalence same_auth
auth_equiv = search (comparing, rules)
