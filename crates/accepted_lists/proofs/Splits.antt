-- Places of items in lists.
use Rattle.std.proofs.Common.{◌≡◌, ◌∙◌, ap, sym, refl, true, List, [], ◌∷◌, ◌++◌, map, append_assoc, inl, inr}
use Rattle.std.proofs.lemmas.Bool.{and_parts, or_cases}
use Rattle.std.specs.List.{flat_map}
use Rattle.acl_names.proofs.SameAuth.{equal_from_same_auth}
use Rattle.acl_names.specs.AuthId.{same_auth}
use Rattle.acl_names.specs.declared.auth.AuthId.{AuthId}
use Rattle.accepted_lists.proofs.Named.{never}
use Rattle.acl_model.specs.Acceptance.{role_pairs}
use Rattle.acl_model.specs.Rows.{lists}
use Rattle.acl_model.specs.Words.{grants_role}
use Rattle.acl_stmt.specs.declared.statement.Statement.{Statement}
use Rattle.acl_stmt.specs.declared.statement.Statement.TheVariants.{GrantRoles}

-- the item stands in the list
pub record Stands {X : Type 0} (x : X) (xs : List X) : Type 0 where
  pub earlier : List X
  pub later : List X
  pub split : xs ≡ earlier ++ x ∷ later

here : {X : Type 0} (x y : X) (xs : List X) → x ≡ y → Stands x (y ∷ xs)
here x y xs same = record { earlier = []; later = xs; split = ap (λ z. z ∷ xs) (sym same) }

further : {X : Type 0} (x y : X) (xs : List X) → Stands x xs → Stands x (y ∷ xs)
further x y xs at = record { earlier = y ∷ at.earlier; later = at.later; split = ap (λ zs. y ∷ zs) at.split }

pub listed_stands : (xs : List AuthId) (x : AuthId) → lists xs x ≡ true → Stands x xs
listed_stands [] x listed = never listed
listed_stands (y ∷ xs) x listed =
    elim (or_cases (same_auth x y) (lists xs x) listed) [
      | inl same ↦ here x y xs (equal_from_same_auth x y same)
      | inr later ↦ further x y xs (listed_stands xs x later)
    ]

map-append : {X Y : Type 0} (f : X → Y) (xs ys : List X) → map f (xs ++ ys) ≡ map f xs ++ map f ys
map-append f [] ys = refl
map-append f (x ∷ xs) ys = ap (λ zs. f x ∷ zs) (map-append f xs ys)

mapped : {X Y : Type 0} (f : X → Y) (x : X) (xs : List X) → Stands x xs → Stands (f x) (map f xs)
mapped f x xs at = record {
  earlier = map f at.earlier;
  later = map f at.later;
  split = ap (map f) at.split ∙ map-append f at.earlier (x ∷ at.later);
}

before : {X : Type 0} (x : X) (xs ys : List X) → Stands x xs → Stands x (xs ++ ys)
before x xs ys at = record {
  earlier = at.earlier;
  later = at.later ++ ys;
  split = ap (λ zs. zs ++ ys) at.split ∙ append_assoc at.earlier (x ∷ at.later) ys;
}

behind : {X : Type 0} (x : X) (xs ys : List X) → Stands x ys → Stands x (xs ++ ys)
behind x [] ys at = at
behind x (y ∷ xs) ys at = further x y (xs ++ ys) (behind x xs ys at)

gathered : {Y : Type 0} (f : AuthId → List Y) (y : Y) (x : AuthId) (xs : List AuthId) → lists xs x ≡ true → Stands y (f x) → Stands y (flat_map f xs)
gathered f y x [] listed at = never listed
gathered f y x (first ∷ xs) listed at =
    elim (or_cases (same_auth x first) (lists xs x) listed) [
      | inl same ↦ before y (f first) (flat_map f xs) (at_first same at)
      | inr later ↦ behind y (f first) (flat_map f xs) (gathered f y x xs later at)
    ]
  where
    at_first : same_auth x first ≡ true → Stands y (f x) → Stands y (f first)
    at_first same there = record {
      earlier = there.earlier;
      later = there.later;
      split = ap f (sym (equal_from_same_auth x first same)) ∙ there.split;
    }

-- a role that is granted makes a pair
pub granted_pair : (s : Statement) (role to : AuthId) → grants_role s role to ≡ true → Stands (role, to) (role_pairs s)
granted_pair (GrantRoles roles accounts option) role to granted =
    let parts = and_parts (lists roles role) (lists accounts to) granted in
    gathered (λ account. map (λ r. (r, account)) roles) (role, to) to accounts parts.1
    (mapped (λ r. (r, to)) role roles (listed_stands roles role parts.0))
granted_pair s role to granted = cc
