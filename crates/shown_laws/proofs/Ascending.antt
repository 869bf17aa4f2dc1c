-- A list that ascends, with just the members of another, is that one in order.
use Rattle.std.proofs.Common.{◌≡◌, ◌∙◌, ap, sym, refl, Bool, true, false, cond, ◌&&◌, ◌||◌, List, [], ◌∷◌, inl, inr}
use Rattle.std.proofs.lemmas.Bool.{and_from, and_parts, or_cases, or_left, or_parts}
use Rattle.std.specs.List.{list_all, list_any}
use Rattle.show_grants.specs.Keys.{in_order, put_in}
use Rattle.shown_laws.proofs.InOrder.{any_in_order}
use Rattle.shown_laws.proofs.Tests.{never}

-- each item is less than all behind it
abbrev pub ascends : {K : Type 0} → (K → K → Bool) → List K → Bool
ascends less [] = true
ascends less (key ∷ keys) = list_all (less key) keys && ascends less keys

all_put_in : {K : Type 0} (less : K → K → Bool) (test : K → Bool) (key : K) (keys : List K) → list_all test (put_in less key keys) ≡ (test key && list_all test keys)
unfolding put_in
all_put_in less test key [] = refl
all_put_in less test key (first ∷ keys) = by (less key first) (all_put_in less test key keys)
  where
    past : (x y z : Bool) → (x && (y && z)) ≡ (y && (x && z))
    past true true z = refl
    past true false z = refl
    past false true z = refl
    past false false z = refl

    by : (t : Bool) → list_all test (put_in less key keys) ≡ (test key && list_all test keys)
        → list_all test (cond t (key ∷ first ∷ keys) (first ∷ put_in less key keys)) ≡ (test key && (test first && list_all test keys))
    by true rest = refl
    by false rest = ap (λ t. test first && t) rest ∙ past (test first) (test key) (list_all test keys)

module _ {K : Type 0} (same less : K → K → Bool) (equal : (a b : K) → same a b ≡ true → a ≡ b) (itself : (a : K) → same a a ≡ true)
    (never_less : (a : K) → less a a ≡ false) (onward : (a b c : K) → less a b ≡ true → less b c ≡ true → less a c ≡ true)
    (either_way : (a b : K) → less a b ≡ false → same a b ≡ false → less b a ≡ true) where
  all_onward : (a b : K) (keys : List K) → less a b ≡ true → list_all (less b) keys ≡ true → list_all (less a) keys ≡ true
  all_onward a b [] first all = refl
  all_onward a b (k ∷ keys) first all =
      let parts = and_parts (less b k) (list_all (less b) keys) all in
      and_from (less a k) (list_all (less a) keys) (onward a b k first parts.0) (all_onward a b keys first parts.1)

  put_in_ascends : (key : K) (keys : List K) → ascends less keys ≡ true → list_any (same key) keys ≡ false → ascends less (put_in less key keys) ≡ true
  unfolding put_in
  put_in_ascends key [] up new = refl
  put_in_ascends key (first ∷ keys) up new =
      let parts = and_parts (list_all (less first) keys) (ascends less keys) up in
      let apart = or_parts (same key first) (list_any (same key) keys) new in
      by (less key first) refl parts.0 apart.0 (put_in_ascends key keys parts.1 apart.1)
    where
      by : (t : Bool) → less key first ≡ t → list_all (less first) keys ≡ true → same key first ≡ false → ascends less (put_in less key keys) ≡ true
          → ascends less (cond t (key ∷ first ∷ keys) (first ∷ put_in less key keys)) ≡ true
      by true before all other rest =
          and_from (list_all (less key) (first ∷ keys)) (ascends less (first ∷ keys))
          (and_from (less key first) (list_all (less key) keys) before (all_onward key first keys before all)) up
      by false behind all other rest =
          and_from (list_all (less first) (put_in less key keys)) (ascends less (put_in less key keys))
          (all_put_in less (less first) key keys ∙ and_from (less first key) (list_all (less first) keys) (either_way key first behind other) all) rest

  in_order_ascends : (keys : List K) → ascends less (in_order same less keys) ≡ true
  unfolding in_order
  in_order_ascends [] = refl
  in_order_ascends (key ∷ keys) = by (list_any (same key) (in_order same less keys)) refl (in_order_ascends keys)
    where
      by : (t : Bool) → list_any (same key) (in_order same less keys) ≡ t → ascends less (in_order same less keys) ≡ true
          → ascends less (cond t (in_order same less keys) (put_in less key (in_order same less keys))) ≡ true
      by true listed rest = rest
      by false new rest = put_in_ascends key (in_order same less keys) rest new

  -- a member of what is greater is greater
  member_less : (a k : K) (keys : List K) → list_all (less a) keys ≡ true → list_any (same k) keys ≡ true → less a k ≡ true
  member_less a k [] all listed = never listed
  member_less a k (first ∷ keys) all listed =
      let parts = and_parts (less a first) (list_all (less a) keys) all in
      elim (or_cases (same k first) (list_any (same k) keys) listed) [
        | inl here ↦ ap (less a) (equal k first here) ∙ parts.0
        | inr later ↦ member_less a k keys parts.1 later
      ]

  not_behind : (a : K) (keys : List K) → list_all (less a) keys ≡ true → list_any (same a) keys ≡ false
  not_behind a keys all = by (list_any (same a) keys) refl
    where
      by : (t : Bool) → list_any (same a) keys ≡ t → t ≡ false
      by false is = refl
      by true is = sym (member_less a a keys all is) ∙ never_less a

  same_heads : (x y : K) (xs ys : List K) → list_all (less x) xs ≡ true → list_all (less y) ys ≡ true
      → (same x y || list_any (same x) ys) ≡ true → (same y x || list_any (same y) xs) ≡ true → x ≡ y
  same_heads x y xs ys first second there back =
      elim (or_cases (same x y) (list_any (same x) ys) there) [
        | inl is ↦ equal x y is
        | inr later ↦ elim (or_cases (same y x) (list_any (same y) xs) back) [
          | inl is ↦ sym (equal y x is)
          | inr behind ↦ never (sym (never_less x) ∙ onward x y x (member_less x y xs first behind) (member_less y x ys second later))
        ]
      ]

  -- lists that ascend and have the same members are one
  pub one_ascending : (xs ys : List K) → ascends less xs ≡ true → ascends less ys ≡ true → ((k : K) → list_any (same k) xs ≡ list_any (same k) ys) → xs ≡ ys
  one_ascending [] [] first second members = refl
  one_ascending [] (y ∷ ys) first second members = never (members y ∙ or_left (same y y) (list_any (same y) ys) (itself y))
  one_ascending (x ∷ xs) [] first second members = never (sym (members x) ∙ or_left (same x x) (list_any (same x) xs) (itself x))
  one_ascending (x ∷ xs) (y ∷ ys) first second members =
      let upper = and_parts (list_all (less x) xs) (ascends less xs) first in
      let lower = and_parts (list_all (less y) ys) (ascends less ys) second in
      let head : x ≡ y =
      same_heads x y xs ys upper.0 lower.0 (sym (members x) ∙ or_left (same x x) (list_any (same x) xs) (itself x)) (members y ∙ or_left (same y y) (list_any (same y) ys) (itself y)) in
      let tail : xs ≡ ys = one_ascending xs ys upper.1 lower.1 (λ k. rest k head upper.0 lower.0 (same k x) refl) in
      ap (λ (k : K). k ∷ xs) head ∙ ap (λ (ks : List K). y ∷ ks) tail
    where
      rest : (k : K) → x ≡ y → list_all (less x) xs ≡ true → list_all (less y) ys ≡ true → (t : Bool) → same k x ≡ t → list_any (same k) xs ≡ list_any (same k) ys
      rest k head above below true is =
          ap (λ (j : K). list_any (same j) xs) (equal k x is) ∙ not_behind x xs above
          ∙ sym (ap (λ (j : K). list_any (same j) ys) (equal k x is ∙ head) ∙ not_behind y ys below)
      rest k head above below false is =
          sym (ap (λ t. t || list_any (same k) xs) is) ∙ members k ∙ ap (λ t. t || list_any (same k) ys) (ap (same k) (sym head) ∙ is)

  -- so a list that ascends, with the members of some keys, is these keys in order
  pub is_in_order : (keys ys : List K) → ascends less ys ≡ true → ((k : K) → list_any (same k) ys ≡ list_any (same k) keys) → ys ≡ in_order same less keys
  is_in_order keys ys up members =
      one_ascending ys (in_order same less keys) up (in_order_ascends keys) (λ k. members k ∙ sym (any_in_order less same equal itself (same k) keys))
