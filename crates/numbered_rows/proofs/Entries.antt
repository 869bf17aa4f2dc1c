-- Keys that are made of entries, each once.
use Rattle.std.proofs.Common.{◌≡◌, ◌∙◌, refl, sym, ap, ℕ, suc, zero, ◌<◌, ◌+◌, Some, Bool, true, false, cond, ◌==◌, ◌||◌, not, List, [], ◌∷◌, ◌++◌, length, get_or, map, if◌then◌else◌, arith}
use Rattle.std.specs.Cmp.{IsEquivalence}
use Rattle.std.specs.List.{AllPairs, list_any}
use Rattle.std.proofs.lemmas.Bool.{true≢false, and_from, and_parts, eq-eqb, not_from_false, not-true}
use Rattle.std.proofs.lemmas.List.Folds.{Any-from_list_any, list_any-append}
use Rattle.std.proofs.lemmas.Option.{same_Some}
use Rattle.acl_names.specs.AuthId.{same_auth}
use Rattle.acl_names.specs.declared.auth.AuthId.{AuthId}
use Rattle.acl_stmt.specs.Lists.{all_differ_by}
use Rattle.held_bits.specs.HeldBits.{Entry, IsSound, is_entry, is_on, thing_count}
use Rattle.numbered_names.specs.Numbered.{HasEachOnce, name_at}
use Rattle.numbered_rows.proofs.Matching.{name_of, name_or_root}
use Rattle.numbered_rows.proofs.Numbers.{Names, number_is}

-- a test that decides equality is an equivalence
module _ {K : Type 0} (eq : K → K → Bool) (equal : (k l : K) → eq k l ≡ true → k ≡ l) (itself : (k : K) → eq k k ≡ true) where
  one_way : (k l : K) (t u : Bool) → eq k l ≡ t → eq l k ≡ u → t ≡ u
  one_way k l true true one other = refl
  one_way k l false false one other = refl
  one_way k l true false one other = absurd (true≢false (sym (itself l) ∙ ap (eq l) (sym (equal k l one)) ∙ other))
  one_way k l false true one other = absurd (true≢false (sym (itself k) ∙ ap (eq k) (sym (equal l k other)) ∙ one))

  pub decides : IsEquivalence eq
  decides = record { refl = itself; symm = λ k l. one_way k l (eq k l) (eq l k) refl refl; congr = λ k l m same. ap (λ x. eq x m) (equal k l same) }

-- what is found in a list of keys
pub any_mapped : {X Y : Type 0} (f : X → Y) (test : Y → Bool) (xs : List X) → list_any test (map f xs) ≡ list_any (λ x. test (f x)) xs
any_mapped f test [] = refl
any_mapped f test (x ∷ xs) = ap (λ b. test (f x) || b) (any_mapped f test xs)

pub differ_mapped : {X Y : Type 0} (f : X → Y) (same : Y → Y → Bool) (xs : List X) → AllPairs (λ one other. same (f one) (f other) ≡ false) xs → all_differ_by same (map f xs) ≡ true
differ_mapped f same [] apart = refl
differ_mapped {X} f same (x ∷ xs) apart =
    and_from (not (list_any (same (f x)) (map f xs))) (all_differ_by same (map f xs))
    (not_from_false (list_any (same (f x)) (map f xs)) (any_mapped f (same (f x)) xs ∙ none (list_any (λ y. same (f x) (f y)) xs) refl))
    (differ_mapped f same xs (λ i j d before inside. apart (suc i) (suc j) d (omega arith) (omega arith)))
  where
    none : (t : Bool) → list_any (λ y. same (f x) (f y)) xs ≡ t → t ≡ false
    none false is = refl
    none true is =
        let found = Any-from_list_any (λ y. same (f x) (f y)) xs is in
        let at : get_or xs found.0 found.1 ≡ found.1 = found.3 in
        let inside : suc found.0 < suc (length xs) = omega (arith, found.2) in
        let differs : same (f x) (f (get_or xs found.0 found.1)) ≡ false = apart zero (suc found.0) found.1 (omega arith) inside in
        absurd (true≢false (sym found.4 ∙ ap (λ y. same (f x) (f y)) (sym at) ∙ differs))

-- two lists without a common key
pub differ_appended : {X : Type 0} (same : X → X → Bool) (xs ys : List X) → all_differ_by same xs ≡ true → all_differ_by same ys ≡ true
    → ((x : X) → list_any (same x) xs ≡ true → list_any (same x) ys ≡ false) → ((x : X) → same x x ≡ true) → all_differ_by same (xs ++ ys) ≡ true
differ_appended same [] ys first second apart itself = second
differ_appended {X} same (x ∷ xs) ys first second apart itself =
    let parts = and_parts (not (list_any (same x) xs)) (all_differ_by same xs) first in
    let here : list_any (same x) (x ∷ xs) ≡ true = rw (itself x) refl in
    and_from (not (list_any (same x) (xs ++ ys))) (all_differ_by same (xs ++ ys))
    (not_from_false (list_any (same x) (xs ++ ys)) (list_any-append (same x) xs ys ∙ rw (not-true (list_any (same x) xs) parts.0, apart x here) refl))
    (differ_appended same xs ys parts.1 second (λ z there. apart z (later (same z x) (list_any (same z) xs) there)) itself)
  where
    later : (t u : Bool) → u ≡ true → (t || u) ≡ true
    later true u is = refl
    later false u is = is

-- ---- entries of accounts that stand

module _ {K : Type 0} (eq : K → K → Bool) (names : Names) (once : HasEachOnce same_auth names) (es : List (Entry K)) (sound : IsSound eq es)
    (itself : (k : K) → eq k k ≡ true)
    (stand : (i : ℕ) (d : Entry K) → i < length es → (b : AuthId) × (name_at names (get_or es i d).holder ≡ Some b)) where
  holders_equal : (one other : ℕ) (b c : AuthId) → name_at names one ≡ Some b → name_at names other ≡ Some c → name_of names one ≡ name_of names other → one ≡ other
  holders_equal one other b c first second same =
      let is_b : name_of names one ≡ b = ap name_or_root first in
      let is_c : name_of names other ≡ c = ap name_or_root second in
      let equal : b ≡ c = sym is_b ∙ same ∙ is_c in
      let e : Some one ≡ Some other = sym (number_is names once b one first) ∙ number_is names once b other (second ∙ ap (λ x. Some x) (sym equal)) in
      same_Some one other e

  module _ {X : Type 0} (same : X → X → Bool) (key : AuthId → K → X) (parts : (a b : AuthId) (k l : K) → same (key a k) (key b l) ≡ true → (a ≡ b) × (k ≡ l)) where
    abbrev pub key_of : Entry K → X
    key_of e = key (name_of names e.holder) e.thing

    apart : AllPairs (λ one other. same (key_of one) (key_of other) ≡ false) es
    apart i j d before inside = by (same (key_of (get_or es i d)) (key_of (get_or es j d))) refl
      where
        by : (t : Bool) → same (key_of (get_or es i d)) (key_of (get_or es j d)) ≡ t → t ≡ false
        by false is = refl
        by true is =
            let one = get_or es i d in
            let other = get_or es j d in
            let both = parts (name_of names one.holder) (name_of names other.holder) one.thing other.thing is in
            let first = stand i d (omega arith) in
            let second = stand j d inside in
            let holders : one.holder ≡ other.holder = holders_equal one.holder other.holder first.0 second.0 first.1 second.1 both.0 in
            let entry : is_entry eq one.holder one.thing other ≡ true =
            and_from (one.holder == other.holder) (eq one.thing other.thing) (eq-eqb one.holder other.holder holders)
            (ap (eq one.thing) (sym both.1) ∙ itself one.thing) in
            absurd (true≢false (sym entry ∙ sound.once i j d before inside))

    pub keys_once : all_differ_by same (map key_of es) ≡ true
    keys_once = differ_mapped key_of same es apart

-- ---- things, each once

module _ {K : Type 0} (eq : K → K → Bool) (equal : (k l : K) → eq k l ≡ true → k ≡ l) (itself : (k : K) → eq k k ≡ true) where
  abbrev pub things_in : List (Entry K) → List K
  things_in [] = []
  things_in (e ∷ es) = if list_any (is_on eq e.thing) es then things_in es else e.thing ∷ things_in es

  pub things_length : (es : List (Entry K)) → length (things_in es) ≡ thing_count eq es
  things_length [] = refl
  things_length (e ∷ es) = by (list_any (is_on eq e.thing) es) (things_length es)
    where
      by : (t : Bool) → length (things_in es) ≡ thing_count eq es → length (cond t (things_in es) (e.thing ∷ things_in es)) ≡ cond t 0 1 + thing_count eq es
      by true rest = omega (arith, rest)
      by false rest = omega (arith, rest)

  pub any_things : (es : List (Entry K)) (k : K) → list_any (eq k) (things_in es) ≡ list_any (is_on eq k) es
  any_things [] k = refl
  any_things (e ∷ es) k = by (list_any (is_on eq e.thing) es) refl (any_things es k)
    where
      again : (t : Bool) → eq k e.thing ≡ t → list_any (is_on eq e.thing) es ≡ true → list_any (is_on eq k) es ≡ (t || list_any (is_on eq k) es)
      again false other there = refl
      again true same there = ap (λ x. list_any (is_on eq x) es) (equal k e.thing same) ∙ there

      by : (t : Bool) → list_any (is_on eq e.thing) es ≡ t → list_any (eq k) (things_in es) ≡ list_any (is_on eq k) es
          → list_any (eq k) (cond t (things_in es) (e.thing ∷ things_in es)) ≡ (eq k e.thing || list_any (is_on eq k) es)
      by true there rest = rest ∙ again (eq k e.thing) refl there
      by false gone rest = ap (λ b. eq k e.thing || b) rest

  pub things_once : (es : List (Entry K)) → all_differ_by eq (things_in es) ≡ true
  things_once [] = refl
  things_once (e ∷ es) = by (list_any (is_on eq e.thing) es) refl (things_once es)
    where
      by : (t : Bool) → list_any (is_on eq e.thing) es ≡ t → all_differ_by eq (things_in es) ≡ true → all_differ_by eq (cond t (things_in es) (e.thing ∷ things_in es)) ≡ true
      by true there rest = rest
      by false gone rest =
          and_from (not (list_any (eq e.thing) (things_in es))) (all_differ_by eq (things_in es))
          (not_from_false (list_any (eq e.thing) (things_in es)) (any_things es e.thing ∙ gone)) rest
