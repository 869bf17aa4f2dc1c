-- Keys in order: each once, and just those that there are.
use Rattle.std.proofs.Common.{◌≡◌, ◌∙◌, ap, sym, refl, Bool, true, false, cond, not, ◌||◌, List, [], ◌∷◌, inl, inr}
use Rattle.std.proofs.lemmas.Bool.{and_from, and_parts, not-true, not_from_false, or_cases, or_from, or_left, or_parts, or_right}
use Rattle.std.proofs.lemmas.List.Folds.{list_any-append}
use Rattle.std.specs.List.{flat_map, list_any}
use Rattle.acl_model.proofs.SameRows.{equal_from_same_row}
use Rattle.acl_model.specs.Rows.{same_row}
use Rattle.acl_model.specs.declared.row.Row.{Row}
use Rattle.acl_stmt.specs.Lists.{all_differ_by}
use Rattle.show_grants.specs.Keys.{in_order, put_in}
use Rattle.shown_laws.proofs.Found.{any_member}
use Rattle.shown_laws.proofs.Tests.{never}

module _ {K : Type 0} (less : K → K → Bool) where
  any_put_in : (f : K → Bool) (key : K) (keys : List K) → list_any f (put_in less key keys) ≡ (f key || list_any f keys)
  unfolding put_in
  any_put_in f key [] = refl
  any_put_in f key (first ∷ keys) = by (less key first) (any_put_in f key keys)
    where
      past : (x y z : Bool) → (x || (y || z)) ≡ (y || (x || z))
      past true true z = refl
      past true false z = refl
      past false y z = refl

      by : (t : Bool) → list_any f (put_in less key keys) ≡ (f key || list_any f keys)
          → list_any f (cond t (key ∷ first ∷ keys) (first ∷ put_in less key keys)) ≡ (f key || (f first || list_any f keys))
      by true rest = refl
      by false rest = ap (λ t. f first || t) rest ∙ past (f first) (f key) (list_any f keys)

  module _ (same : K → K → Bool) (equal : (a b : K) → same a b ≡ true → a ≡ b) (itself : (a : K) → same a a ≡ true) where
    pub any_in_order : (f : K → Bool) (keys : List K) → list_any f (in_order same less keys) ≡ list_any f keys
    unfolding in_order
    any_in_order f [] = refl
    any_in_order f (key ∷ keys) = by (list_any (same key) (in_order same less keys)) refl (any_in_order f keys)
      where
        there : (t : Bool) → f key ≡ t → list_any (same key) (in_order same less keys) ≡ true → list_any f (in_order same less keys) ≡ (t || list_any f (in_order same less keys))
        there true passes listed = any_member same equal itself f key (in_order same less keys) listed passes
        there false fails listed = refl

        by : (t : Bool) → list_any (same key) (in_order same less keys) ≡ t → list_any f (in_order same less keys) ≡ list_any f keys
            → list_any f (cond t (in_order same less keys) (put_in less key (in_order same less keys))) ≡ (f key || list_any f keys)
        by true listed rest = there (f key) refl listed ∙ ap (λ t. f key || t) rest
        by false new rest = any_put_in f key (in_order same less keys) ∙ ap (λ t. f key || t) rest

    turned : (a b : K) → same a b ≡ false → (t : Bool) → same b a ≡ t → t ≡ false
    turned a b other false is = refl
    turned a b other true is = sym (itself a) ∙ ap (same a) (sym (equal b a is)) ∙ other

    put_in_differ : (key : K) (keys : List K) → all_differ_by same keys ≡ true → list_any (same key) keys ≡ false → all_differ_by same (put_in less key keys) ≡ true
    unfolding put_in
    put_in_differ key [] differ new = refl
    put_in_differ key (first ∷ keys) differ new =
        let parts = and_parts (not (list_any (same first) keys)) (all_differ_by same keys) differ in
        let apart = or_parts (same key first) (list_any (same key) keys) new in
        by (less key first) parts.0 apart.0 (put_in_differ key keys parts.1 apart.1)
      where
        by : (t : Bool) → not (list_any (same first) keys) ≡ true → same key first ≡ false → all_differ_by same (put_in less key keys) ≡ true
            → all_differ_by same (cond t (key ∷ first ∷ keys) (first ∷ put_in less key keys)) ≡ true
        by true absent other rest = and_from (not (list_any (same key) (first ∷ keys))) (all_differ_by same (first ∷ keys)) (not_from_false (list_any (same key) (first ∷ keys)) new) differ
        by false absent other rest =
            and_from (not (list_any (same first) (put_in less key keys))) (all_differ_by same (put_in less key keys))
            (not_from_false (list_any (same first) (put_in less key keys))
            (any_put_in (same first) key keys ∙ or_from (same first key) (list_any (same first) keys) (turned key first other (same first key) refl) (not-true (list_any (same first) keys) absent))) rest

    pub in_order_differ : (keys : List K) → all_differ_by same (in_order same less keys) ≡ true
    unfolding in_order
    in_order_differ [] = refl
    in_order_differ (key ∷ keys) = by (list_any (same key) (in_order same less keys)) refl (in_order_differ keys)
      where
        by : (t : Bool) → list_any (same key) (in_order same less keys) ≡ t → all_differ_by same (in_order same less keys) ≡ true
            → all_differ_by same (cond t (in_order same less keys) (put_in less key (in_order same less keys))) ≡ true
        by true listed rest = rest
        by false new rest = put_in_differ key (in_order same less keys) rest new

    -- what a row of the list is on
    listed_of : (at : Row → List K) (row : Row) (k : K) (rows : List Row) → list_any (same k) (at row) ≡ true → list_any (same_row row) rows ≡ true → list_any (same k) (flat_map at rows) ≡ true
    listed_of at row k [] has listed = never listed
    listed_of at row k (first ∷ rows) has listed =
        list_any-append (same k) (at first) (flat_map at rows)
        ∙ elim (or_cases (same_row row first) (list_any (same_row row) rows) listed) [
          | inl here ↦ or_left (list_any (same k) (at first)) (list_any (same k) (flat_map at rows)) (ap (λ (r : Row). list_any (same k) (at r)) (sym (equal_from_same_row row first here)) ∙ has)
          | inr later ↦ or_right (list_any (same k) (at first)) (list_any (same k) (flat_map at rows)) (listed_of at row k rows has later)
        ]

    pub listed_in_order : (at : Row → List K) (row : Row) (k : K) (rows : List Row) → list_any (same k) (at row) ≡ true → list_any (same_row row) rows ≡ true
        → list_any (same k) (in_order same less (flat_map at rows)) ≡ true
    listed_in_order at row k rows has listed = any_in_order (same k) (flat_map at rows) ∙ listed_of at row k rows has listed
