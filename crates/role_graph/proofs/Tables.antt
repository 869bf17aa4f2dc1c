-- Links in order.
use Rattle.std.proofs.Common.{◌≡◌, ◌≢◌, ◌∙◌, refl, sym, ap, ℕ, Bool, false, ◌<◌, ◌≤◌, ◌+◌, ◌-◌, ◌*◌, ◌==◌, ◌||◌, List, [], ◌∷◌, length, get_or, take, drop, inl, inr, arith}
use Rattle.std.specs.List.{list_any, All}
use Rattle.std.proofs.lemmas.Bool.{cases_lt, eq-eqb, ne_eqb, and_left, or_parts}
use Rattle.std.proofs.Math.Bool.{or-false}
use Rattle.std.proofs.lemmas.List.{get_or-take, get_or-drop, length-take, length-drop, take-append-drop}
use Rattle.std.proofs.lemmas.List.Elements.{All-head, All-tail}
use Rattle.std.proofs.lemmas.List.Folds.{list_any-append, list_any_none, drop_split}
use Rattle.role_graph.specs.declared.link.Link.{Link}
use Rattle.role_graph.specs.Edges.{rank, is_admin_link, is_link, leads_to, leads_with_admin, linked, IsWithin}

abbrev pub no_link : Link
no_link = record { from = 0; to = 0; admin = false }

-- the links before a bound end no later than those before a higher one
pub starts_in_order : (links : List Link) (low high start end : ℕ) → low ≤ high → start ≤ length links →
    ((k : ℕ) (d : Link) → k < start → rank (get_or links k d) < low) →
    ((k : ℕ) (d : Link) → end ≤ k → k < length links → high ≤ rank (get_or links k d)) → start ≤ end
starts_in_order links low high start end rises inside before after =
    elim (cases_lt end start) [
      | inl less ↦ absurd (omega (arith, before end no_link less, after end no_link (omega arith) (omega arith)))
      | inr not_less ↦ not_less
    ]

-- what holds of each element of a part
pub all_front : (P : Link → Type 0) (xs : List Link) (n : ℕ) → ((k : ℕ) (d : Link) → k < n → k < length xs → P (get_or xs k d)) → All P (take n xs)
all_front P xs n each = λ k d below.
    let first : k < n = omega (arith, below, length-take n xs) in
    let inside : k < length xs = omega (arith, below, length-take n xs) in
    rw (get_or-take n xs k d first) (each k d first inside)

pub all_back : (P : Link → Type 0) (xs : List Link) (n : ℕ) → ((k : ℕ) (d : Link) → n ≤ k → k < length xs → P (get_or xs k d)) → All P (drop n xs)
all_back P xs n each = λ k d below.
    rw (get_or-drop n xs k d) (each (n + k) d (omega arith) (omega (arith, below, length-drop n xs)))

pub all_between : (P : Link → Type 0) (xs : List Link) (a b : ℕ) → ((k : ℕ) (d : Link) → a ≤ k → k < b → k < length xs → P (get_or xs k d)) →
    All P (take (b - a) (drop a xs))
all_between P xs a b each = all_front P (drop a xs) (b - a) (λ k d first inside.
    rw (get_or-drop a xs k d) (each (a + k) d (omega arith) (omega arith) (omega (arith, inside, length-drop a xs))))

-- two tests that agree on each element find the same
pub any_same : (p q : Link → Bool) (xs : List Link) → All (λ x. p x ≡ q x) xs → list_any p xs ≡ list_any q xs
any_same p q [] same = refl
any_same p q (x ∷ xs) same =
    ap (λ b. b || list_any p xs) (All-head (λ y. p y ≡ q y) x xs same)
    ∙ ap (λ b. q x || b) (any_same p q xs (All-tail (λ y. p y ≡ q y) x xs same))

-- a link that ranks elsewhere leads from another node
other_from : (from to : ℕ) (link : Link) → link.from ≢ from → is_link from to link ≡ false
other_from from to link differs = and_left (link.from == from) (link.to == to) (ne_eqb link.from from differs)

same_from : (from to : ℕ) (link : Link) → link.from ≡ from → leads_to to link ≡ is_link from to link
same_from from to link same = rw (eq-eqb link.from from same) refl

same_option : (from to : ℕ) (link : Link) → link.from ≡ from → leads_with_admin to link ≡ is_admin_link from to link
same_option from to link same = rw (eq-eqb link.from from same) refl

module _ (links : List Link) (from start end : ℕ) (within : All IsWithin links)
    (before_start : (k : ℕ) (d : Link) → k < start → rank (get_or links k d) < from * 4096)
    (after_start : (k : ℕ) (d : Link) → start ≤ k → k < length links → from * 4096 ≤ rank (get_or links k d))
    (before_end : (k : ℕ) (d : Link) → k < end → rank (get_or links k d) < from * 4096 + 4096)
    (after_end : (k : ℕ) (d : Link) → end ≤ k → k < length links → from * 4096 + 4096 ≤ rank (get_or links k d))
    (in_order : start ≤ end) (to : ℕ) where
  none_before : list_any (is_link from to) (take start links) ≡ false
  none_before = list_any_none (is_link from to) (take start links)
      (all_front (λ x. is_link from to x ≡ false) links start
      (λ k d first inside. other_from from to (get_or links k d) (omega (arith, before_start k d first))))

  none_after : list_any (is_link from to) (drop end links) ≡ false
  none_after = list_any_none (is_link from to) (drop end links)
      (all_back (λ x. is_link from to x ≡ false) links end
      (λ k d past inside. other_from from to (get_or links k d) (omega (arith, after_end k d past inside, (within k d inside).1))))

  same_between : list_any (leads_to to) (take (end - start) (drop start links)) ≡ list_any (is_link from to) (take (end - start) (drop start links))
  same_between = any_same (leads_to to) (is_link from to) (take (end - start) (drop start links))
      (all_between (λ x. leads_to to x ≡ is_link from to x) links start end
      (λ k d a b inside. same_from from to (get_or links k d)
      (omega (arith, after_start k d a inside, before_end k d b, (within k d inside).1))))

  -- the links between two bounds are those from the node
  pub part_is_linked : list_any (leads_to to) (take (end - start) (drop start links)) ≡ linked links from to
  part_is_linked =
      same_between
      ∙ sym (ap (list_any (is_link from to)) (sym (take-append-drop start links))
      ∙ list_any-append (is_link from to) (take start links) (drop start links)
      ∙ ap (λ b. b || list_any (is_link from to) (drop start links)) none_before
      ∙ ap (list_any (is_link from to)) (drop_split links start end in_order)
      ∙ list_any-append (is_link from to) (take (end - start) (drop start links)) (drop end links)
      ∙ ap (λ b. list_any (is_link from to) (take (end - start) (drop start links)) || b) none_after
      ∙ or-false (list_any (is_link from to) (take (end - start) (drop start links))))

  none_with_admin : (xs : List Link) → list_any (is_link from to) xs ≡ false → list_any (is_admin_link from to) xs ≡ false
  none_with_admin [] none = refl
  none_with_admin (x ∷ xs) none =
      let parts = or_parts (is_link from to x) (list_any (is_link from to) xs) none in
      rw (parts.0, none_with_admin xs parts.1) refl

  same_option_between : list_any (leads_with_admin to) (take (end - start) (drop start links)) ≡ list_any (is_admin_link from to) (take (end - start) (drop start links))
  same_option_between = any_same (leads_with_admin to) (is_admin_link from to) (take (end - start) (drop start links))
      (all_between (λ x. leads_with_admin to x ≡ is_admin_link from to x) links start end
      (λ k d a b inside. same_option from to (get_or links k d)
      (omega (arith, after_start k d a inside, before_end k d b, (within k d inside).1))))

  -- and so are those with the admin option
  pub part_has_options : list_any (leads_with_admin to) (take (end - start) (drop start links)) ≡ list_any (is_admin_link from to) links
  part_has_options =
      same_option_between
      ∙ sym (ap (list_any (is_admin_link from to)) (sym (take-append-drop start links))
      ∙ list_any-append (is_admin_link from to) (take start links) (drop start links)
      ∙ ap (λ b. b || list_any (is_admin_link from to) (drop start links)) (none_with_admin (take start links) none_before)
      ∙ ap (list_any (is_admin_link from to)) (drop_split links start end in_order)
      ∙ list_any-append (is_admin_link from to) (take (end - start) (drop start links)) (drop end links)
      ∙ ap (λ b. list_any (is_admin_link from to) (take (end - start) (drop start links)) || b) (none_with_admin (drop end links) none_after)
      ∙ or-false (list_any (is_admin_link from to) (take (end - start) (drop start links))))
