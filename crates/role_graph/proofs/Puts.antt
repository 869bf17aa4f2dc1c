-- A link that is looked for, and one that comes to stand, in links in order.
use Rattle.std.proofs.Common.{◌≡◌, ◌∙◌, refl, sym, ap, ℕ, Bool, true, false, ◌<◌, ◌≤◌, ◌+◌, ◌*◌, ◌==◌, ◌||◌, ◌&&◌, List, ◌∷◌, length, get_or, set, take, drop, inl, inr, arith}
use Rattle.std.specs.List.{list_any, insert}
use Rattle.std.proofs.lemmas.Bool.{cases_lt, cases_eq, cases_Bool, eq-eqb, eqb-true, and_parts, and_from, true≢false}
use Rattle.std.proofs.lemmas.List.{get_or-set_same, get_or-set_other, length-set}
use Rattle.std.proofs.lemmas.List.Elements.{All-set, All-append, All-cons, All-take, All-drop}
use Rattle.std.proofs.lemmas.List.Folds.{list_any_none}
use Rattle.std.proofs.lemmas.List.Sorted.{IsNonDecreasingBy-insert}
use Rattle.role_graph.specs.declared.link.Link.{Link}
use Rattle.role_graph.specs.Edges.{rank, is_link, is_admin_link, linked, IsWithin, IsTable}
use Rattle.role_graph.proofs.Counts.{any_set}
use Rattle.role_graph.proofs.Tables.{no_link}

module _ (links : List Link) (from to place : ℕ) (table : IsTable links)
    (before : (k : ℕ) (d : Link) → k < place → rank (get_or links k d) < from * 4096 + to)
    (after : (k : ℕ) (d : Link) → place ≤ k → k < length links → from * 4096 + to ≤ rank (get_or links k d))
    (not_here : (d : Link) → place < length links → is_link from to (get_or links place d) ≡ false) where
  nowhere : (k : ℕ) (d : Link) → k < length links → is_link from to (get_or links k d) ≡ true → ⊥
  nowhere k d inside is =
      let parts = and_parts ((get_or links k d).from == from) ((get_or links k d).to == to) is in
      let same_from = eqb-true (get_or links k d).from from parts.0 in
      let same_to = eqb-true (get_or links k d).to to parts.1 in
      elim (cases_lt k place) [
        | inl early ↦ omega (arith, before k d early, same_from, same_to)
        | inr late ↦
            let here : place < length links = omega arith in
            let low = after place d (omega arith) here in
            let high = table.ordered place k d late inside in
            let bound_here = (table.within place d here).1 in
            let bound_there = (table.within k d inside).1 in
            let from_is : (get_or links place d).from ≡ from = omega (arith, low, high, bound_here, bound_there, same_from, same_to) in
            let to_is : (get_or links place d).to ≡ to = omega (arith, low, high, bound_here, bound_there, same_from, same_to, from_is) in
            true≢false (sym (and_from ((get_or links place d).from == from) ((get_or links place d).to == to)
            (eq-eqb (get_or links place d).from from from_is) (eq-eqb (get_or links place d).to to to_is)) ∙ not_here d here)
      ]

  -- where the link is not at its place, it is nowhere
  pub not_linked : linked links from to ≡ false
  not_linked = list_any_none (is_link from to) links (λ k d inside.
      elim (cases_Bool (is_link from to (get_or links k d))) [
        | inl is ↦ absurd (nowhere k d inside is)
        | inr not_is ↦ not_is
      ])

module _ (links : List Link) (place : ℕ) (y : Link) (table : IsTable links)
    (same_rank : (d : Link) → rank y ≡ rank (get_or links place d)) (within : IsWithin y) where
  rank_at : (k : ℕ) (d : Link) → k < length links → rank (get_or (set links place y) k d) ≡ rank (get_or links k d)
  rank_at k d inside =
      elim (cases_eq k place) [
        | inl same ↦ let here : place < length links = omega arith in rw (same, get_or-set_same) (same_rank d)
        | inr other ↦ rw (get_or-set_other) refl
      ]

  -- a link in the place of another of its rank
  pub table_set : IsTable (set links place y)
  table_set = record {
    ordered = λ i j d le below.
        let inside : j < length links = omega (arith, below, length-set links place y) in
        let first : i < length links = omega (arith, le, inside) in
        omega (arith, rank_at i d first, rank_at j d inside, table.ordered i j d le inside);
    within = All-set IsWithin links place y within table.within;
  }

-- a link that stands with another option
pub table_allowed : (links : List Link) (place : ℕ) (link : Link) → IsTable links → place < length links →
    ((d : Link) → is_link link.from link.to (get_or links place d) ≡ true) →
    IsTable (set links place (record (get_or links place no_link) { admin = (get_or links place no_link).admin || link.admin }))
table_allowed links place link table inside found =
    table_set links place (record (get_or links place no_link) { admin = (get_or links place no_link).admin || link.admin }) table
    (λ d. same (get_or links place no_link) (get_or links place d) (found no_link) (found d))
    (table.within place no_link inside)
  where
    same : (x y : Link) → is_link link.from link.to x ≡ true → is_link link.from link.to y ≡ true → rank x ≡ rank y
    same x y is_x is_y =
        let px = and_parts (x.from == link.from) (x.to == link.to) is_x in
        let py = and_parts (y.from == link.from) (y.to == link.to) is_y in
        omega (arith, eqb-true x.from link.from px.0, eqb-true x.to link.to px.1, eqb-true y.from link.from py.0, eqb-true y.to link.to py.1)

-- a link between those that rank no higher and those that rank no lower
pub table_insert : (links : List Link) (place : ℕ) (y : Link) → IsTable links → IsWithin y → place ≤ length links →
    ((k : ℕ) (d : Link) → k < place → rank (get_or links k d) ≤ rank y) →
    ((k : ℕ) (d : Link) → place ≤ k → k < length links → rank y ≤ rank (get_or links k d)) →
    IsTable (insert links place y)
table_insert links place y table within inside before after = record {
  ordered = IsNonDecreasingBy-insert rank links place y table.ordered inside before after;
  within = All-append IsWithin (take place links) (y ∷ drop place links) (All-take IsWithin place links table.within)
      (All-cons IsWithin y (drop place links) within (All-drop IsWithin place links table.within));
}

and_or : (here admin more : Bool) → (here && (admin || more)) ≡ ((here && admin) || (here && more))
and_or true admin more = refl
and_or false admin more = refl

-- a link that stands gains the option of another between the same nodes
pub admin_set : (links : List Link) (place : ℕ) (link d : Link) → place < length links →
    is_link link.from link.to (get_or links place d) ≡ true → (from to : ℕ) →
    list_any (is_admin_link from to) (set links place (record (get_or links place d) { admin = (get_or links place d).admin || link.admin }))
    ≡ (list_any (is_admin_link from to) links || is_admin_link from to link)
admin_set links place link d inside is from to =
    any_set (is_admin_link from to) (is_admin_link from to link) d
    (record (get_or links place d) { admin = (get_or links place d).admin || link.admin }) links place inside
    (and_or (is_link from to (get_or links place d)) (get_or links place d).admin link.admin
    ∙ ap (λ b. is_admin_link from to (get_or links place d) || (b && link.admin)) same)
  where
    same : is_link from to (get_or links place d) ≡ is_link from to link
    same =
        let parts = and_parts ((get_or links place d).from == link.from) ((get_or links place d).to == link.to) is in
        rw (eqb-true (get_or links place d).from link.from parts.0, eqb-true (get_or links place d).to link.to parts.1) refl
