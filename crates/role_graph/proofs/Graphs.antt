-- Edges by holder and by role, as they come and go.
use Rattle.std.proofs.Common.{◌≡◌, ◌∙◌, refl, sym, ap, subst, ℕ, Bool, true, false, not, ◌<◌, ◌≤◌, ◌+◌, ◌-◌, ◌==◌, ◌||◌, ◌&&◌, nat_lt, if◌then◌else◌, List, [], ◌∷◌, length, inl, inr, filter, count_by, add-zero, arith}
use Rattle.std.specs.List.{list_any}
use Rattle.std.proofs.lemmas.Bool.{eqb-true, lt-ltb, le-ltb, ltb-true, ltb-false, cases_lt, cases_eq, eq-eqb, ne_eqb, and_parts}
use Rattle.std.proofs.Math.Bool.{or-false, or-true, and-false, and-true}
use Rattle.std.proofs.lemmas.List.Sums.{length-filter, count_by-le-length}
use Rattle.std.proofs.lemmas.List.Filters.{length-filter_both}
use Rattle.std.proofs.lemmas.List.Elements.{All-filter}
use Rattle.std.proofs.lemmas.List.Kept.{IsNonDecreasingBy-filter}
use Rattle.role_graph.specs.declared.link.Link.{Link}
use Rattle.role_graph.specs.Paths.{Reaches}
use Rattle.role_graph.specs.Edges.{rank, is_link, linked, touches, IsWithin, IsTable, IsGraph}
use Rattle.role_graph.proofs.Counts.{any_counted, any_filter, any_kept, count_all, count_filter, count_kept}
use Rattle.role_graph.proofs.Loops.{free_after, still_free}

and_swapped : (a b : Bool) → (a && b) ≡ (b && a)
and_swapped true true = refl
and_swapped true false = refl
and_swapped false true = refl
and_swapped false false = refl

eq_turned : (a b : ℕ) → (a == b) ≡ (b == a)
eq_turned a b = elim (cases_eq a b) [
  | inl same ↦ eq-eqb a b same ∙ sym (eq-eqb b a (sym same))
  | inr other ↦ ne_eqb a b other ∙ sym (ne_eqb b a (λ same. other (sym same)))
]

pub same_edge : (role to r h : ℕ) → ((to == h) && (role == r)) ≡ ((r == role) && (h == to))
same_edge role to r h =
    ap (λ b. b && (role == r)) (eq_turned to h) ∙ ap (λ b. (h == to) && b) (eq_turned role r) ∙ and_swapped (h == to) (r == role)

-- an edge by holder is one by role
pub linked_mirrored : (roles holders : List Link) → IsGraph roles holders → (from to : ℕ) → linked holders to from ≡ linked roles from to
linked_mirrored roles holders graph from to =
    any_counted (is_link to from) holders
    ∙ ap (nat_lt 0) (sym (graph.mirrored (λ a b. (b == to) && (a == from)))
    ∙ ap (λ (p : Link → Bool). count_by p roles) (λ i link. and_swapped (link.to == to) (link.from == from) i))
    ∙ sym (any_counted (is_link from to) roles)

-- there are as many of the one as of the other
pub same_length : (roles holders : List Link) → IsGraph roles holders → length roles ≡ length holders
same_length roles holders graph = sym (count_all roles) ∙ graph.mirrored (λ _ _. true) ∙ count_all holders

-- one more link where none was, as `put` leaves it
abbrev pub one_more : List Link → ℕ → ℕ → (ℕ → ℕ → Bool) → ℕ
one_more links from to p = if linked links from to then 0 else (if p from to then 1 else 0)

module _ (roles holders new_roles new_holders : List Link) (role to : ℕ) (graph : IsGraph roles holders)
    (roles_table : IsTable new_roles) (holders_table : IsTable new_holders)
    (roles_count : (p : ℕ → ℕ → Bool) → count_by (λ l. p l.from l.to) new_roles ≡ count_by (λ l. p l.from l.to) roles + one_more roles to role p)
    (holders_count : (p : ℕ → ℕ → Bool) → count_by (λ l. p l.from l.to) new_holders ≡ count_by (λ l. p l.from l.to) holders + one_more holders role to p) where
  -- whether a count is above 0 with one more, where the one stood already or is new
  above : (n : ℕ) (stood same : Bool) → (stood ≡ true → same ≡ true → 0 < n) →
      nat_lt 0 (n + (if stood then 0 else (if same then 1 else 0))) ≡ (nat_lt 0 n || same)
  above n true true has = rw (add-zero n, lt-ltb 0 n (has refl refl)) refl
  above n true false has = rw (add-zero n) (sym (or-false (nat_lt 0 n)))
  above n false true has = rw (lt-ltb 0 (n + 1) (omega arith)) (sym (or-true (nat_lt 0 n)))
  above n false false has = rw (add-zero n) (sym (or-false (nat_lt 0 n)))

  linked_counts : (from other : ℕ) → linked roles to role ≡ true → ((to == from) && (role == other)) ≡ true → 0 < count_by (is_link from other) roles
  linked_counts from other stands same =
      let parts = and_parts (to == from) (role == other) same in
      let stands' : linked roles from other ≡ true =
      ap (λ f. linked roles f other) (sym (eqb-true to from parts.0)) ∙ ap (linked roles to) (sym (eqb-true role other parts.1)) ∙ stands in
      ltb-true 0 (count_by (is_link from other) roles) (sym (any_counted (is_link from other) roles) ∙ stands')

  pub added_linked : (from other : ℕ) → linked new_roles from other ≡ (linked roles from other || ((to == from) && (role == other)))
  added_linked from other =
      any_counted (is_link from other) new_roles
      ∙ ap (nat_lt 0) (roles_count (λ a b. (a == from) && (b == other)))
      ∙ above (count_by (is_link from other) roles) (linked roles to role) ((to == from) && (role == other)) (linked_counts from other)
      ∙ ap (λ b. b || ((to == from) && (role == other))) (sym (any_counted (is_link from other) roles))

  pub added_length : length new_roles ≡ length roles + (if linked roles to role then 0 else 1)
  added_length =
      sym (count_all new_roles) ∙ roles_count (λ _ _. true) ∙ ap (λ n. n + (if linked roles to role then 0 else 1)) (count_all roles)

  at_most_one : (n : ℕ) (stood same : Bool) → n ≤ 1 → (stood ≡ false → same ≡ true → n ≡ 0) → n + (if stood then 0 else (if same then 1 else 0)) ≤ 1
  at_most_one n true same le none = omega (arith, le)
  at_most_one n false false le none = omega (arith, le)
  at_most_one n false true le none = omega (arith, none refl refl)

  uncounted : (from other : ℕ) → linked roles to role ≡ false → ((to == from) && (role == other)) ≡ true → count_by (is_link from other) roles ≡ 0
  uncounted from other absent same =
      let parts = and_parts (to == from) (role == other) same in
      let absent' : linked roles from other ≡ false =
      ap (λ f. linked roles f other) (sym (eqb-true to from parts.0)) ∙ ap (linked roles to) (sym (eqb-true role other parts.1)) ∙ absent in
      omega (arith, ltb-false 0 (count_by (is_link from other) roles) (sym (any_counted (is_link from other) roles) ∙ absent'))

  -- the edge added on both sides
  pub graph_added : (Reaches (λ r h. linked roles h r) role to → ⊥) → IsGraph new_roles new_holders
  graph_added apart = record {
    roles_table = roles_table;
    holders_table = holders_table;
    once = λ from other. rw (roles_count (λ a b. (a == from) && (b == other)))
        (at_most_one (count_by (is_link from other) roles) (linked roles to role) ((to == from) && (role == other))
        (graph.once from other) (uncounted from other));
    mirrored = λ p.
        roles_count p
        ∙ ap (λ n. n + one_more roles to role p) (graph.mirrored p)
        ∙ ap (λ b. count_by (λ l. p l.to l.from) holders + (if b then 0 else (if p to role then 1 else 0))) (sym (linked_mirrored roles holders graph to role))
        ∙ sym (holders_count (λ a b. p b a));
    free_of_loops = free_after (λ r h. linked roles h r) (λ r h. linked new_roles h r) role to (λ r h. added_linked h r) graph.free_of_loops apart;
  }

-- the room that is left then
pub room_added : (most len new_len room : ℕ) (stood : Bool) → most - len ≡ room → 0 < room → new_len ≡ len + (if stood then 0 else 1) →
    (most - new_len) + (if stood then 0 else 1) ≡ room
room_added most len new_len room true left some longer = omega (arith, left, some, longer)
room_added most len new_len room false left some longer = omega (arith, left, some, longer)

-- what is kept of edges on both sides
pub graph_kept : (keep : ℕ → ℕ → Bool) (roles holders : List Link) → IsGraph roles holders →
    IsGraph (filter (λ l. keep l.from l.to) roles) (filter (λ l. keep l.to l.from) holders)
graph_kept keep roles holders graph = record {
  roles_table = table_kept (λ l. keep l.from l.to) roles graph.roles_table;
  holders_table = table_kept (λ l. keep l.to l.from) holders graph.holders_table;
  once = λ from to. omega (arith, graph.once from to, count_kept (is_link from to) (λ l. keep l.from l.to) roles);
  mirrored = λ p.
      count_filter (λ l. p l.from l.to) (λ l. keep l.from l.to) roles
      ∙ graph.mirrored (λ a b. keep a b && p a b)
      ∙ sym (count_filter (λ l. p l.to l.from) (λ l. keep l.to l.from) holders);
  free_of_loops = still_free (λ r h. linked (filter (λ l. keep l.from l.to) roles) h r) (λ r h. linked roles h r)
      (λ r h. any_kept (is_link h r) (λ l. keep l.from l.to) roles) graph.free_of_loops;
}
  where
    table_kept : (q : Link → Bool) (links : List Link) → IsTable links → IsTable (filter q links)
    table_kept q links table = record {
      ordered = IsNonDecreasingBy-filter rank q links table.ordered;
      within = All-filter q IsWithin links table.within;
    }

-- the same where the edges by role are tested by their own test
pub graph_kept_by : (keep : ℕ → ℕ → Bool) (keep_holders : Link → Bool) → ((l : Link) → keep_holders l ≡ keep l.to l.from) →
    (roles holders : List Link) → IsGraph roles holders → IsGraph (filter (λ l. keep l.from l.to) roles) (filter keep_holders holders)
graph_kept_by keep keep_holders same roles holders graph =
    let tests : keep_holders ≡ (λ l. keep l.to l.from) = λ i l. same l i in
    subst (λ (q : Link → Bool). IsGraph (filter (λ l. keep l.from l.to) roles) (filter q holders)) (sym tests) (graph_kept keep roles holders graph)

or_swapped : (a b : Bool) → (a || b) ≡ (b || a)
or_swapped true true = refl
or_swapped true false = refl
or_swapped false true = refl
or_swapped false false = refl

-- without the edge between two nodes
pub graph_without_edge : (role to : ℕ) (roles holders : List Link) → IsGraph roles holders →
    IsGraph (filter (λ l. not (is_link to role l)) roles) (filter (λ l. not (is_link role to l)) holders)
graph_without_edge role to roles holders graph =
    graph_kept_by (λ a b. not ((a == to) && (b == role))) (λ l. not (is_link role to l))
    (λ l. ap not (and_swapped (l.from == role) (l.to == to))) roles holders graph

-- without all edges of a node
pub graph_without_node : (node : ℕ) (roles holders : List Link) → IsGraph roles holders →
    IsGraph (filter (λ l. not (touches node l)) roles) (filter (λ l. not (touches node l)) holders)
graph_without_node node roles holders graph =
    graph_kept_by (λ a b. not ((a == node) || (b == node))) (λ l. not (touches node l))
    (λ l. ap not (or_swapped (l.from == node) (l.to == node))) roles holders graph

any_and : (p : Link → Bool) (b : Bool) (xs : List Link) → list_any (λ x. p x && b) xs ≡ (list_any p xs && b)
any_and p b [] = refl
any_and p b (x ∷ xs) = step (p x) b (any_and p b xs)
  where
    step : (c b : Bool) → list_any (λ y. p y && b) xs ≡ (list_any p xs && b) → ((c && b) || list_any (λ y. p y && b) xs) ≡ ((c || list_any p xs) && b)
    step true true is = refl
    step true false is = is ∙ and-false (list_any p xs)
    step false b is = is

-- what a test finds among the links that are left, where it passes only such as are dropped alike
pub any_dropped : (dropped p : Link → Bool) (n : Bool) → ((x : Link) → p x ≡ true → dropped x ≡ n) →
    (xs : List Link) → list_any p (filter (λ x. not (dropped x)) xs) ≡ (list_any p xs && not n)
any_dropped dropped p n alike xs =
    any_filter p (λ x. not (dropped x)) xs
    ∙ ap (λ (q : Link → Bool). list_any q xs) (λ i x. each (dropped x) (p x) (alike x) i)
    ∙ any_and p (not n) xs
  where
    each : (d b : Bool) → (b ≡ true → d ≡ n) → (not d && b) ≡ (b && not n)
    each d true same = and-true (not d) ∙ ap not (same refl)
    each d false same = and-false (not d)

pub edge_parts : (from to : ℕ) (x : Link) → is_link from to x ≡ true → (x.from ≡ from) × (x.to ≡ to)
edge_parts from to x is =
    let parts = and_parts (x.from == from) (x.to == to) is in
    (eqb-true x.from from parts.0, eqb-true x.to to parts.1)

-- an edge that is left, without one edge
pub linked_without_edge : (role to r h : ℕ) (p : Link → Bool) → ((x : Link) → p x ≡ true → is_link h r x ≡ true) → (roles : List Link) →
    list_any p (filter (λ x. not (is_link to role x)) roles) ≡ (list_any p roles && not ((r == role) && (h == to)))
linked_without_edge role to r h p leads roles =
    any_dropped (is_link to role) p ((r == role) && (h == to))
    (λ x is. let ends = edge_parts h r x (leads x is) in
    ap (λ n. (n == to) && (x.to == role)) ends.0 ∙ ap (λ n. (h == to) && (n == role)) ends.1 ∙ and_swapped (h == to) (r == role))
    roles

-- and without those of a node
pub linked_without_node : (node r h : ℕ) (p : Link → Bool) → ((x : Link) → p x ≡ true → is_link h r x ≡ true) → (roles : List Link) →
    list_any p (filter (λ x. not (touches node x)) roles) ≡ (list_any p roles && not ((r == node) || (h == node)))
linked_without_node node r h p leads roles =
    any_dropped (touches node) p ((r == node) || (h == node))
    (λ x is. let ends = edge_parts h r x (leads x is) in
    ap (λ n. (n == node) || (x.to == node)) ends.0 ∙ ap (λ n. (h == node) || (n == node)) ends.1 ∙ or_swapped (h == node) (r == node))
    roles

-- how many are left without one edge
pub length_without_edge : (role to : ℕ) (roles : List Link) →
    length (filter (λ x. not (is_link to role x)) roles) + count_by (is_link to role) roles ≡ length roles
length_without_edge role to roles =
    omega (arith, length-filter_both (is_link to role) (λ x. not (is_link to role x)) (λ _. refl) roles, length-filter (is_link to role) roles)

pub shorter : (n c : ℕ) → nat_lt n (n + c) ≡ nat_lt 0 c
shorter n c = elim (cases_lt 0 c) [
  | inl some ↦ lt-ltb n (n + c) (omega (arith, some)) ∙ sym (lt-ltb 0 c some)
  | inr none ↦ le-ltb n (n + c) (omega (arith, none)) ∙ sym (le-ltb 0 c none)
]

-- the room then
pub room_without : (most len left count room : ℕ) (stood : Bool) → len ≤ most → left + count ≡ len → count ≤ 1 →
    stood ≡ nat_lt 0 count → most - len ≡ room → most - left ≡ room + (if stood then 1 else 0)
room_without most len left count room true within sum once is rest =
    omega (arith, within, sum, once, ltb-true 0 count (sym is), rest)
room_without most len left count room false within sum once is rest =
    omega (arith, within, sum, once, ltb-false 0 count (sym is), rest)

pub length_filter_le : (p : Link → Bool) (links : List Link) → length (filter p links) ≤ length links
length_filter_le p links = omega (arith, length-filter p links, count_by-le-length p links)
