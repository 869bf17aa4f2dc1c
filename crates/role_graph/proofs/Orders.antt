-- Nodes that get their place one after the other.
use Rattle.std.proofs.Common.{◌≡◌, ◌∙◌, refl, sym, ap, subst, ℕ, zero, suc, Bool, true, false, not, cond, if◌then◌else◌, ◌<◌, ◌+◌, ◌==◌, ◌||◌, ◌&&◌, ◌⊎◌, List, [], ◌∷◌, length, get_or, set, take, count_by, nat_le, inl, inr, arith}
use Rattle.std.specs.List.{list_any}
use Rattle.std.proofs.lemmas.Bool.{cases_eq, cases_Bool, eq-eqb, eqb-true, ne_eqb, true≢false, or_cases, or_left, or_right, or_parts, and_parts, and_left, and_right, not-true, le-leb, lt-leb, leb-false}
use Rattle.std.proofs.lemmas.List.{get_or-set_same, get_or-set_other}
use Rattle.std.proofs.lemmas.List.Sums.{sum_by_push}
use Rattle.std.proofs.lemmas.Grind.{take-set_at}
use Rattle.role_graph.specs.declared.link.Link.{Link}
use Rattle.role_graph.specs.Edges.{leads_to}
use Rattle.role_graph.specs.Orders.{failing, done, IsOrder, IsWave}
use Rattle.role_graph.specs.Paths.{Granted, Reaches, IsFreeOfLoops}
use Rattle.role_graph.specs.Paths.Reaches.{Here, Onward}

failing_same : (p q : ℕ → Bool) (bound : ℕ) → ((n : ℕ) → n < bound → q n ≡ p n) → failing q bound ≡ failing p bound
unfolding failing
failing_same p q zero same = refl
failing_same p q (suc bound) same =
    ap (λ b. cond b (failing q bound) (failing q bound + 1)) (same bound (omega arith))
    ∙ ap (λ n. cond (p bound) n (n + 1)) (failing_same p q bound (λ n below. same n (omega (arith, below))))

cond_one : (b c : Bool) (x y : ℕ) → c ≡ b → y + 1 ≡ x → cond c y (y + 1) + 1 ≡ cond b x (x + 1)
cond_one true true x y same one = one
cond_one true false x y same one = absurd (true≢false (sym same))
cond_one false true x y same one = absurd (true≢false same)
cond_one false false x y same one = omega (arith, one)

cond_new : (b c : Bool) (x y : ℕ) → b ≡ false → c ≡ true → y ≡ x → cond c y (y + 1) + 1 ≡ cond b x (x + 1)
cond_new b c x y fails passes same = rw (fails, passes) (omega (arith, same))

-- a test that passes at one number more fails once less
pub failing_one : (p q : ℕ → Bool) (n : ℕ) → p n ≡ false → ((m : ℕ) → q m ≡ ((n == m) || p m)) →
    (bound : ℕ) → n < bound → failing q bound + 1 ≡ failing p bound
unfolding failing
failing_one p q n fails is zero below = absurd (omega (arith, below))
failing_one p q n fails is (suc bound) below =
    elim (cases_eq n bound) [
      | inl same ↦
          cond_new (p bound) (q bound) (failing p bound) (failing q bound) (sym (ap p same) ∙ fails)
          (is bound ∙ or_left (n == bound) (p bound) (eq-eqb n bound same))
          (failing_same p q bound (λ m less. is m ∙ ap (λ b. b || p m) (ne_eqb n m (λ e. omega (arith, same, e, less)))))
      | inr other ↦
          cond_one (p bound) (q bound) (failing p bound) (failing q bound)
          (is bound ∙ ap (λ b. b || p bound) (ne_eqb n bound other))
          (failing_one p q n fails is bound (omega (arith, below, other)))
    ]

failing_none : (p : ℕ → Bool) → ((n : ℕ) → p n ≡ false) → (bound : ℕ) → failing p bound ≡ bound
unfolding failing
failing_none p none zero = refl
failing_none p none (suc bound) = rw (none bound) (omega (arith, failing_none p none bound))

-- nothing has its place at first
pub order_begins : (granted : Granted) (affected placed : ℕ → Bool) (nodes : List ℕ) → ((n : ℕ) → placed n ≡ false) →
    IsOrder granted affected placed nodes 0
order_begins granted affected placed nodes none = record {
  number_placed = omega (arith, failing_none placed none 4096);
  only_affected = λ n is. absurd (true≢false (sym is ∙ none n));
  listed = λ k below. absurd (omega (arith, below));
  once = λ n. rw (none n) refl;
  closed = λ role node is edge among. absurd (true≢false (sym is ∙ none node));
  roles_first = λ i j a b edge. absurd (omega (arith, a));
}

module _ (granted : Granted) (affected placed new_placed : ℕ → Bool) (nodes : List ℕ) (count node : ℕ)
    (order : IsOrder granted affected placed nodes count) (size : length nodes ≡ 4096) (below : node < 4096)
    (among : affected node ≡ true) (unplaced : placed node ≡ false)
    (ready : (role : ℕ) → granted role node ≡ true → affected role ≡ true → placed role ≡ true)
    (is : (n : ℕ) → new_placed n ≡ ((node == n) || placed n)) where
  fewer : failing new_placed 4096 + 1 ≡ failing placed 4096
  fewer = failing_one placed new_placed node unplaced is 4096 below

  inside : count < length nodes
  inside = omega (arith, fewer, order.number_placed, size)

  still : (n : ℕ) → placed n ≡ true → new_placed n ≡ true
  still n was = is n ∙ or_right (node == n) (placed n) was

  here : new_placed node ≡ true
  here = is node ∙ or_left (node == node) (placed node) (eq-eqb node node refl)

  which : (n : ℕ) → new_placed n ≡ true → (node ≡ n) ⊎ (placed n ≡ true)
  which n now =
      elim (or_cases (node == n) (placed n) (sym (is n) ∙ now)) [
        | inl same ↦ inl (eqb-true node n same)
        | inr was ↦ inr was
      ]

  -- the node at a place: an earlier one, or the new one
  at_other : (k : ℕ) → k < count → get_or (set nodes count node) k 0 ≡ get_or nodes k 0
  at_other k less = get_or-set_other nodes count k node 0 (λ e. omega (arith, less, e))

  at_new : (k : ℕ) → k ≡ count → get_or (set nodes count node) k 0 ≡ node
  at_new k same = ap (λ n. get_or (set nodes count node) n 0) same ∙ get_or-set_same nodes count node 0 inside

  apart : (other : ℕ) → placed other ≡ true → granted node other ≡ true → ⊥
  apart other was edge = true≢false (sym (order.closed node other was edge among) ∙ unplaced)

  first_of : (i j : ℕ) → (i < count) ⊎ (i ≡ count) → (j < count) ⊎ (j ≡ count) →
      granted (get_or (set nodes count node) i 0) (get_or (set nodes count node) j 0) ≡ true → i < j
  first_of i j (inl a) (inl b) edge =
      order.roles_first i j a b (sym (ap (λ r. granted r (get_or nodes j 0)) (at_other i a)) ∙ sym (ap (granted (get_or (set nodes count node) i 0)) (at_other j b)) ∙ edge)
  first_of i j (inl a) (inr b) edge = omega (arith, a, b)
  first_of i j (inr a) (inl b) edge =
      absurd (apart (get_or nodes j 0) (order.listed j b)
      (sym (ap (λ r. granted r (get_or nodes j 0)) (at_new i a)) ∙ sym (ap (granted (get_or (set nodes count node) i 0)) (at_other j b)) ∙ edge))
  first_of i j (inr a) (inr b) edge =
      absurd (true≢false (sym (ready node
      (sym (ap (λ r. granted r node) (at_new i a)) ∙ sym (ap (granted (get_or (set nodes count node) i 0)) (at_new j b)) ∙ edge) among) ∙ unplaced))

  up_to : (k : ℕ) → k < count + 1 → (k < count) ⊎ (k ≡ count)
  up_to k less = elim (cases_eq k count) [
    | inl same ↦ inr same
    | inr other ↦ inl (omega (arith, less, other))
  ]

  listed_of : (k : ℕ) → (k < count) ⊎ (k ≡ count) → new_placed (get_or (set nodes count node) k 0) ≡ true
  listed_of k (inl a) = ap new_placed (at_other k a) ∙ still (get_or nodes k 0) (order.listed k a)
  listed_of k (inr a) = ap new_placed (at_new k a) ∙ here

  counts : (n : ℕ) (same was : Bool) → (node == n) ≡ same → placed n ≡ was → (if was then 1 else 0) + cond same 1 0 ≡ (if (same || was) then 1 else 0)
  counts n true true s w = absurd (true≢false (sym w ∙ sym (ap placed (eqb-true node n s)) ∙ unplaced))
  counts n true false s w = refl
  counts n false true s w = refl
  counts n false false s w = refl

  -- one node more has its place
  pub order_grows : IsOrder granted affected new_placed (set nodes count node) (count + 1)
  order_grows = record {
    number_placed = omega (arith, fewer, order.number_placed);
    only_affected = λ n now. elim (which n now) [
      | inl same ↦ sym (ap affected same) ∙ among
      | inr was ↦ order.only_affected n was
    ];
    listed = λ k less. listed_of k (up_to k less);
    once = λ n.
        ap (count_by (λ x. x == n)) (take-set_at nodes count (count + 1) node refl inside)
        ∙ sum_by_push (λ x. cond (x == n) 1 0) (take count nodes) node
        ∙ ap (λ m. m + cond (node == n) 1 0) (order.once n)
        ∙ counts n (node == n) (placed n) refl refl
        ∙ ap {B = ℕ} (λ b. if b then 1 else 0) (sym (is n));
    closed = λ role other now edge aff. elim (which other now) [
      | inl same ↦ still role (ready role (ap (granted role) same ∙ edge) aff)
      | inr was ↦ still role (order.closed role other was edge aff)
    ];
    roles_first = λ i j a b edge. first_of i j (up_to i a) (up_to j b) edge;
  }

-- there is room for a node that has no place
pub room_for : (granted : Granted) (affected placed : ℕ → Bool) (nodes : List ℕ) (count node : ℕ) → IsOrder granted affected placed nodes count →
    node < 4096 → placed node ≡ false → count < 4096
room_for granted affected placed nodes count node order below unplaced =
    omega (arith, order.number_placed, failing_one placed (λ n. (node == n) || placed n) node unplaced (λ _. refl) 4096 below)

-- whether some link leads to an affected node without a place
abbrev pub awaits : (ℕ → Bool) → (ℕ → Bool) → Link → Bool
awaits affected placed link = affected link.to && not (placed link.to)

pub nothing_awaited : (affected placed : ℕ → Bool) (links : List Link) → list_any (awaits affected placed) links ≡ false →
    (role : ℕ) → list_any (leads_to role) links ≡ true → affected role ≡ true → placed role ≡ true
nothing_awaited affected placed [] none role leads aff = absurd (true≢false (sym leads))
nothing_awaited affected placed (link ∷ links) none role leads aff =
    let parts = or_parts (awaits affected placed link) (list_any (awaits affected placed) links) none in
    elim (or_cases (leads_to role link) (list_any (leads_to role) links) leads) [
      | inl here ↦
          let e = eqb-true link.to role here in
          sym (ap placed e) ∙ has_place (affected link.to) (placed link.to) (ap affected e ∙ aff) parts.0
      | inr later ↦ nothing_awaited affected placed links parts.1 role later aff
    ]
  where
    has_place : (a p : Bool) → a ≡ true → (a && not p) ≡ false → p ≡ true
    has_place a true is h = refl
    has_place true false is h = absurd (true≢false h)
    has_place false false is h = absurd (true≢false (sym is))

pub something_awaited : (affected placed : ℕ → Bool) (links : List Link) → list_any (awaits affected placed) links ≡ true →
    (role : ℕ) × (list_any (leads_to role) links ≡ true) × (affected role ≡ true) × (placed role ≡ false)
something_awaited affected placed [] some = absurd (true≢false (sym some))
something_awaited affected placed (link ∷ links) some =
    elim (or_cases (awaits affected placed link) (list_any (awaits affected placed) links) some) [
      | inl here ↦
          let parts = and_parts (affected link.to) (not (placed link.to)) here in (
            link.to,
            or_left (leads_to link.to link) (list_any (leads_to link.to) links) (eq-eqb link.to link.to refl),
            parts.0,
            not-true (placed link.to) parts.1,
          )
      | inr later ↦
          let found = something_awaited affected placed links later in
          (found.0, or_right (leads_to found.0 link) (list_any (leads_to found.0) links) found.1, found.2, found.3)
    ]

-- a node that is placed waits, so its holders are no less blocked
pub wave_placed : (granted : Granted) (affected placed waiting new_placed new_waiting to_look_at : ℕ → Bool) (node : ℕ) →
    ((n : ℕ) → new_placed n ≡ ((node == n) || placed n)) → ((n : ℕ) → new_waiting n ≡ ((node == n) || waiting n)) →
    IsWave granted affected placed waiting to_look_at →
    IsWave granted affected new_placed new_waiting (λ n. to_look_at n && not (node == n))
wave_placed granted affected placed waiting new_placed new_waiting to_look_at node placed_is waiting_is wave = record {
  waits = λ n is. elim (or_cases (node == n) (waiting n) (sym (waiting_is n) ∙ is)) [
    | inl same ↦ placed_is n ∙ or_left (node == n) (placed n) same
    | inr was ↦ placed_is n ∙ or_right (node == n) (placed n) (wave.waits n was)
  ];
  blocked = λ n aff not_placed no_look.
      let parts = or_parts (node == n) (placed n) (sym (placed_is n) ∙ not_placed) in
      let old = wave.blocked n aff parts.1 (unlooked (node == n) (to_look_at n) parts.0 no_look) in
      (old.0, old.1, old.2, rw (placed_is old.0, waiting_is old.0) (still_not (node == old.0) (placed old.0) (waiting old.0) old.3));
}
  where
    unlooked : (same look : Bool) → same ≡ false → (look && not same) ≡ false → look ≡ false
    unlooked true look s n = absurd (true≢false s)
    unlooked false true s n = absurd (true≢false n)
    unlooked false false s n = refl

    still_not : (same p w : Bool) → (p && not w) ≡ false → ((same || p) && not (same || w)) ≡ false
    still_not true p w h = refl
    still_not false p w h = h

-- a node that is not placed, since it is not affected, has its place, or awaits a role
pub wave_looked : (granted : Granted) (affected placed waiting to_look_at : ℕ → Bool) (node : ℕ) →
    (affected node ≡ true → placed node ≡ false →
    (role : ℕ) × (granted role node ≡ true) × (affected role ≡ true) × (done placed waiting role ≡ false)) →
    IsWave granted affected placed waiting to_look_at →
    IsWave granted affected placed waiting (λ n. to_look_at n && not (node == n))
wave_looked granted affected placed waiting to_look_at node why wave = record {
  waits = wave.waits;
  blocked = λ n aff not_placed no_look. looked n aff not_placed (to_look_at n) (node == n) refl refl no_look;
}
  where
    looked : (n : ℕ) → affected n ≡ true → placed n ≡ false → (look same : Bool) → to_look_at n ≡ look → (node == n) ≡ same →
        (look && not same) ≡ false → (role : ℕ) × (granted role n ≡ true) × (affected role ≡ true) × (done placed waiting role ≡ false)
    looked n aff not_placed false same l s h = wave.blocked n aff not_placed l
    looked n aff not_placed true false l s h = absurd (true≢false h)
    looked n aff not_placed true true l s h =
        let e = eqb-true node n s in
        let found = why (ap affected e ∙ aff) (ap placed e ∙ not_placed) in
        (found.0, sym (ap (granted found.0) e) ∙ found.1, found.2, found.3)

-- with less to look at that is still to be looked at
pub wave_same : (granted : Granted) (affected placed waiting look other_look : ℕ → Bool) →
    ((n : ℕ) → other_look n ≡ false → look n ≡ false) →
    IsWave granted affected placed waiting look → IsWave granted affected placed waiting other_look
wave_same granted affected placed waiting look other_look fewer wave = record {
  waits = wave.waits;
  blocked = λ n aff not_placed no_look. wave.blocked n aff not_placed (fewer n no_look);
}

-- a node no longer waits: its holders are to be looked at
pub wave_popped : (granted : Granted) (affected placed waiting new_waiting : ℕ → Bool) (next : ℕ) →
    ((n : ℕ) → new_waiting n ≡ (not (next == n) && waiting n)) →
    IsWave granted affected placed waiting (λ _. false) →
    IsWave granted affected placed new_waiting (λ n. granted next n)
wave_popped granted affected placed waiting new_waiting next is wave = record {
  waits = λ n now. wave.waits n ((and_parts (not (next == n)) (waiting n) (sym (is n) ∙ now)).1);
  blocked = λ n aff not_placed no_edge.
      let old = wave.blocked n aff not_placed refl in
      (old.0, old.1, old.2, rw (is old.0) (popped n old.0 no_edge old.1 (next == old.0) (placed old.0) (waiting old.0) refl old.3));
}
  where
    popped : (n role : ℕ) → granted next n ≡ false → granted role n ≡ true → (same p w : Bool) → (next == role) ≡ same →
        (p && not w) ≡ false → (p && not (not same && w)) ≡ false
    popped n role no_edge edge true p w s h = absurd (true≢false (sym edge ∙ sym (ap (λ r. granted r n) (eqb-true next role s)) ∙ no_edge))
    popped n role no_edge edge false p w s h = h

-- at the end nothing is left, since whatever is left would lead round in a loop
module _ (granted : Granted) (affected placed waiting : ℕ → Bool) (free : IsFreeOfLoops granted)
    (wave : IsWave granted affected placed waiting (λ _. false)) (none : (n : ℕ) → waiting n ≡ false)
    (small : (n : ℕ) → affected n ≡ true → n < 4096) where
  not_placed_yet : (n : ℕ) (p w : Bool) → w ≡ false → (p && not w) ≡ false → p ≡ false
  not_placed_yet n true true no_wait h = absurd (true≢false no_wait)
  not_placed_yet n true false no_wait h = absurd (true≢false h)
  not_placed_yet n false w no_wait h = refl

  descend : (fuel : ℕ) (visited : ℕ → Bool) (now : ℕ) → failing visited 4096 < fuel → visited now ≡ true →
      ((n : ℕ) → visited n ≡ true → Reaches granted n now) → affected now ≡ true → placed now ≡ false → ⊥
  descend zero visited now less here paths aff unplaced = absurd (omega (arith, less))
  descend (suc fuel) visited now less here paths aff unplaced =
      let found = wave.blocked now aff unplaced refl in
      let role = found.0 in
      elim (cases_Bool (visited role)) [
        | inl seen ↦ free role now found.1 (paths role seen)
        | inr unseen ↦
            descend fuel (λ n. (role == n) || visited n) role
            (omega (arith, less, failing_one visited (λ n. (role == n) || visited n) role unseen (λ _. refl) 4096 (small role found.2)))
            (or_left (role == role) (visited role) (eq-eqb role role refl))
            (λ n is. elim (or_cases (role == n) (visited n) is) [
              | inl same ↦ subst (λ (m : ℕ). Reaches granted m role) (eqb-true role n same) Here
              | inr seen ↦ Onward now role (paths n seen) found.1
            ])
            found.2 (not_placed_yet role (placed role) (waiting role) (none role) found.3)
      ]

  start : (n : ℕ) → affected n ≡ true → placed n ≡ false → ⊥
  start n aff unplaced =
      descend (failing (λ m. n == m) 4096 + 1) (λ m. n == m) n (omega arith) (eq-eqb n n refl)
      (λ m same. subst (λ (x : ℕ). Reaches granted x n) (eqb-true n m same) Here) aff unplaced

  pub all_placed : (n : ℕ) → affected n ≡ true → placed n ≡ true
  all_placed n aff = elim (cases_Bool (placed n)) [
    | inl is ↦ is
    | inr is_not ↦ absurd (start n aff is_not)
  ]

-- at first each node is to be looked at
pub wave_begins : (granted : Granted) (affected placed waiting : ℕ → Bool) → ((n : ℕ) → waiting n ≡ false) →
    IsWave granted affected placed waiting (λ n. nat_le 0 n)
wave_begins granted affected placed waiting none = record {
  waits = λ n is. absurd (true≢false (sym is ∙ none n));
  blocked = λ n aff not_placed no_look. absurd (true≢false (sym (le-leb 0 n (omega arith)) ∙ no_look));
}

-- after a node the next is to be looked at
pub look_on : (node n : ℕ) → nat_le (node + 1) n ≡ false → (nat_le node n && not (node == n)) ≡ false
look_on node n below =
    elim (cases_eq node n) [
      | inl same ↦ and_right (nat_le node n) (not (node == n)) (ap not (eq-eqb node n same))
      | inr other ↦ and_left (nat_le node n) (not (node == n)) (lt-leb node n (omega (arith, leb-false (node + 1) n below, other)))
    ]

-- each node below 4,096 was looked at
pub wave_looked_through : (granted : Granted) (affected placed waiting : ℕ → Bool) → ((n : ℕ) → affected n ≡ true → n < 4096) →
    IsWave granted affected placed waiting (λ n. nat_le 4096 n) → IsWave granted affected placed waiting (λ _. false)
wave_looked_through granted affected placed waiting small wave = record {
  waits = wave.waits;
  blocked = λ n aff not_placed no_look. wave.blocked n aff not_placed (lt-leb 4096 n (small n aff));
}

and_not_itself : (a b : Bool) → a ≡ b → (a && not b) ≡ false
and_not_itself true true same = refl
and_not_itself true false same = absurd (true≢false same)
and_not_itself false b same = refl

-- once the holders of a node were looked at, nothing is left to look at
pub wave_goes_on : (granted : Granted) (affected placed waiting led_to : ℕ → Bool) (next : ℕ) →
    ((n : ℕ) → led_to n ≡ granted next n) →
    IsWave granted affected placed waiting (λ n. granted next n && not (led_to n)) → IsWave granted affected placed waiting (λ _. false)
wave_goes_on granted affected placed waiting led_to next same wave =
    wave_same granted affected placed waiting (λ n. granted next n && not (led_to n)) (λ _. false)
    (λ n _. and_not_itself (granted next n) (led_to n) (sym (same n))) wave

-- one link more was followed
pub look_more : (look before one after : Bool) → after ≡ (before || one) → (look && not after) ≡ false → ((look && not before) && not one) ≡ false
look_more false before one after is unseen = refl
look_more true true one after is unseen = refl
look_more true false true after is unseen = refl
look_more true false false after is unseen = absurd (true≢false (sym (ap not is) ∙ unseen))

-- a node that waited and is taken is done
pub done_taken : (placed waiting new_waiting : ℕ → Bool) (next : ℕ) → placed next ≡ true →
    ((n : ℕ) → new_waiting n ≡ (not (next == n) && waiting n)) → done placed new_waiting next ≡ true
done_taken placed waiting new_waiting next is taken =
    rw (is, taken next, eq-eqb next next refl) refl

pub done_stays : (placed waiting new_waiting : ℕ → Bool) (next : ℕ) →
    ((n : ℕ) → new_waiting n ≡ (not (next == n) && waiting n)) → (n : ℕ) → done placed waiting n ≡ true → done placed new_waiting n ≡ true
done_stays placed waiting new_waiting next taken n is = rw (taken n) (stays (next == n) (placed n) (waiting n) is)
  where
    stays : (same p w : Bool) → (p && not w) ≡ true → (p && not (not same && w)) ≡ true
    stays true true w h = refl
    stays true false w h = absurd (true≢false (sym h))
    stays false p w h = h

pub not_done : (placed waiting : ℕ → Bool) (next : ℕ) → waiting next ≡ true → done placed waiting next ≡ false
not_done placed waiting next is = and_right (placed next) (not (waiting next)) (ap not is)

pub same_answers : (a b : Bool) → (a ≡ true → b ≡ true) → (b ≡ true → a ≡ true) → a ≡ b
same_answers true b there back = sym (there refl)
same_answers false true there back = back refl
same_answers false false there back = refl
