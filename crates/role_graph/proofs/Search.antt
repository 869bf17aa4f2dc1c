-- A search along edges: nodes that were seen, and those of them that wait.
use Rattle.std.proofs.Common.{◌≡◌, ◌∙◌, refl, sym, ap, subst, ◌⊎◌, ◌↔◌, ℕ, zero, suc, Bool, true, false, not, cond, ◌<◌, ◌≤◌, ◌+◌, ◌==◌, ◌||◌, ◌&&◌, inl, inr, arith}
use Rattle.std.proofs.lemmas.Bool.{cases_eq, eq-eqb, eqb-true, true≢false, or_cases, or_left, or_right, and_parts, and_right}
use Rattle.role_graph.specs.Orders.{failing, done}
use Rattle.role_graph.specs.Paths.{Granted, Reaches, all_reached}
use Rattle.role_graph.specs.Paths.Reaches.{Here, Onward}

-- what is known in the midst of a search
pub record IsSearch (granted : Granted) (start : ℕ) (seen waiting : ℕ → Bool) : Type 0 where
  pub starts : seen start ≡ true
  pub sound : (n : ℕ) → seen n ≡ true → Reaches granted start n
  pub waits : (n : ℕ) → waiting n ≡ true → seen n ≡ true
  pub closed : (holder role : ℕ) → seen holder ≡ true → waiting holder ≡ false → granted role holder ≡ true → seen role ≡ true

only_start : (start n : ℕ) (other : Bool) → other ≡ false → ((start == n) || other) ≡ true → start ≡ n
only_start start n true none is = absurd (true≢false none)
only_start start n false none is =
    elim (or_cases (start == n) false is) [
      | inl same ↦ eqb-true start n same
      | inr never ↦ absurd (true≢false (sym never))
    ]

-- at first, the start alone is seen, and waits
pub search_begins : (granted : Granted) (start : ℕ) (seen empty : ℕ → Bool) → ((n : ℕ) → empty n ≡ false) →
    ((n : ℕ) → seen n ≡ ((start == n) || empty n)) → IsSearch granted start seen seen
search_begins granted start seen empty none seen_is = record {
  starts = rw (seen_is start, eq-eqb start start refl) refl;
  sound = λ n is. subst (λ (m : ℕ). Reaches granted start m) (only_start start n (empty n) (none n) (sym (seen_is n) ∙ is)) Here;
  waits = λ n is. is;
  closed = λ holder role is no_wait edge. absurd (true≢false (sym is ∙ no_wait));
}

cond_le : (b c : Bool) (x y : ℕ) → (b ≡ true → c ≡ true) → y ≤ x → cond c y (y + 1) ≤ cond b x (x + 1)
cond_le true true x y _ le = le
cond_le true false x y h le = absurd (true≢false (sym (h refl)))
cond_le false true x y _ le = omega (arith, le)
cond_le false false x y _ le = omega (arith, le)

cond_lt : (b c : Bool) (x y : ℕ) → (b ≡ true → c ≡ true) → y < x → cond c y (y + 1) < cond b x (x + 1)
cond_lt true true x y _ lt = lt
cond_lt true false x y h lt = absurd (true≢false (sym (h refl)))
cond_lt false true x y _ lt = omega (arith, lt)
cond_lt false false x y _ lt = omega (arith, lt)

cond_here : (b c : Bool) (x y : ℕ) → b ≡ false → c ≡ true → y ≤ x → cond c y (y + 1) < cond b x (x + 1)
cond_here b c x y fails passes le = rw (fails, passes) (omega (arith, le))

-- a test that passes wherever another does fails no more often
pub failing_le : (p q : ℕ → Bool) → ((n : ℕ) → p n ≡ true → q n ≡ true) → (bound : ℕ) → failing q bound ≤ failing p bound
unfolding failing
failing_le p q keeps zero = omega arith
failing_le p q keeps (suc bound) = cond_le (p bound) (q bound) (failing p bound) (failing q bound) (keeps bound) (failing_le p q keeps bound)

-- and less often where it passes at one number more
pub failing_lt : (p q : ℕ → Bool) → ((n : ℕ) → p n ≡ true → q n ≡ true) → (n : ℕ) → p n ≡ false → q n ≡ true →
    (bound : ℕ) → n < bound → failing q bound < failing p bound
unfolding failing
failing_lt p q keeps n fails passes zero below = absurd (omega (arith, below))
failing_lt p q keeps n fails passes (suc bound) below =
    elim (cases_eq n bound) [
      | inl same ↦
          cond_here (p bound) (q bound) (failing p bound) (failing q bound) (sym (ap p same) ∙ fails) (sym (ap q same) ∙ passes)
          (failing_le p q keeps bound)
      | inr other ↦
          cond_lt (p bound) (q bound) (failing p bound) (failing q bound) (keeps bound)
          (failing_lt p q keeps n fails passes bound (omega (arith, below, other)))
    ]

module _ (granted : Granted) (start next : ℕ) (seen waiting later_seen later_waiting : ℕ → Bool)
    (search : IsSearch granted start seen waiting) (waits : waiting next ≡ true)
    (seen_is : (n : ℕ) → later_seen n ≡ (seen n || granted n next))
    (waiting_is : (n : ℕ) → later_waiting n ≡ ((not (next == n) && waiting n) || (granted n next && not (seen n)))) where
  still_seen : (n : ℕ) → seen n ≡ true → later_seen n ≡ true
  still_seen n is = seen_is n ∙ or_left (seen n) (granted n next) is

  sound_from : (n : ℕ) → (seen n ≡ true) ⊎ (granted n next ≡ true) → Reaches granted start n
  sound_from n (inl before) = search.sound n before
  sound_from n (inr edge) = Onward next n (search.sound next (search.waits next waits)) edge

  -- of a node that no longer waits: it was seen before, and did not wait then or is the one that was taken
  settled : (n : ℕ) (same s w edge : Bool) → (s || edge) ≡ true → ((not same && w) || (edge && not s)) ≡ false →
      (s ≡ true) × ((same ≡ true) ⊎ (w ≡ false))
  settled n true true w edge a b = (refl, inl refl)
  settled n true false w true a b = absurd (true≢false b)
  settled n true false w false a b = absurd (true≢false (sym a))
  settled n false true true edge a b = absurd (true≢false b)
  settled n false true false edge a b = (refl, inr refl)
  settled n false false true edge a b = absurd (true≢false b)
  settled n false false false true a b = absurd (true≢false b)
  settled n false false false false a b = absurd (true≢false (sym a))

  closed_from : (holder role : ℕ) → (seen holder ≡ true) × (((next == holder) ≡ true) ⊎ (waiting holder ≡ false)) →
      granted role holder ≡ true → later_seen role ≡ true
  closed_from holder role (was, inl same) edge =
      seen_is role ∙ or_right (seen role) (granted role next) (ap (granted role) (eqb-true next holder same) ∙ edge)
  closed_from holder role (was, inr no_wait) edge = still_seen role (search.closed holder role was no_wait edge)

  waits_from : (n : ℕ) → ((not (next == n) && waiting n) ≡ true) ⊎ ((granted n next && not (seen n)) ≡ true) → later_seen n ≡ true
  waits_from n (inl before) = still_seen n (search.waits n ((and_parts (not (next == n)) (waiting n) before).1))
  waits_from n (inr edge) = seen_is n ∙ or_right (seen n) (granted n next) ((and_parts (granted n next) (not (seen n)) edge).0)

  -- a node that waited is taken, and what it holds is seen
  pub search_goes : IsSearch granted start later_seen later_waiting
  search_goes = record {
    starts = still_seen start search.starts;
    sound = λ n is. sound_from n (or_cases (seen n) (granted n next) (sym (seen_is n) ∙ is));
    waits = λ n is. waits_from n (or_cases (not (next == n) && waiting n) (granted n next && not (seen n)) (sym (waiting_is n) ∙ is));
    closed = λ holder role is no_wait edge.
        closed_from holder role
        (settled holder (next == holder) (seen holder) (waiting holder) (granted holder next)
        (sym (seen_is holder) ∙ is) (sym (waiting_is holder) ∙ no_wait))
        edge;
  }

  done_stays : (n : ℕ) (same s w edge : Bool) → (s && not w) ≡ true → ((s || edge) && not ((not same && w) || (edge && not s))) ≡ true
  done_stays n true true false true a = refl
  done_stays n true true false false a = refl
  done_stays n false true false true a = refl
  done_stays n false true false false a = refl
  done_stays n same true true edge a = absurd (true≢false (sym a))
  done_stays n same false w edge a = absurd (true≢false (sym a))

  done_more : (n : ℕ) → done seen waiting n ≡ true → done later_seen later_waiting n ≡ true
  done_more n is = rw (seen_is n, waiting_is n) (done_stays n (next == n) (seen n) (waiting n) (granted n next) is)

  done_next : done later_seen later_waiting next ≡ true
  done_next = rw (seen_is next, waiting_is next, search.waits next waits, eq-eqb next next refl) (taken (granted next next))
    where
      taken : (edge : Bool) → not (edge && false) ≡ true
      taken true = refl
      taken false = refl

  -- so fewer nodes are left
  pub fewer_left : next < 4096 → failing (done later_seen later_waiting) 4096 < failing (done seen waiting) 4096
  fewer_left below =
      failing_lt (done seen waiting) (done later_seen later_waiting) done_more next
      (rw (waits) (and_right (seen next) false refl)) done_next 4096 below

-- once no node waits, the nodes that were seen are those that are reached
pub search_ends : (granted : Granted) (start : ℕ) (seen waiting : ℕ → Bool) → IsSearch granted start seen waiting →
    ((n : ℕ) → waiting n ≡ false) → (n : ℕ) → (seen n ≡ true) ↔ Reaches granted start n
search_ends granted start seen waiting search none n = (
  search.sound n,
  all_reached granted start (λ m. seen m ≡ true) search.starts
      (λ holder role is edge. search.closed holder role is (none holder) edge) n,
)
