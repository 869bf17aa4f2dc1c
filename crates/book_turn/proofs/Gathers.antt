-- Seats joined one after the other, and what the last of them knows.
use Rattle.std.proofs.Common.{◌≡◌, ℕ, ◌<◌, ◌≤◌, Bool, true, false, eqb, cond, List, [], ◌∷◌, ◌++◌, length, refl, sym, ap, ◌∙◌, subst, inl, arith, append_assoc, Option, Some, None}
use Rattle.std.specs.Prelude.{is_some, Any, All}
use Rattle.std.specs.List.{AllByRecursion}
use Rattle.std.proofs.lemmas.List.Elements.{All-from_recursion, recursion_from_All, All-weaker}
use mathlib.Core.Option.{some, some-injective}
use lib.ListN.{get_elem?}
use Rattle.atomic_table.specs.Table.{Me, Final, Seen}
use Rattle.book_turn.specs.declared.view.View.{View}
use Rattle.book_turn.specs.declared.seat.Seated.{Seated}
use Rattle.book_turn.specs.Lists.{Begins, Has, by_caller}
use Rattle.book_turn.specs.Views.{drawn_by}
use Rattle.book_turn.specs.Sitting.{makes}
use Rattle.book_turn.specs.Steps.{Merged}
use Rattle.book_turn.specs.Callers.{seen, known, mine, origin, callers_of, HasAllCallers}
use Rattle.book_turn.specs.Gathering.{Covers, drawn_in, Gathered, GatheredPast}
use Rattle.book_turn.specs.Rule.{Kept}
use Rattle.book_turn.proofs.Turns.{Left, leaves}
use Rattle.book_turn.proofs.Calls.{some_of}
use Rattle.book_turn.proofs.Beginnings.{begins_refl, begins_trans, has_left, has_right}

same_origin : {O : Type 0} (a b : Option O) → is_some a ≡ true → is_some b ≡ true → ((x y : O) → a ≡ Some x → b ≡ Some y → y ≡ x) → b ≡ a
same_origin {O = O} None b s t h = absurd (cc s)
same_origin {O = O} (Some x) None s t h = absurd (cc t)
same_origin {O = O} (Some x) (Some y) s t h = ap (λ (z : O). Some z) (h x y refl refl)

drawn_case : (caller callers rest : ℕ) (others : Option ℕ) (b : Bool) → 0 < cond b callers rest → (0 < rest → others ≡ Some rest) → drawn_by others (cond b (Some callers) None) ≡ Some (cond b callers rest)
drawn_case caller callers rest others true l h = refl
drawn_case caller callers rest others false l h = h l

module _ {S I O : Type 0} where
  has_own : (s : Seated S I O) → Has s.seat.me.0.mine (s.caller, mine s)
  has_own s = subst (λ (l : List (ℕ × List I)). Has l (s.caller, mine s)) (sym s.owns.0) (inl refl)

  pub gathers_one : (s : Seated S I O) → Gathered (s ∷ []) s.seat.me
  gathers_one s = record {
    idle = s.idle.1;
    empty = s.idle.0;
    come = s.idle.3;
    drawn = s.drawn ∙ none_first (makes s.caller s.callers);
    covers = (record { seen = begins_refl (seen s); known = omega arith; own = has_own s; origin = refl }, tt);
  } where
    none_first : (o : Option ℕ) → o ≡ drawn_by None o
    none_first None = refl
    none_first (Some n) = refl

  covers_still : (v w after : View I O) → Merged v w after → (seats : List (Seated S I O)) → AllByRecursion (λ s. Covers v s) seats → AllByRecursion (λ s. Covers after s) seats
  covers_still v w after t [] h = tt
  covers_still v w after t (s ∷ seats) h = let f = h.0 in (
    record {
      seen = begins_trans (seen s) v.seen after.seen f.seen t.first;
      known = let e = ap (λ (x : View I O). x.known) t.now in omega (arith, e, f.known);
      own = subst (λ (l : List (ℕ × List I)). Has l (s.caller, mine s)) (sym (ap (λ (x : View I O). x.mine) t.now)) (has_left v.mine w.mine (s.caller, mine s) f.own);
      origin = f.origin ∙ sym (ap (λ (x : View I O). x.origin) t.now);
    },
    covers_still v w after t seats h.1,
  )

  gathers_more : (s : Seated S I O) (done : List (Seated S I O)) (m n : Me S (View I O)) → Gathered done m → Merged m.0 s.seat.me.0 n.0 → n.1 ≡ m.1 → Gathered (s ∷ done) n
  gathers_more s done m n g t same = let v = m.0 in let w = s.seat.me.0 in record {
    idle = ap (λ (x : View I O). x.turn) t.now ∙ g.idle;
    empty = same ∙ g.empty;
    come = ap (λ (x : View I O). is_some x.origin) t.now ∙ g.come;
    drawn = ap (λ (x : View I O). x.drawn) t.now ∙ (λ i. drawn_by (g.drawn i) (s.drawn i));
    covers = (
      record {
        seen = t.second;
        known = let e = ap (λ (x : View I O). x.known) t.now in omega (arith, e);
        own = subst (λ (l : List (ℕ × List I)). Has l (s.caller, mine s)) (sym (ap (λ (x : View I O). x.mine) t.now)) (has_right v.mine w.mine (s.caller, mine s) (has_own s));
        origin = same_origin v.origin w.origin g.come s.idle.3 t.origin ∙ sym (ap (λ (x : View I O). x.origin) t.now);
      },
      covers_still v w n.0 t done g.covers,
    );
  }

  -- the number of callers is the one that the seats name
  pub drawn_is : (seats : List (Seated S I O)) → 0 < callers_of seats → drawn_in seats ≡ Some (callers_of seats)
  drawn_is [] l = absurd (omega arith)
  drawn_is (s ∷ seats) l = drawn_case s.caller s.callers (callers_of seats) (drawn_in seats) (eqb s.caller 0) l (drawn_is seats)

  pub some_seat : (seats : List (Seated S I O)) → 0 < callers_of seats → 0 < length seats
  some_seat [] l = l
  some_seat (s ∷ seats) l = omega arith

  pub covered : (v : View I O) (seats : List (Seated S I O)) (caller : ℕ) → AllByRecursion (λ s. Covers v s) seats → Any (λ s. s.caller ≡ caller) seats → (own : List I) × Has v.mine (caller, own)
  covered v seats caller h a = let f = All-from_recursion (λ s. Covers v s) seats h a.0 a.1 a.2 in let g : Covers v a.1 = subst (λ s. Covers v s) a.3 f in
      (mine a.1, subst (λ (c : ℕ). Has v.mine (c, mine a.1)) a.4 g.own)

  -- one seat more of the list
  pub gathers_next : (seats before left : List (Seated S I O)) (s : Seated S I O) (m n : Me S (View I O)) (w : View I O) → GatheredPast seats before m → before ≡ left ++ s ∷ [] → w ≡ s.seat.me.0 → Merged m.0 w n.0 → n.1 ≡ m.1
      → GatheredPast seats left n
  gathers_next seats before left s m n w past is same t empty = (
    s ∷ past.0,
    past.1 ∙ (ap (λ (l : List (Seated S I O)). l ++ past.0) is ∙ append_assoc left (s ∷ []) past.0),
    gathers_more s past.0 m n past.2 (subst (λ (x : View I O). Merged m.0 x n.0) same t) empty,
  )

  middle : (P : Seated S I O → Type 0) (left : List (Seated S I O)) (s : Seated S I O) (done : List (Seated S I O)) → AllByRecursion P ((left ++ s ∷ []) ++ done) → P s
  middle P [] s done h = h.0
  middle P (x ∷ left) s done h = middle P left s done h.1

  -- what each seat of the list meets, the next one does
  pub next_meets : (P : Seated S I O → Type 0) (seats before left : List (Seated S I O)) (s : Seated S I O) (m : Me S (View I O)) → All P seats → GatheredPast seats before m → before ≡ left ++ s ∷ [] → P s
  next_meets P seats before left s m h past is = middle P left s past.0
      (subst (λ (l : List (Seated S I O)). AllByRecursion P l) (past.1 ∙ ap (λ (l : List (Seated S I O)). l ++ past.0) is) (recursion_from_All P seats h))

module _ {B I O : Type 0} (log_of : B → List I) (origin_of : B → O) (by : I → ℕ) where
  -- what the seats of all callers say of the book that is left
  pub record Closes (seats : List (Seated (Option B) I O)) (book : B) : Type 0 where
    pub calls : All (λ s. mine s ≡ by_caller by s.caller (log_of book)) seats
    pub others : (caller : ℕ) → callers_of seats ≤ caller → by_caller by caller (log_of book) ≡ []
    pub seen : All (λ s. Begins (seen s) (log_of book)) seats
    pub known : All (λ s. known s ≤ length (log_of book)) seats
    pub origin : All (λ s. origin s ≡ Some (origin_of book)) seats

  module _ (seats : List (Seated (Option B) I O)) (id : ℕ) (m : Me (Option B) (View I O)) (ws : List ℕ) (xs : List (Option B)) (g : Gathered seats m) (every : HasAllCallers seats)
      (last : Final (Seen (Kept log_of origin_of by) id m.0) ws xs) where
    left : Left log_of origin_of by m.0 (callers_of seats) (some_of m.0.origin g.come).0 xs
    left = let o = some_of m.0.origin g.come in leaves log_of origin_of by id m.0 (callers_of seats) o.0 ws xs g.idle (g.drawn ∙ drawn_is seats every.0) o.1 (λ c l. covered m.0 seats c g.covers (every.1 c l)) last

    at_left : Closes seats left.book
    at_left = let t = left in let o = some_of m.0.origin g.come in let all = All-from_recursion (λ s. Covers m.0 s) seats g.covers in record {
      calls = All-weaker (λ s. Covers m.0 s) (λ s. mine s ≡ by_caller by s.caller (log_of t.book)) (λ s c. t.own s.caller (mine s) c.own) seats all;
      others = t.others;
      seen = All-weaker (λ s. Covers m.0 s) (λ s. Begins (seen s) (log_of t.book)) (λ s c. begins_trans (seen s) m.0.seen (log_of t.book) c.seen t.begins) seats all;
      known = All-weaker (λ s. Covers m.0 s) (λ s. known s ≤ length (log_of t.book)) (λ s c. omega (arith, c.known, t.bounded)) seats all;
      origin = All-weaker (λ s. Covers m.0 s) (λ s. origin s ≡ Some (origin_of t.book)) (λ s c. c.origin ∙ (o.1 ∙ ap (λ (x : O). Some x) (sym t.comes))) seats all;
    }

    whole : (book : B) × (get_elem? xs 0 ≡ some (Some book)) × Closes seats book
    whole = (left.book, left.slot, at_left)

    pub left_book : (slot : Option B) → get_elem? xs 0 ≡ some slot → (book : B) × (slot ≡ Some book)
    left_book slot at = let t = whole in (t.0, some-injective slot (Some t.0) (sym at ∙ t.1))

    pub closes : (slot : Option B) (book : B) → get_elem? xs 0 ≡ some slot → slot ≡ Some book → Closes seats book
    closes slot book at is = let t = whole in let e : slot ≡ Some t.0 = some-injective slot (Some t.0) (sym at ∙ t.1) in let same : t.0 ≡ book = cc (e, is) in subst (Closes seats) same t.2
