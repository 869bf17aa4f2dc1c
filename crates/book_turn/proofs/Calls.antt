-- What the steps of one call come to.
use Rattle.std.proofs.Common.{◌≡◌, ℕ, true, List, [], ◌∷◌, ◌++◌, ◌+◌, map, length, length-append, arith, cond, ne_eqb, refl, sym, ap, ◌∙◌, subst, inl, inr, Option, Some, None}
use Rattle.std.specs.Prelude.{is_some, unwrap_or, ◌<◌}
use mathlib.Core.Logic.{dite}
use native.Mathlib.Decide.{ℕ_discrete}
use Rattle.atomic_table.specs.Table.{Me, rest}
use Rattle.book_turn.specs.declared.view.View.{View}
use Rattle.book_turn.specs.Lists.{Begins, Has, by_caller}
use Rattle.book_turn.specs.Views.{newest, numbered, held_log, held_origin, joined, recalling, taking, counting, giving}
use Rattle.book_turn.specs.Sitting.{makes, first_mine, IsIdle, OwnsOne}
use Rattle.book_turn.specs.Steps.{IsReady, Took, Taken, Counts, Gives, Recalls, Merged}
use Rattle.book_turn.proofs.Beginnings.{by_caller_same}

pub some_of : {A : Type 0} (o : Option A) → is_some o ≡ true → (x : A) × (o ≡ Some x)
some_of None e = absurd (cc e)
some_of (Some x) e = (x, refl)

abbrev first_slot : {A : Type 0} → List (ℕ × Option A) → Option A
first_slot [] = None
first_slot (x ∷ xs) = x.1

abbrev lone : {I : Type 0} → ℕ → List I → List (ℕ × List I)
lone caller mine = (caller, mine) ∷ []

module _ {B I O : Type 0} where
  pub first_is_ready : (m : Me (Option B) (View I O)) → m ≡ (newest, []) → IsReady m.0
  first_is_ready m e = subst (λ (x : Me (Option B) (View I O)). IsReady x.0) (sym e) (refl, inl refl, (0, [], inl refl))

  pub first_takes : (log_of : B → List I) (origin_of : B → O) (by : I → ℕ) (m n : Me (Option B) (View I O)) (found : ℕ) → m.0.fresh ≡ true → Took log_of origin_of by m found n → Taken log_of origin_of by m n
  first_takes log_of origin_of by m n found first t = dite (ℕ_discrete found 0) t.0 (λ busy. absurd ((t.1 busy).1 first))

  -- a join, and the look after it
  pub merges : (m n : Me (Option B) (View I O)) (v w : View I O) (cs : List (ℕ × Option B)) → m ≡ (joined v w, cs) → Recalls m n → Merged v w n.0 × (n.1 ≡ cs)
  merges m n v w cs e r = let t = subst (λ (x : Me (Option B) (View I O)). Recalls x n) e r in let now : n.0 ≡ recalling (joined v w) = ap (λ (x : Me (Option B) (View I O)). x.0) t.3 in
      let seen = ap (λ (x : View I O). x.seen) (sym now) in (
        record {
          now = now;
          first = subst (λ (l : List I). Begins v.seen l) seen t.0;
          second = subst (λ (l : List I). Begins w.seen l) seen t.1;
          origin = t.2;
        },
        ap (λ (x : Me (Option B) (View I O)). x.1) t.3,
      )

  -- the book is counted, and given back
  pub counted_book : (log_of : B → List I) (by : I → ℕ) (m n : Me (Option B) (View I O)) (v : View I O) (b : B) → m ≡ (v, (0, Some b) ∷ []) → Counts log_of by m n → n ≡ (counting by (log_of b) v, (0, Some b) ∷ [])
  counted_book log_of by m n v b e t = t ∙ ap (λ (x : Me (Option B) (View I O)). (counting by (held_log log_of x.1) x.0, x.1)) e

  pub given : (origin_of : B → O) (m n : Me (Option B) (View I O)) (v : View I O) (b : B) → m ≡ (v, (0, Some b) ∷ []) → Gives origin_of m n → n ≡ (giving (Some (origin_of b)) v, [])
  given origin_of m n v b e t = t ∙ ap (λ (x : Me (Option B) (View I O)). (giving (held_origin origin_of x.1) x.0, rest x.1)) e

  pub idle_is_ready : (m : Me (Option B) (View I O)) (caller made : ℕ) → IsIdle m → OwnsOne m.0 caller made → IsReady m.0 × (m.1 ≡ [])
  idle_is_ready m caller made idle owns =
      ((idle.1, inr (some_of m.0.origin idle.3), (caller, first_mine m.0.mine, subst (λ (l : List (ℕ × List I)). Has l (caller, first_mine m.0.mine)) (sym owns.0) (inl refl))), idle.0)

  -- the seat of a new caller
  pub numbered_sits : (v : View I O) (m : Me (Option B) (View I O)) (n : ℕ) → m ≡ (numbered v, []) → v.drawn ≡ Some n → is_some v.origin ≡ true → 0 < n
      → IsIdle m × OwnsOne m.0 n 0 × (m.0.drawn ≡ makes n 0) × (n ≡ 0 → 0 < 0)
  numbered_sits v m n e drawn come some = subst (λ (x : Me (Option B) (View I O)). IsIdle x × OwnsOne x.0 n 0 × (x.0.drawn ≡ makes n 0) × (n ≡ 0 → 0 < 0)) (sym e) (
    (refl, refl, refl, come),
    (ap (λ (x : Option ℕ). lone (unwrap_or x 0) []) drawn, refl),
    sym (ap (λ b. cond b (Some 0) None) (ne_eqb n 0 (λ is. omega arith))),
    λ is. absurd (omega arith),
  )

  -- the book b is out with a seat that had the view v, and has w
  pub record Out (log_of : B → List I) (origin_of : B → O) (by : I → ℕ) (v : View I O) (b : B) (w : View I O) : Type 0 where
    pub now : w ≡ taking (log_of b) v
    pub longer : Begins v.seen (log_of b)
    pub come : v.origin ≡ Some (origin_of b)
    pub own : (c : ℕ) (mine : List I) → Has v.mine (c, mine) → mine ≡ by_caller by c (log_of b)

  module _ (log_of : B → List I) (origin_of : B → O) (by : I → ℕ) where
    pub takes_out : (m n : Me (Option B) (View I O)) (b : B) → Taken log_of origin_of by m n → is_some m.0.origin ≡ true → n.1 ≡ (0, Some b) ∷ [] → Out log_of origin_of by m.0 b n.0
    takes_out m n b t come has = let o = some_of m.0.origin come in let u = t.book o.0 o.1 in
        let slot : t.slot ≡ Some b = ap first_slot (sym (ap (λ (x : Me (Option B) (View I O)). x.1) t.now) ∙ has) in let same : u.0 ≡ b = let x = u.1 in cc (x, slot) in
        let log : log_of b ≡ t.log = ap log_of (sym same) ∙ u.2 in record {
          now = ap (λ (x : Me (Option B) (View I O)). x.0) t.now ∙ ap (λ (l : List I). taking l m.0) (sym log);
          longer = subst (λ (l : List I). Begins m.0.seen l) (sym log) t.longer;
          come = o.1 ∙ (ap (λ (x : O). Some x) (sym u.3) ∙ ap (λ (x : B). Some (origin_of x)) same);
          own = λ c mine h. t.own c mine h ∙ ap (by_caller by c) (sym log);
        }

    -- the seat holds a book that comes with its origin
    pub book_out : (m n : Me (Option B) (View I O)) → Taken log_of origin_of by m n → is_some m.0.origin ≡ true → m.1 ≡ [] → (b : B) × (n.1 ≡ (0, Some b) ∷ [])
    book_out m n t come none = let o = some_of m.0.origin come in let u = t.book o.0 o.1 in
        (u.0, ap (λ (x : Me (Option B) (View I O)). x.1) t.now ∙ (λ i. (0, u.1 i) ∷ none i))

    pub has_own : (v : View I O) (caller made : ℕ) (b : B) (w : View I O) → Out log_of origin_of by v b w → OwnsOne v caller made → first_mine v.mine ≡ by_caller by caller (log_of b)
    has_own v caller made b w t owns = t.own caller (first_mine v.mine) (subst (λ (l : List (ℕ × List I)). Has l (caller, first_mine v.mine)) (sym owns.0) (inl refl))

    pub owed_log : (v : View I O) (caller made : ℕ) (b : B) (w u : View I O) (item : I) (log : List I) → Out log_of origin_of by v b w → u ≡ w → OwnsOne v caller made → log ≡ log_of b ++ item ∷ [] → by item ≡ caller
        → (x : I) × (own : List I) × (log ≡ u.seen ++ x ∷ []) × (u.mine ≡ (by x, own) ∷ [])
    owed_log v caller made b w u item log t same owns grown is = let now : u ≡ taking (log_of b) v = same ∙ t.now in (
      item,
      first_mine v.mine,
      grown ∙ ap (λ (x : View I O). x.seen ++ item ∷ []) (sym now),
      ap (λ (x : View I O). x.mine) now ∙ (owns.0 ∙ ap (λ (x : ℕ). lone x (first_mine v.mine)) (sym is)),
    )

    -- what a seat is after a call that was logged
    pub record Ended (v : View I O) (caller made : ℕ) (K : List I) (item : I) (m : Me (Option B) (View I O)) : Type 0 where
      pub idle : IsIdle m
      pub owns : OwnsOne m.0 caller (made + 1)
      pub drawn : m.0.drawn ≡ v.drawn
      pub seen : m.0.seen ≡ K ++ item ∷ []
      pub more : first_mine m.0.mine ≡ first_mine v.mine ++ item ∷ []
      pub just : first_mine m.0.mine ≡ by_caller by caller m.0.seen

    pub ends : (v : View I O) (caller made : ℕ) (b b' : B) (w u : View I O) (item : I) (m : Me (Option B) (View I O)) → Out log_of origin_of by v b w → u ≡ w → OwnsOne v caller made
        → log_of b' ≡ log_of b ++ item ∷ [] → by item ≡ caller → m ≡ (giving (Some (origin_of b')) (counting by (log_of b') u), []) → Ended v caller made (log_of b) item m
    ends v caller made b b' w u item m t same owns grown is now = let K : List I = log_of b in let L : List I = log_of b' in let l : List I = first_mine v.mine in
        let W : View I O = giving (Some (origin_of b')) (counting by L (taking K v)) in
        let e : m ≡ (W, []) = now ∙ ap (λ (x : View I O). (giving (Some (origin_of b')) (counting by L x), [])) (same ∙ t.now) in
        let one : W.mine ≡ (caller, by_caller by caller L) ∷ [] = ap (map (λ (pair : ℕ × List I). (pair.0, by_caller by pair.0 L))) owns.0 in
        let mine : first_mine W.mine ≡ by_caller by caller L = ap first_mine one in
        let more : by_caller by caller L ≡ l ++ item ∷ [] = ap (by_caller by caller) grown ∙ (by_caller_same by caller K item is ∙ ap (λ (x : List I). x ++ item ∷ []) (sym (has_own v caller made b w t owns))) in
        subst (Ended v caller made K item) (sym e) record {
          idle = (refl, refl, refl, refl);
          owns = (one ∙ ap (λ (x : List I). lone caller x) (sym mine), omega (arith, owns.1, ap length mine, ap length more, length-append l (item ∷ [])));
          drawn = refl;
          seen = grown;
          more = mine ∙ more;
          just = mine;
        }

    pub ends_just : (v : View I O) (caller made : ℕ) (b : B) (w u : View I O) (o : O) (m : Me (Option B) (View I O)) → Out log_of origin_of by v b w → u ≡ w → OwnsOne v caller made
        → m ≡ (giving (Some o) u, []) → first_mine m.0.mine ≡ by_caller by caller m.0.seen
    ends_just v caller made b w u o m t same owns now = subst (λ (x : Me (Option B) (View I O)). first_mine x.0.mine ≡ by_caller by caller x.0.seen)
        (sym (now ∙ ap (λ (x : View I O). (giving (Some o) x, [])) (same ∙ t.now))) (has_own v caller made b w t owns)

-- a list of one held slot, as a step asks for it
pub one_held : {S : Type 0} (cs : List (ℕ × S)) (x : S) → cs ≡ (0, x) ∷ [] → cs ≡ (0, x) ∷ rest cs
one_held {S} cs x e = e ∙ ap (λ (l : List (ℕ × S)). (0, x) ∷ rest l) (sym e)
