-- The steps round the turn keep the rule, and what is known once the table is closed.
use Rattle.std.proofs.Common.{◌≡◌, ℕ, ◌+◌, ◌%◌, ◌^◌, ◌<◌, ◌≤◌, ◌≢◌, ◌⊎◌, true, false, List, [], ◌∷◌, ◌++◌, length, get_or, set, refl, sym, ap, ◌∙◌, subst, inl, ⊎_elim, arith, eqb, eq-eqb, ne_eqb, length-append, Option, Some, None}
use mathlib.Core.Logic.{dite}
use mathlib.Core.Option.{some, some-injective, some-ne-none}
use native.Mathlib.Decide.{ℕ_discrete}
use prog.Atomic.{either}
use lib.ListN.{get_elem?}
use lib.Seq.{set-get_or}
use Rattle.atomic_table.specs.Table.{State, Me, keeps, takes, gives, stepped, put_back, Allows, Seen, Final}
use Rattle.atomic_table.proofs.Lists.{set_again}
use Rattle.book_turn.specs.declared.view.View.{View}
use Rattle.book_turn.specs.Lists.{Begins, Has, by_caller}
use Rattle.book_turn.specs.Views.{held_log, held_origin, taking, counting, giving}
use Rattle.book_turn.specs.Rule.{Whole, Fits, Shelved, HasPair, Kept}
use Rattle.book_turn.specs.Steps.{Rooted, IsReady, Took, Taken, Counts, Gives}
use Rattle.book_turn.proofs.Beginnings.{begins_refl, begins_more, has_map, map_has, set_at, by_caller_other}
use Rattle.book_turn.proofs.Keeps.{each_set, still_held}

module _ {B I O : Type 0} (log_of : B → List I) (origin_of : B → O) (by : I → ℕ) where
  abbrev St : Type 0
  St = State (Option B) (View I O)

  abbrev M : Type 0
  M = Me (Option B) (View I O)

  abbrev Rule : St → Type 0
  Rule = Kept log_of origin_of by

  -- a turn that is taken is another seat's, and not the first's
  not_first : (s : St) (k : Rule s) (id : ℕ) (v : View I O) → get_elem? s.views id ≡ some v → v.turn ≡ false → k.all.turn ≢ 0 → v.fresh ≢ true
  not_first s k id v at idle busy first = let f = k.each id v at in let start = f.starts first in let h = k.held busy in let here : k.all.holder ≡ id = (k.empty start.0).1 ∙ sym start.1 in
      let u : h.0 ≡ v = some-injective h.0 v (sym h.1 ∙ (ap (λ (i : ℕ). get_elem? s.views i) here ∙ at)) in let x = ap (λ (z : View I O). z.turn) u in absurd (cc (x, idle, h.2))

  shelved_none : (base : Option O) (log : List I) (x : Option B) → Shelved log_of origin_of base log x → base ≡ None → x ≡ None
  shelved_none None log x h e = h
  shelved_none (Some o) log x h e = absurd (cc e)

  shelved_book : (base : Option O) (log : List I) (x : Option B) → Shelved log_of origin_of base log x → (o : O) → base ≡ Some o → (b : B) × (x ≡ Some b) × (log_of b ≡ log) × (origin_of b ≡ o)
  shelved_book None log x h o e = absurd (cc e)
  shelved_book (Some p) log x h o e = let same : p ≡ o = cc e in (h.0, h.1, h.2, h.3 ∙ same)

  hits : (id : ℕ) (m : M) → m.0.turn ≡ false → Rooted m.0 → HasPair m.0 → (s : St) (k : Rule s) → get_elem? s.views id ≡ some m.0 → k.all.turn ≡ 0
      → (x : Option B) × (get_elem? s.homes 0 ≡ some (some x)) × Rule (stepped s 0 1 id m.1 (taking k.all.log m.0) (takes 0 x)) × Taken log_of origin_of by m (taking k.all.log m.0, (0, x) ∷ m.1)
  hits id m idle rooted pair s k at free = let f = k.each id m.0 at in let t = k.home free in let log : List I = k.all.log in let w : View I O = taking log m.0 in
      let all : Whole I O = record { log = log; turn = 1; callers = k.all.callers; maker = k.all.maker; holder = id; owner = k.all.owner; base = k.all.base } in (
        t.0,
        ap (λ (l : List (mathlib.Core.Option.Option (Option B))). get_elem? l 0) t.1,
        record {
          all = all;
          words = ap (λ (l : List ℕ). set l 0 1) k.words;
          each = each_set (Fits by k.all) (Fits by all) s.views id w k.each record {
            begins = begins_refl log;
            heard = f.heard;
            bounded = f.bounded;
            own = f.own;
            holds = λ _. (refl, refl, refl);
            makes = f.makes;
            starts = f.starts;
            comes = f.comes;
            hinted = f.hinted;
          } (λ j u other g. record {
            begins = g.begins;
            heard = g.heard;
            bounded = g.bounded;
            own = g.own;
            holds = λ e. absurd (omega (arith, (g.holds e).0, free));
            makes = g.makes;
            starts = g.starts;
            comes = g.comes;
            hinted = g.hinted;
          });
          held = λ _. (w, set_at s.views id w m.0 at, refl, pair);
          home = λ (e : 1 ≡ 0). absurd (omega (arith, e));
          later = k.later;
          empty = λ none. ((k.empty none).0, ⊎_elim (λ first. (f.starts first).1) (λ (q : (origin : O) × (m.0.origin ≡ Some origin)). let x = f.comes q.0 q.1 in absurd (cc (x, none))) rooted);
        },
        record {
          log = log;
          slot = t.0;
          now = refl;
          longer = f.begins;
          first = λ e. (shelved_none k.all.base log t.0 t.2 (f.starts e).0, (k.empty (f.starts e).0).0);
          book = λ o e. shelved_book k.all.base log t.0 t.2 o (f.comes o e);
          own = λ c l h. (f.own c l h).2;
        },
      )

  -- nothing has changed
  misses : (s : St) (k : Rule s) (id : ℕ) (m : M) → get_elem? s.views id ≡ some m.0 → Rule (stepped s 0 (get_or s.words 0 0) id m.1 m.0 keeps)
  misses s k id m at = subst (λ (x : List ℕ × List (View I O)). Rule record { words = x.0; homes = s.homes; views = x.1 }) (λ i. (sym (set-get_or s.words 0 0) i, sym (set_again s.views id m.0 at) i)) k

  pub takes_turn : (n id : ℕ) (m : M) → IsReady m.0 → Allows Rule n id m 0 (λ r. either (eqb r 0) 1 r) (λ r x. Took log_of origin_of by m r x)
  takes_turn n id m (idle, rooted, pair) s k _ at _ = let r : ℕ = get_or s.words 0 0 in let e : r ≡ k.all.turn = ap (λ (l : List ℕ). get_or l 0 0) k.words in dite (ℕ_discrete r 0)
      (λ free. let t = hits id m idle rooted pair s k at (sym e ∙ free) in (
        taking k.all.log m.0,
        takes 0 t.0,
        t.1,
        subst (λ b. Rule (stepped s 0 (either b 1 r) id m.1 (taking k.all.log m.0) (takes 0 t.0))) (sym (eq-eqb r 0 free)) t.2,
        ((λ _. t.3), λ busy. absurd (busy free)),
      ))
      (λ busy. (
        m.0,
        keeps,
        tt,
        subst (λ b. Rule (stepped s 0 (either b 1 r) id m.1 m.0 keeps)) (sym (ne_eqb r 0 busy)) (misses s k id m at),
        ((λ free. absurd (busy free)), λ _. (refl, not_first s k id m.0 at idle (λ z. busy (e ∙ z)))),
      ))

  counts : (n id : ℕ) (m : M) (b : B) (more : List (ℕ × Option B)) (item : I) (mine : List I) (o : O) → m.0.turn ≡ true → m.0.origin ≡ Some o → m.1 ≡ (0, Some b) ∷ more
      → log_of b ≡ m.0.seen ++ item ∷ [] → length (log_of b) < 2 ^ 63 → Has m.0.mine (by item, mine)
      → Allows Rule n id m 1 (λ r. (r + 1) % 2 ^ 64) (λ _ x. Counts log_of by m x)
  counts n id m b more item mine o turn come has grown short owned s k _ at _ = let f = k.each id m.0 at in let h = f.holds turn in let log : List I = k.all.log in
      let r : ℕ = get_or s.words 1 0 in let e : r ≡ length log = ap (λ (l : List ℕ). get_or l 1 0) k.words in
      let L : List I = held_log log_of m.1 in let held : L ≡ log_of b = ap (held_log log_of) has in let more_now : L ≡ log ++ item ∷ [] = held ∙ (grown ∙ ap (λ (l : List I). l ++ item ∷ []) h.2) in
      let longer : length L ≡ length log + 1 = ap length more_now ∙ length-append log (item ∷ []) in let bound = ap length held in
      let up : (r + 1) % 2 ^ 64 ≡ length L = omega (arith, e, longer, bound, short) in let own = f.own (by item) mine owned in let base = f.comes o come in
      let rest_of : (c : ℕ) → by item ≢ c → by_caller by c L ≡ by_caller by c log = λ c ne. ap (by_caller by c) more_now ∙ by_caller_other by c log item ne in
      let later_begins : (xs : List I) → Begins xs log → Begins xs L = λ xs x. subst (λ (l : List I). Begins xs l) (sym more_now) (begins_more xs log (item ∷ []) x) in
      let w : View I O = counting by L m.0 in
      let all : Whole I O = record { log = L; turn = k.all.turn; callers = k.all.callers; maker = k.all.maker; holder = k.all.holder; owner = k.all.owner; base = k.all.base } in (
        w,
        keeps,
        tt,
        record {
          all = all;
          words = ap (λ (l : List ℕ). set l 1 ((r + 1) % 2 ^ 64)) k.words ∙ ap (λ (x : ℕ). k.all.turn ∷ x ∷ []) up;
          each = each_set (Fits by k.all) (Fits by all) s.views id w k.each record {
            begins = begins_refl L;
            heard = later_begins m.0.passed_on f.heard;
            bounded = omega (arith, f.bounded, longer);
            own = λ c l x. let p = has_map (λ (pair : ℕ × List I). (pair.0, by_caller by pair.0 L)) m.0.mine (c, l) x in let q = f.own p.0.0 p.0.1 p.1 in let same : p.0.0 ≡ c = ap (λ (z : ℕ × List I). z.0) p.2 in
                (ap k.all.owner (sym same) ∙ q.0, omega (arith, same, q.1), ap (λ (z : ℕ × List I). z.1) (sym p.2) ∙ ap (λ (z : ℕ). by_caller by z L) same);
            holds = λ _. (h.0, h.1, refl);
            makes = f.makes;
            starts = f.starts;
            comes = f.comes;
            hinted = f.hinted;
          } (λ j u other g. record {
            begins = later_begins u.seen g.begins;
            heard = later_begins u.passed_on g.heard;
            bounded = omega (arith, g.bounded, longer);
            own = λ c l x. let q = g.own c l x in (q.0, q.1, q.2 ∙ sym (rest_of c (λ same. other (sym q.0 ∙ (ap k.all.owner (sym same) ∙ own.0)))));
            holds = λ t. absurd (other ((g.holds t).1 ∙ sym h.1));
            makes = g.makes;
            starts = g.starts;
            comes = g.comes;
            hinted = g.hinted;
          });
          held = λ busy. still_held s.views id k.all.holder m.0 w at refl (λ p. (p.0, by_caller by p.0 L, map_has (λ (pair : ℕ × List I). (pair.0, by_caller by pair.0 L)) m.0.mine (p.0, p.1) p.2)) (k.held busy);
          home = λ free. absurd (omega (arith, free, h.0));
          later = λ c l. rest_of c (λ same. omega (arith, same, own.1, l)) ∙ k.later c l;
          empty = λ none. absurd (cc (none, base));
        },
        refl,
      )

  only_home : {A : Type 0} (l : List A) (x : A) → length l ≡ 1 → set l 0 x ≡ x ∷ []
  only_home [] x e = absurd (omega arith)
  only_home (y ∷ []) x e = refl
  only_home (y ∷ z ∷ l) x e = absurd (omega arith)

  gives_turn : (n id : ℕ) (m : M) (b : B) → n ≡ 1 → m.0.turn ≡ true → m.1 ≡ (0, Some b) ∷ [] → log_of b ≡ m.0.seen → (m.0.fresh ≡ true) ⊎ (m.0.origin ≡ Some (origin_of b))
      → Allows Rule n id m 0 (λ _. 0) (λ _ x. Gives origin_of m x)
  gives_turn n id m b one turn has same rooted s k sized at _ = let f = k.each id m.0 at in let h = f.holds turn in let w : View I O = giving (held_origin origin_of m.1) m.0 in
      let agrees : (o : O) → k.all.base ≡ Some o → Some (origin_of b) ≡ Some o
      = λ o e. ⊎_elim (λ first. let x = (f.starts first).0 in absurd (cc (x, e))) (λ come. sym (f.comes (origin_of b) come) ∙ e) rooted in
      let all : Whole I O = record { log = k.all.log; turn = 0; callers = k.all.callers; maker = k.all.maker; holder = k.all.holder; owner = k.all.owner; base = Some (origin_of b) } in (
        w,
        gives,
        tt,
        record {
          all = all;
          words = ap (λ (l : List ℕ). set l 0 0) k.words;
          each = each_set (Fits by k.all) (Fits by all) s.views id w k.each record {
            begins = f.begins;
            heard = f.heard;
            bounded = f.bounded;
            own = f.own;
            holds = λ e. absurd (cc e);
            makes = f.makes;
            starts = λ e. absurd (cc e);
            comes = λ o e. sym (ap (held_origin origin_of) has) ∙ e;
            hinted = λ o e. agrees o (f.hinted o e);
          } (λ j u other g. record {
            begins = g.begins;
            heard = g.heard;
            bounded = g.bounded;
            own = g.own;
            holds = λ t. absurd (other ((g.holds t).1 ∙ sym h.1));
            makes = g.makes;
            starts = λ e. let x = g.starts e in ⊎_elim (λ first. absurd (other (x.1 ∙ sym (f.starts first).1))) (λ come. let y = f.comes (origin_of b) come in let z = x.0 in absurd (cc (y, z))) rooted;
            comes = λ o e. agrees o (g.comes o e);
            hinted = λ o e. agrees o (g.hinted o e);
          });
          held = λ busy. absurd (busy refl);
          home = λ _. (Some b, ap (put_back s.homes) has ∙ only_home s.homes (some (Some b)) (sized ∙ one), (b, refl, same ∙ h.2, refl));
          later = k.later;
          empty = λ none. absurd (cc none);
        },
        refl,
      )

  -- the same steps, for a seat that holds the book
  pub counts_at : (n id : ℕ) (m : M) (v : View I O) (b : B) (item : I) (own : List I) (o : O) → m ≡ (v, (0, Some b) ∷ []) → v.turn ≡ true → v.origin ≡ Some o
      → log_of b ≡ v.seen ++ item ∷ [] → length (log_of b) < 2 ^ 63 → v.mine ≡ (by item, own) ∷ [] → Allows Rule n id m 1 (λ r. (r + 1) % 2 ^ 64) (λ _ x. Counts log_of by m x)
  counts_at n id m v b item own o e turn come grown short owned = subst (λ (x : M). Allows Rule n id x 1 (λ r. (r + 1) % 2 ^ 64) (λ _ y. Counts log_of by x y)) (sym e)
      (counts n id (v, (0, Some b) ∷ []) b [] item own o turn come refl grown short (subst (λ (l : List (ℕ × List I)). Has l (by item, own)) (sym owned) (inl refl)))

  pub gives_at : (n id : ℕ) (m : M) (v : View I O) (b : B) → n ≡ 1 → m ≡ (v, (0, Some b) ∷ []) → v.turn ≡ true → log_of b ≡ v.seen → (v.fresh ≡ true) ⊎ (v.origin ≡ Some (origin_of b))
      → Allows Rule n id m 0 (λ _. 0) (λ _ x. Gives origin_of m x)
  gives_at n id m v b one e turn same rooted = subst (λ (x : M). Allows Rule n id x 0 (λ _. 0) (λ _ y. Gives origin_of x y)) (sym e) (gives_turn n id (v, (0, Some b) ∷ []) b one turn refl same rooted)

  -- what the last seat knows of the book that is left
  pub record Left (v : View I O) (callers : ℕ) (origin : O) (xs : List (Option B)) : Type 0 where
    pub book : B
    pub slot : get_elem? xs 0 ≡ some (Some book)
    pub begins : Begins v.seen (log_of book)
    pub bounded : v.known ≤ length (log_of book)
    pub own : (c : ℕ) (mine : List I) → Has v.mine (c, mine) → mine ≡ by_caller by c (log_of book)
    pub others : (c : ℕ) → callers ≤ c → by_caller by c (log_of book) ≡ []
    pub comes : origin_of book ≡ origin

  pub leaves : (id : ℕ) (v : View I O) (n : ℕ) (o : O) (ws : List ℕ) (xs : List (Option B)) → v.turn ≡ false → v.drawn ≡ Some n → v.origin ≡ Some o
      → ((c : ℕ) → c < n → (mine : List I) × Has v.mine (c, mine)) → Final (Seen Rule id v) ws xs → Left v n o xs
  leaves id v n o ws xs idle drawn come all last = let s = last.0 in let k = last.1.0 in let at = last.1.1 in let f = k.each id v at in let made = f.makes n drawn in
      let free : k.all.turn ≡ 0 = dite (ℕ_discrete k.all.turn 0) (λ z. z) (λ busy. let h = k.held busy in let g = k.each k.all.holder h.0 h.1 in let p = h.3 in let q = g.own p.0 p.1 p.2 in
      let mine = all p.0 (omega (arith, q.1, made.0)) in let there : k.all.holder ≡ id = sym q.0 ∙ (f.own p.0 mine.0 mine.1).0 in
      let u : h.0 ≡ v = some-injective h.0 v (sym h.1 ∙ (ap (λ (i : ℕ). get_elem? s.views i) there ∙ at)) in let x = ap (λ (z : View I O). z.turn) u in absurd (cc (x, idle, h.2))) in
      let home = k.home free in let t = shelved_book k.all.base k.all.log home.0 home.2 o (f.comes o come) in
      let is : k.all.log ≡ log_of t.0 = sym t.2 in record {
        book = t.0;
        slot = last.4 0 (Some t.0) (ap (λ (l : List (mathlib.Core.Option.Option (Option B))). get_elem? l 0) home.1 ∙ ap (λ (x : Option B). some (some x)) t.1);
        begins = subst (λ (l : List I). Begins v.seen l) is f.begins;
        bounded = subst (λ (l : List I). v.known ≤ length l) is f.bounded;
        own = λ c mine h. (f.own c mine h).2 ∙ ap (by_caller by c) is;
        others = λ c l. ap (by_caller by c) (sym is) ∙ k.later c (omega (arith, l, made.0));
        comes = t.3;
      }
