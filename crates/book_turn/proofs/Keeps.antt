-- The steps that take no turn keep the rule.
use Rattle.std.proofs.Common.{◌≡◌, ℕ, zero, suc, ◌+◌, ◌<◌, ◌≢◌, ◌⊎◌, false, cond, List, [], ◌∷◌, length, get_or, set, refl, sym, ap, ◌∙◌, subst, inl, inr, ⊎_elim, arith, eqb, eq-eqb, ne_eqb, length-set, Option, Some, None, unwrap_or}
use mathlib.Core.Logic.{dite}
use mathlib.Core.Option.{some, some-injective, some-ne-none}
use native.Mathlib.Decide.{ℕ_discrete}
use lib.ListN.{get_elem?}
use lib.Seq.{set-get_or}
use Rattle.atomic_table.specs.Table.{State, Me, keeps, stepped, opening, Allows, Splits, Joins}
use Rattle.atomic_table.proofs.Lists.{at_set, set_else, at_longer}
use Rattle.book_turn.specs.declared.view.View.{View}
use Rattle.book_turn.specs.Lists.{Has, by_caller}
use Rattle.book_turn.specs.Views.{newest, numbering, numbered, copied, drawn_by, joined, spent, recalling, looking}
use Rattle.book_turn.specs.Rule.{Whole, Fits, HasPair, Held, Kept}
use Rattle.book_turn.specs.Steps.{Looks, Recalls}
use Rattle.book_turn.proofs.Beginnings.{begins_nil, begins_length, longer_begins, has_append, has_left, set_at, at_end}

module _ {V : Type 0} where
  -- a fact of each view, where one view is set, and the fact changes
  pub each_set : (K L : ℕ → V → Type 0) (vs : List V) (me : ℕ) (w : V) → ((j : ℕ) (v : V) → get_elem? vs j ≡ some v → K j v) → L me w → ((j : ℕ) (v : V) → j ≢ me → K j v → L j v)
      → (j : ℕ) (v : V) → get_elem? (set vs me w) j ≡ some v → L j v
  each_set K L vs me w all mine others j v e = ⊎_elim (λ (t : (j ≡ me) × (w ≡ v)). subst (λ (x : ℕ × V). L x.0 x.1) (λ i. (sym t.0 i, t.1 i)) mine)
      (λ (t : (j ≢ me) × (get_elem? vs j ≡ some v)). others j v t.0 (all j v t.1)) (at_set vs me j w v e)

module _ {I O : Type 0} where
  -- the seat with the turn still has it, where a seat keeps the turn if it has it, and its pair
  pub still_held : (vs : List (View I O)) (me holder : ℕ) (v w : View I O) → get_elem? vs me ≡ some v → w.turn ≡ v.turn → (HasPair v → HasPair w) → Held vs holder → Held (set vs me w) holder
  still_held vs me holder v w at same pair h = dite (ℕ_discrete holder me)
      (λ (is : holder ≡ me). let u : h.0 ≡ v = some-injective h.0 v (sym h.1 ∙ (ap (λ (i : ℕ). get_elem? vs i) is ∙ at)) in
      (w, ap (λ (i : ℕ). get_elem? (set vs me w) i) is ∙ set_at vs me w v at, same ∙ (ap (λ (x : View I O). x.turn) (sym u) ∙ h.2), pair (subst (λ (x : View I O). HasPair x) u h.3)))
      (λ (other : holder ≢ me). (h.0, set_else vs me holder w other ∙ h.1, h.2, h.3))

module _ {B I O : Type 0} (log_of : B → List I) (origin_of : B → O) (by : I → ℕ) where
  abbrev St : Type 0
  St = State (Option B) (View I O)

  abbrev Rule : St → Type 0
  Rule = Kept log_of origin_of by

  -- a load, after which a seat has the view w
  unmoved : (s : St) (k : Rule s) (i me : ℕ) (cs : List (ℕ × Option B)) (v w : View I O) → get_elem? s.views me ≡ some v → w.turn ≡ v.turn → w.mine ≡ v.mine → Fits by k.all me w
      → Rule (stepped s i (get_or s.words i 0) me cs w keeps)
  unmoved s k i me cs v w at same pairs fits = subst (λ (ws : List ℕ). Rule record { words = ws; homes = s.homes; views = set s.views me w }) (sym (set-get_or s.words i 0)) record {
    all = k.all;
    words = k.words;
    each = each_set (Fits by k.all) (Fits by k.all) s.views me w k.each fits (λ j u other f. f);
    held = λ busy. still_held s.views me k.all.holder v w at same (λ p. (p.0, p.1, subst (λ (l : List (ℕ × List I)). Has l (p.0, p.1)) (sym pairs) p.2)) (k.held busy);
    home = k.home;
    later = k.later;
    empty = k.empty;
  }

  pub opens : Rule (opening (0 ∷ 0 ∷ []) (None ∷ []) newest)
  opens = let all : Whole I O = record { log = []; turn = 0; callers = 1; maker = 0; holder = 0; owner = λ _. 0; base = None } in record {
    all = all;
    words = refl;
    each = opens_each all refl refl refl refl refl (λ _. refl);
    held = λ busy. absurd (busy refl);
    home = λ _. (None, refl, refl);
    later = λ _ _. refl;
    empty = λ _. (refl, refl);
  } where
    opens_each : (all : Whole I O) → all.log ≡ [] → all.callers ≡ 1 → all.maker ≡ 0 → all.base ≡ None → all.turn ≡ 0 → ((c : ℕ) → all.owner c ≡ 0)
        → (seat : ℕ) (v : View I O) → get_elem? (newest ∷ []) seat ≡ some v → Fits by all seat v
    opens_each all empty one first none free mine zero v e = subst (λ (u : View I O). Fits by all 0 u) (some-injective newest v e) record {
      begins = begins_nil all.log;
      heard = begins_nil all.log;
      bounded = omega arith;
      own = λ c m h. ⊎_elim (λ (t : ◌≡◌ {A = ℕ × List I} (0, []) (c, m)). (
        mine c,
        omega (arith, one, ap (λ (x : ℕ × List I). x.0) t),
        ap (λ (x : ℕ × List I). x.1) (sym t) ∙ sym (ap (λ (l : List I). by_caller by c l) empty),
      )) (λ t. absurd t) h;
      holds = λ t. absurd (cc t);
      makes = λ n e. (cc (one, e), sym first);
      starts = λ _. (none, refl);
      comes = λ o e. absurd (cc e);
      hinted = λ o e. absurd (cc e);
    }
    opens_each all empty one first none free mine (suc seat) v e = absurd (some-ne-none v (sym e))

  pub looks : (n id : ℕ) (m : Me (Option B) (View I O)) → Allows Rule n id m 1 (λ r. r) (λ r x. Looks m r x)
  looks n id m s k _ at _ = let f = k.each id m.0 at in let r : ℕ = get_or s.words 1 0 in let e : r ≡ length k.all.log = ap (λ (l : List ℕ). get_or l 1 0) k.words in (
    looking r m.0,
    keeps,
    tt,
    unmoved s k 1 id m.1 m.0 (looking r m.0) at refl refl record {
      begins = f.begins;
      heard = f.heard;
      bounded = omega (arith, e);
      own = f.own;
      holds = f.holds;
      makes = f.makes;
      starts = f.starts;
      comes = f.comes;
      hinted = f.hinted;
    },
    (omega (arith, e, f.bounded), omega (arith, e, begins_length m.0.seen k.all.log f.begins), refl),
  )

  pub recalls : (n id : ℕ) (m : Me (Option B) (View I O)) → m.0.turn ≡ false → Allows Rule n id m 1 (λ r. r) (λ _ x. Recalls m x)
  recalls n id m idle s k _ at _ = let f = k.each id m.0 at in let longer = longer_begins m.0.seen m.0.passed_on k.all.log f.begins f.heard in (
    recalling m.0,
    keeps,
    tt,
    unmoved s k 1 id m.1 m.0 (recalling m.0) at refl refl record {
      begins = longer.2;
      heard = begins_nil k.all.log;
      bounded = f.bounded;
      own = f.own;
      holds = λ t. absurd (cc (idle, t));
      makes = f.makes;
      starts = f.starts;
      comes = f.comes;
      hinted = λ o e. absurd (cc e);
    },
    (longer.0, longer.1, (λ a b e g. let x = f.comes a e in let y = f.hinted b g in cc (x, y)), refl),
  )

  -- a copy of what was seen
  pub copies : (id : ℕ) (v : View I O) → Splits Rule id v v (copied v)
  copies id v s k at = let f = k.each id v at in record {
    all = k.all;
    words = k.words;
    each = λ j u e. ⊎_elim (λ (t : get_elem? (set s.views id v) j ≡ some u). each_set (Fits by k.all) (Fits by k.all) s.views id v k.each f (λ i x _ g. g) j u t)
        (λ (t : (copied v ≡ u) × (j ≡ length (set s.views id v))). subst (λ (x : View I O). Fits by k.all j x) t.0 record {
          begins = f.begins;
          heard = begins_nil k.all.log;
          bounded = f.bounded;
          own = λ c m h. absurd h;
          holds = λ t. absurd (cc t);
          makes = λ n e. absurd (cc e);
          starts = λ e. absurd (cc e);
          comes = f.comes;
          hinted = λ o e. absurd (cc e);
        }) (at_end (set s.views id v) (copied v) u j e);
    held = λ busy. let h = still_held s.views id k.all.holder v v at refl (λ p. p) (k.held busy) in (h.0, at_longer (set s.views id v) (copied v ∷ []) k.all.holder h.0 h.1, h.2, h.3);
    home = k.home;
    later = k.later;
    empty = k.empty;
  }

-- the owner of a caller's pair, once the caller n has come
abbrev owner_after : ℕ → ℕ → (ℕ → ℕ) → ℕ → ℕ
owner_after n seat owner c = cond (eqb c n) seat (owner c)

owner_new : (n seat : ℕ) (owner : ℕ → ℕ) (c : ℕ) → c ≡ n → owner_after n seat owner c ≡ seat
owner_new n seat owner c e = ap (λ b. cond b seat (owner c)) (eq-eqb c n e)

owner_old : (n seat : ℕ) (owner : ℕ → ℕ) (c : ℕ) → c ≢ n → owner_after n seat owner c ≡ owner c
owner_old n seat owner c e = ap (λ b. cond b seat (owner c)) (ne_eqb c n e)

-- a seat, once another was joined to the seat id
abbrev moved : ℕ → ℕ → ℕ → ℕ
moved other id seat = cond (eqb seat other) id seat

moved_there : (other id seat : ℕ) → seat ≡ other → moved other id seat ≡ id
moved_there other id seat e = ap (λ b. cond b id seat) (eq-eqb seat other e)

stayed : (other id seat : ℕ) → seat ≢ other → moved other id seat ≡ seat
stayed other id seat e = ap (λ b. cond b id seat) (ne_eqb seat other e)

drawn_cases : (a b : Option ℕ) (n : ℕ) → drawn_by a b ≡ Some n → (a ≡ Some n) ⊎ (b ≡ Some n)
drawn_cases a None n e = inl e
drawn_cases a (Some m) n e = inr e

module _ {B I O : Type 0} (log_of : B → List I) (origin_of : B → O) (by : I → ℕ) where
  -- a caller more
  pub numbers : (id : ℕ) (v : View I O) (n : ℕ) → v.drawn ≡ Some n → Splits (Kept log_of origin_of by) id v (numbering v) (numbered v)
  numbers id v n drawn s k at = let f = k.each id v at in let made = f.makes n drawn in let size : ℕ = length s.views in
      let all : Whole I O = record { log = k.all.log; turn = k.all.turn; callers = n + 1; maker = k.all.maker; holder = k.all.holder; owner = owner_after n size k.all.owner; base = k.all.base } in
      let owns : (j : ℕ) (u : View I O) → Fits by k.all j u → (c : ℕ) (m : List I) → Has u.mine (c, m) → (all.owner c ≡ j) × (c < n + 1) × (m ≡ by_caller by c k.all.log)
      = λ j u g c m h. let o = g.own c m h in (owner_old n size k.all.owner c (λ e. omega (arith, e, o.1, made.0)) ∙ o.0, omega (arith, o.1, made.0), o.2) in record {
        all = all;
        words = k.words;
        each = λ j u e. ⊎_elim
            (λ (t : get_elem? (set s.views id (numbering v)) j ≡ some u). each_set (Fits by k.all) (Fits by all) s.views id (numbering v) k.each record {
              begins = f.begins;
              heard = f.heard;
              bounded = f.bounded;
              own = owns id v f;
              holds = f.holds;
              makes = λ p e. (cc (e, drawn), made.1);
              starts = f.starts;
              comes = f.comes;
              hinted = f.hinted;
            } (λ i x other g. record {
              begins = g.begins;
              heard = g.heard;
              bounded = g.bounded;
              own = owns i x g;
              holds = g.holds;
              makes = λ p e. absurd (other ((g.makes p e).1 ∙ sym made.1));
              starts = g.starts;
              comes = g.comes;
              hinted = g.hinted;
            }) j u t)
            (λ (t : (numbered v ≡ u) × (j ≡ length (set s.views id (numbering v)))). subst (λ (x : View I O). Fits by all j x) t.0 record {
              begins = f.begins;
              heard = begins_nil k.all.log;
              bounded = f.bounded;
              own = λ c m h. ⊎_elim
                  (λ (q : ◌≡◌ {A = ℕ × List I} (unwrap_or v.drawn 0, []) (c, m)). let is : n ≡ c = ap (λ (x : Option ℕ). unwrap_or x 0) (sym drawn) ∙ ap (λ (x : ℕ × List I). x.0) q in
                  (owner_new n size k.all.owner c (sym is) ∙ sym (t.1 ∙ length-set s.views id (numbering v)), omega (arith, is), ap (λ (x : ℕ × List I). x.1) (sym q) ∙ sym (k.later c (omega (arith, is, made.0)))))
                  (λ q. absurd q) h;
              holds = λ e. absurd (cc e);
              makes = λ p e. absurd (cc e);
              starts = λ e. absurd (cc e);
              comes = f.comes;
              hinted = λ o e. absurd (cc e);
            }) (at_end (set s.views id (numbering v)) (numbered v) u j e);
        held = λ busy. let h = still_held s.views id k.all.holder v (numbering v) at refl (λ p. p) (k.held busy) in
            (h.0, at_longer (set s.views id (numbering v)) (numbered v ∷ []) k.all.holder h.0 h.1, h.2, h.3);
        home = k.home;
        later = λ c l. k.later c (omega (arith, l, made.0));
        empty = k.empty;
      }

  -- two seats made one
  pub joins : (id : ℕ) (v : View I O) (other : ℕ) (w : View I O) → w.turn ≡ false → Joins (Kept log_of origin_of by) id v other w (joined v w) spent
  joins id v other w idle s k at apart there = let both : View I O = joined v w in let vs : List (View I O) = set s.views id both in
      let at' : get_elem? s.views other ≡ some w = sym (set_else s.views id other both apart) ∙ there in let f = k.each id v at in let g = k.each other w at' in
      let all : Whole I O = record { log = k.all.log; turn = k.all.turn; callers = k.all.callers; maker = moved other id k.all.maker; holder = k.all.holder; owner = λ c. moved other id (k.all.owner c); base = k.all.base } in
      let stays : (j : ℕ) (u : View I O) → j ≢ other → Fits by k.all j u → (c : ℕ) (m : List I) → Has u.mine (c, m) → (all.owner c ≡ j) × (c < k.all.callers) × (m ≡ by_caller by c k.all.log)
      = λ j u ne x c m h. let o = x.own c m h in (stayed other id (k.all.owner c) (λ e. ne (sym o.0 ∙ e)) ∙ o.0, o.1, o.2) in
      let mine : Fits by all id both = record {
        begins = f.begins;
        heard = g.begins;
        bounded = omega (arith, f.bounded, g.bounded);
        own = λ c m h. ⊎_elim (λ t. stays id v (λ e. apart (sym e)) f c m t) (λ t. let o = g.own c m t in (moved_there other id (k.all.owner c) o.0, o.1, o.2)) (has_append v.mine w.mine (c, m) h);
        holds = f.holds;
        makes = λ n e. ⊎_elim (λ t. let x = f.makes n t in (x.0, x.1 ∙ sym (stayed other id k.all.maker (λ is. apart (sym is ∙ sym x.1))))) (λ t. let x = g.makes n t in (x.0, sym (moved_there other id k.all.maker (sym x.1))))
            (drawn_cases v.drawn w.drawn n e);
        starts = f.starts;
        comes = f.comes;
        hinted = g.comes;
      } in record {
        all = all;
        words = k.words;
        each = λ j u e. ⊎_elim
            (λ (t : (j ≡ other) × (spent ≡ u)). subst (λ (x : View I O). Fits by all j x) t.1 record {
              begins = begins_nil k.all.log;
              heard = begins_nil k.all.log;
              bounded = omega arith;
              own = λ c m h. absurd h;
              holds = λ e. absurd (cc e);
              makes = λ p e. absurd (cc e);
              starts = λ e. absurd (cc e);
              comes = λ o e. absurd (cc e);
              hinted = λ o e. absurd (cc e);
            })
            (λ (t : (j ≢ other) × (get_elem? vs j ≡ some u)). ⊎_elim
            (λ (q : (j ≡ id) × (both ≡ u)). subst (λ (x : ℕ × View I O). Fits by all x.0 x.1) (λ i. (sym q.0 i, q.1 i)) mine)
            (λ (q : (j ≢ id) × (get_elem? s.views j ≡ some u)). let x = k.each j u q.1 in record {
              begins = x.begins;
              heard = x.heard;
              bounded = x.bounded;
              own = stays j u t.0 x;
              holds = x.holds;
              makes = λ n e. let y = x.makes n e in (y.0, y.1 ∙ sym (stayed other id k.all.maker (λ is. t.0 (y.1 ∙ is))));
              starts = x.starts;
              comes = x.comes;
              hinted = x.hinted;
            })
            (at_set s.views id j both u t.1)) (at_set vs other j spent u e);
        held = λ busy. let old = k.held busy in
            let ne : k.all.holder ≢ other = λ is. let u : old.0 ≡ w = some-injective old.0 w (sym old.1 ∙ (ap (λ (i : ℕ). get_elem? s.views i) is ∙ at')) in let x = ap (λ (z : View I O). z.turn) u in absurd (cc (x, idle, old.2)) in
            let h = still_held s.views id k.all.holder v both at refl (λ p. (p.0, p.1, has_left v.mine w.mine (p.0, p.1) p.2)) old in
            (h.0, set_else vs other k.all.holder spent ne ∙ h.1, h.2, h.3);
        home = k.home;
        later = k.later;
        empty = k.empty;
      }
