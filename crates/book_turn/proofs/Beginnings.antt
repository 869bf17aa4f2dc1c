-- Beginnings of lists, the items of a caller, and elements.
use Rattle.std.proofs.Common.{◌≡◌, ℕ, zero, suc, ◌<◌, ◌≤◌, ◌≢◌, ◌⊎◌, Bool, true, false, eqb, leb, cond, List, [], ◌∷◌, ◌++◌, map, length, set, refl, sym, ap, ◌∙◌, subst, inl, inr, ⊎_elim, arith, append_assoc, length-append, eq-eqb, ne_eqb}
use Rattle.std.proofs.lemmas.List.{append-nil}
use Rattle.std.proofs.lemmas.List.Elements.{filter-append}
use Rattle.std.proofs.lemmas.Bool.Decides.{nat_tests}
use mathlib.Core.Option.{some, some-injective, some-ne-none}
use lib.ListN.{get_elem?}
use Rattle.book_turn.specs.Lists.{Begins, longer_of, Has, by_caller}

module _ {A : Type 0} where
  pub begins_refl : (xs : List A) → Begins xs xs
  begins_refl xs = ([], sym (append-nil xs))

  pub begins_nil : (xs : List A) → Begins [] xs
  begins_nil xs = (xs, refl)

  pub begins_more : (xs ys zs : List A) → Begins xs ys → Begins xs (ys ++ zs)
  begins_more xs ys zs b = (b.0 ++ zs, ap (λ (l : List A). l ++ zs) b.1 ∙ append_assoc xs b.0 zs)

  pub begins_trans : (xs ys zs : List A) → Begins xs ys → Begins ys zs → Begins xs zs
  begins_trans xs ys zs b c = subst (λ (l : List A). Begins xs l) (sym c.1) (begins_more xs ys c.0 b)

  pub begins_length : (xs ys : List A) → Begins xs ys → length xs ≤ length ys
  begins_length xs ys b = omega (arith, ap length b.1, length-append xs b.0)

  none_left : (xs : List A) → length xs ≤ 0 → xs ≡ []
  none_left [] h = refl
  none_left (x ∷ xs) h = absurd (omega arith)

  -- a beginning that is no shorter is the whole
  pub begins_whole : (xs ys : List A) → Begins xs ys → length ys ≤ length xs → xs ≡ ys
  begins_whole xs ys b h = let e = none_left b.0 (omega (arith, ap length b.1, length-append xs b.0)) in sym (b.1 ∙ (ap (λ (l : List A). xs ++ l) e ∙ append-nil xs))

  -- of two beginnings the shorter begins the longer
  pub begins_both : (xs ys zs : List A) → Begins xs zs → Begins ys zs → length xs ≤ length ys → Begins xs ys
  begins_both [] ys zs b c h = begins_nil ys
  begins_both (x ∷ xs) [] zs b c h = absurd (omega arith)
  begins_both (x ∷ xs) (y ∷ ys) [] b c h = absurd (cc (b.1))
  begins_both (x ∷ xs) (y ∷ ys) (z ∷ zs) b c h =
      let bx : z ≡ x = cc (b.1) in let by : z ≡ y = cc (c.1) in
      let t = begins_both xs ys zs (b.0, cc (b.1)) (c.0, cc (c.1)) (omega arith) in
      (t.0, let e = t.1 in let f : y ≡ x = sym by ∙ bx in λ i. f i ∷ e i)

  longer_case : (xs ys zs : List A) (b : Bool) → leb (length ys) (length xs) ≡ b → Begins xs zs → Begins ys zs
      → Begins xs (cond b xs ys) × Begins ys (cond b xs ys) × Begins (cond b xs ys) zs
  longer_case xs ys zs true e b c = (begins_refl xs, begins_both ys xs zs c b (grind (arith, nat_tests)), b)
  longer_case xs ys zs false e b c = (begins_both xs ys zs b c (grind (arith, nat_tests)), begins_refl ys, c)

  -- the longer of two beginnings begins with both
  pub longer_begins : (xs ys zs : List A) → Begins xs zs → Begins ys zs → Begins xs (longer_of xs ys) × Begins ys (longer_of xs ys) × Begins (longer_of xs ys) zs
  longer_begins xs ys zs b c = longer_case xs ys zs (leb (length ys) (length xs)) refl b c

  pub has_append : (xs ys : List A) (x : A) → Has (xs ++ ys) x → Has xs x ⊎ Has ys x
  has_append [] ys x h = inr h
  has_append (y ∷ xs) ys x h = ⊎_elim (λ e. inl (inl e)) (λ t. ⊎_elim (λ u. inl (inr u)) (λ u. inr u) (has_append xs ys x t)) h

  pub has_left : (xs ys : List A) (x : A) → Has xs x → Has (xs ++ ys) x
  has_left [] ys x h = absurd h
  has_left (y ∷ xs) ys x h = ⊎_elim (λ e. inl e) (λ t. inr (has_left xs ys x t)) h

  pub has_right : (xs ys : List A) (x : A) → Has ys x → Has (xs ++ ys) x
  has_right [] ys x h = h
  has_right (y ∷ xs) ys x h = inr (has_right xs ys x h)

  pub has_map : {C : Type 0} (f : A → C) (xs : List A) (y : C) → Has (map f xs) y → (x : A) × Has xs x × (f x ≡ y)
  has_map f [] y h = absurd h
  has_map f (x ∷ xs) y h = ⊎_elim (λ e. (x, inl refl, e)) (λ t. let u = has_map f xs y t in (u.0, inr u.1, u.2)) h

  pub map_has : {C : Type 0} (f : A → C) (xs : List A) (x : A) → Has xs x → Has (map f xs) (f x)
  map_has f [] x h = absurd h
  map_has f (y ∷ xs) x h = ⊎_elim (λ e. inl (ap f e)) (λ t. inr (map_has f xs x t)) h

  -- what stands at a place of a list, once one is set
  pub set_at : (l : List A) (i : ℕ) (a b : A) → get_elem? l i ≡ some b → get_elem? (set l i a) i ≡ some a
  set_at [] i a b e = absurd (some-ne-none b (sym e))
  set_at (x ∷ xs) zero a b e = refl
  set_at (x ∷ xs) (suc i) a b e = set_at xs i a b e

  pub at_end : (l : List A) (a b : A) (j : ℕ) → get_elem? (l ++ a ∷ []) j ≡ some b → (get_elem? l j ≡ some b) ⊎ ((a ≡ b) × (j ≡ length l))
  at_end [] a b zero e = inr (some-injective a b e, refl)
  at_end [] a b (suc j) e = absurd (some-ne-none b (sym e))
  at_end (x ∷ xs) a b zero e = inl e
  at_end (x ∷ xs) a b (suc j) e = ⊎_elim (λ t. inl t) (λ t. inr (t.0, ap suc t.1)) (at_end xs a b j e)

  pub below_length : (l : List A) (i : ℕ) (a : A) → get_elem? l i ≡ some a → i < length l
  below_length [] i a e = absurd (some-ne-none a (sym e))
  below_length (x ∷ xs) zero a e = omega arith
  below_length (x ∷ xs) (suc i) a e = let h = below_length xs i a e in omega arith

module _ {I : Type 0} (by : I → ℕ) where
  pub by_caller-append : (c : ℕ) (xs ys : List I) → by_caller by c (xs ++ ys) ≡ by_caller by c xs ++ by_caller by c ys
  by_caller-append c xs ys = filter-append (λ item. eqb (by item) c) xs ys

  -- an item of this caller is one more of its items
  pub by_caller_same : (c : ℕ) (log : List I) (item : I) → by item ≡ c → by_caller by c (log ++ item ∷ []) ≡ by_caller by c log ++ item ∷ []
  by_caller_same c log item e = by_caller-append c log (item ∷ []) ∙ ap (λ b. by_caller by c log ++ cond b (item ∷ []) []) (eq-eqb (by item) c e)

  pub by_caller_other : (c : ℕ) (log : List I) (item : I) → by item ≢ c → by_caller by c (log ++ item ∷ []) ≡ by_caller by c log
  by_caller_other c log item e =
      by_caller-append c log (item ∷ []) ∙ (ap (λ b. by_caller by c log ++ cond b (item ∷ []) []) (ne_eqb (by item) c e) ∙ append-nil (by_caller by c log))
