-- How many links pass a test.
use Rattle.std.proofs.Common.{◌≡◌, ◌∙◌, refl, sym, ap, ℕ, Bool, true, false, cond, ◌<◌, ◌≤◌, ◌+◌, ◌||◌, ◌&&◌, nat_lt, List, [], ◌∷◌, length, get_or, set, take, drop, zero, suc, filter, count_by, arith}
use Rattle.std.specs.List.{list_any, insert}
use Rattle.std.proofs.lemmas.Bool.{lt-ltb, ltb-true, or_parts, or_from, and_left}
use Rattle.std.proofs.Math.Bool.{or-false}
use Rattle.std.proofs.lemmas.List.{take-append-drop}
use Rattle.std.proofs.lemmas.List.Sums.{sum_by-cons, sum_by-set, sum_by-insert}
use Rattle.std.proofs.lemmas.List.Folds.{list_any-append, list_any_at}
use Rattle.role_graph.specs.declared.link.Link.{Link}
use Rattle.role_graph.specs.Edges.{is_link, is_admin_link}

count_cons : (p : Link → Bool) (x : Link) (xs : List Link) → count_by p (x ∷ xs) ≡ cond (p x) 1 0 + count_by p xs
count_cons p x xs = sum_by-cons (λ y. cond (p y) 1 0) x xs

-- some link passes where the count is above 0
pub any_counted : (p : Link → Bool) (xs : List Link) → list_any p xs ≡ nat_lt 0 (count_by p xs)
any_counted p [] = refl
any_counted p (x ∷ xs) = rw (count_cons p x xs) (step (p x) (list_any p xs) (count_by p xs) (any_counted p xs))
  where
    step : (b any : Bool) (n : ℕ) → any ≡ nat_lt 0 n → (b || any) ≡ nat_lt 0 (cond b 1 0 + n)
    step true any n is = sym (lt-ltb 0 (1 + n) (omega arith))
    step false any n is = let same : n ≡ 0 + n = omega arith in is ∙ ap (nat_lt 0) same

pub count_all : (xs : List Link) → count_by (λ _. true) xs ≡ length xs
count_all [] = refl
count_all (x ∷ xs) = rw (count_cons (λ _. true) x xs) (omega (arith, count_all xs))

-- of the links that are kept
pub count_filter : (p q : Link → Bool) (xs : List Link) → count_by p (filter q xs) ≡ count_by (λ x. q x && p x) xs
count_filter p q [] = refl
count_filter p q (x ∷ xs) = rw (count_cons (λ y. q y && p y) x xs) (step (q x) (count_filter p q xs))
  where
    step : (keep : Bool) → count_by p (filter q xs) ≡ count_by (λ y. q y && p y) xs →
        count_by p (cond keep (x ∷ filter q xs) (filter q xs)) ≡ cond (keep && p x) 1 0 + count_by (λ y. q y && p y) xs
    step true is = count_cons p x (filter q xs) ∙ ap (λ n. cond (p x) 1 0 + n) is
    step false is = omega (arith, is)

-- a link that passes no more and no less in its place
pub count_set : (p : Link → Bool) (xs : List Link) (i : ℕ) (y d : Link) → i < length xs → p y ≡ p (get_or xs i d) →
    count_by p (set xs i y) ≡ count_by p xs
count_set p xs i y d inside same =
    omega (arith, sum_by-set (λ z. cond (p z) 1 0) xs i y d inside, ap {B = ℕ} (λ b. cond b 1 0) same)

-- one link more
pub count_insert : (p : Link → Bool) (xs : List Link) (i : ℕ) (y : Link) → count_by p (insert xs i y) ≡ count_by p xs + cond (p y) 1 0
count_insert p xs i y = sum_by-insert (λ z. cond (p z) 1 0) xs i y

pub any_filter : (p q : Link → Bool) (xs : List Link) → list_any p (filter q xs) ≡ list_any (λ x. q x && p x) xs
any_filter p q [] = refl
any_filter p q (x ∷ xs) = step (q x) (any_filter p q xs)
  where
    step : (keep : Bool) → list_any p (filter q xs) ≡ list_any (λ y. q y && p y) xs →
        list_any p (cond keep (x ∷ filter q xs) (filter q xs)) ≡ ((keep && p x) || list_any (λ y. q y && p y) xs)
    step true is = ap (λ b. p x || b) is
    step false is = is

-- no more of them are there than before
pub count_kept : (p q : Link → Bool) (xs : List Link) → count_by p (filter q xs) ≤ count_by p xs
count_kept p q [] = omega arith
count_kept p q (x ∷ xs) = rw (count_cons p x xs) (step (q x) (count_kept p q xs))
  where
    step : (keep : Bool) → count_by p (filter q xs) ≤ count_by p xs →
        count_by p (cond keep (x ∷ filter q xs) (filter q xs)) ≤ cond (p x) 1 0 + count_by p xs
    step true le = omega (arith, le, count_cons p x (filter q xs))
    step false le = omega (arith, le)

pub any_kept : (p q : Link → Bool) (xs : List Link) → list_any p (filter q xs) ≡ true → list_any p xs ≡ true
any_kept p q xs is =
    any_counted p xs ∙ lt-ltb 0 (count_by p xs)
    (omega (arith, count_kept p q xs, ltb-true 0 (count_by p (filter q xs)) (sym (any_counted p (filter q xs)) ∙ is)))

or_moved : (a b e : Bool) → ((a || e) || b) ≡ ((a || b) || e)
or_moved true b e = refl
or_moved false true true = refl
or_moved false true false = refl
or_moved false false true = refl
or_moved false false false = refl

or_grouped : (a b e : Bool) → (a || (b || e)) ≡ ((a || b) || e)
or_grouped true b e = refl
or_grouped false b e = refl

-- a link that passes more in its place
pub any_set : (p : Link → Bool) (more : Bool) (d y : Link) (xs : List Link) (i : ℕ) → i < length xs → p y ≡ (p (get_or xs i d) || more) →
    list_any p (set xs i y) ≡ (list_any p xs || more)
any_set p more d y [] i inside is = absurd (omega (arith, inside))
any_set p more d y (x ∷ xs) zero inside is = ap (λ b. b || list_any p xs) is ∙ or_moved (p x) (list_any p xs) more
any_set p more d y (x ∷ xs) (suc i) inside is =
    ap (λ b. p x || b) (any_set p more d y xs i (omega (arith, inside)) is) ∙ or_grouped (p x) (list_any p xs) more

or_between : (a b e : Bool) → (a || (e || b)) ≡ ((a || b) || e)
or_between true b e = refl
or_between false true true = refl
or_between false true false = refl
or_between false false true = refl
or_between false false false = refl

-- one link more
pub any_insert : (p : Link → Bool) (xs : List Link) (i : ℕ) (y : Link) → list_any p (insert xs i y) ≡ (list_any p xs || p y)
any_insert p xs i y =
    list_any-append p (take i xs) (y ∷ drop i xs)
    ∙ or_between (list_any p (take i xs)) (list_any p (drop i xs)) (p y)
    ∙ ap (λ b. b || p y) (sym (list_any-append p (take i xs) (drop i xs)) ∙ ap (list_any p) (take-append-drop i xs))

none_with_admin : (from to : ℕ) (xs : List Link) → list_any (is_link from to) xs ≡ false → list_any (is_admin_link from to) xs ≡ false
none_with_admin from to [] none = refl
none_with_admin from to (x ∷ xs) none =
    let parts = or_parts (is_link from to x) (list_any (is_link from to) xs) none in
    or_from (is_admin_link from to x) (list_any (is_admin_link from to) xs)
    (and_left (is_link from to x) x.admin parts.0) (none_with_admin from to xs parts.1)

-- of a link that stands alone, its option is what is found
pub admin_alone : (from to : ℕ) (d : Link) (links : List Link) (place : ℕ) → count_by (is_link from to) links ≤ 1 → place < length links →
    is_link from to (get_or links place d) ≡ true → list_any (is_admin_link from to) links ≡ (get_or links place d).admin
admin_alone from to d [] place once inside is = absurd (omega (arith, inside))
admin_alone from to d (x ∷ xs) zero once inside is =
    ap (λ b. (b && x.admin) || list_any (is_admin_link from to) xs) is
    ∙ ap (λ b. x.admin || b) (none_with_admin from to xs (any_counted (is_link from to) xs ∙ ap (nat_lt 0) no_other))
    ∙ or-false x.admin
  where
    no_other : count_by (is_link from to) xs ≡ 0
    no_other = omega (arith, once, count_cons (is_link from to) x xs, ap {B = ℕ} (λ b. cond b 1 0) is)
admin_alone from to d (x ∷ xs) (suc place) once inside is =
    ap (λ b. (b && x.admin) || list_any (is_admin_link from to) xs) (not_here (is_link from to x) refl)
    ∙ admin_alone from to d xs place (omega (arith, once, count_cons (is_link from to) x xs)) (omega (arith, inside)) is
  where
    some : 0 < count_by (is_link from to) xs
    some = ltb-true 0 (count_by (is_link from to) xs)
        (sym (any_counted (is_link from to) xs) ∙ list_any_at (is_link from to) xs place d (omega (arith, inside)) is)

    not_here : (b : Bool) → is_link from to x ≡ b → is_link from to x ≡ false
    not_here false this = this
    not_here true this = absurd (omega (arith, once, some, count_cons (is_link from to) x xs, ap {B = ℕ} (λ b. cond b 1 0) this))
