-- The reader of each sane grammar is exact for what the grammar spells.
use Rattle.std.proofs.Common.{◌≡◌, ◌++◌, ◌∷◌, [], ◌&&◌, ◌||◌, Bool, true, false, List, ap, refl, sym, ◌∙◌, subst, append-nil, inl, inr}
use Rattle.std.proofs.lemmas.Bool.{false_from_ne_true}
use Rattle.acl_grammar.specs.Grammar.{Grammar}
use Rattle.acl_grammar.specs.Grammar.Grammar.{token, after, empty, both, to, choice, list, many}
use Rattle.acl_grammar.specs.Reader.{Reading, Apart, Sample, Sane, begins, behind, read_list, nullable, first, goes_on, read, read_after, read_many, in_front}
use Rattle.acl_grammar.specs.Spelling.{spells, separated, repeated}
use Rattle.acl_grammar.proofs.Exact.{Exact, SomeSpelling, After, Both, To, exact_token, exact_after, exact_empty, exact_both, exact_to, exact_choice, exact_many, exact_same, repeated_starts}

or_left : (a b : Bool) → a ≡ true → (a || b) ≡ true
or_left true b h = refl
or_left false b h = cc

or_right : (a b : Bool) → b ≡ true → (a || b) ≡ true
or_right true b h = refl
or_right false b h = h

or_false : (a b : Bool) → (a || b) ≡ false → (a ≡ false) × (b ≡ false)
or_false true b h = cc
or_false false b h = (refl, h)

and_true : (a b : Bool) → a ≡ true → b ≡ true → (a && b) ≡ true
and_true true b g h = h
and_true false b g h = cc

and_false : (a b : Bool) → a ≡ true → (a && b) ≡ false → b ≡ false
and_false true b g h = h
and_false false b g h = cc

not_both : (b : Bool) → b ≡ false → b ≡ true → ⊥
not_both true g h = cc
not_both false g h = cc

-- what spells with no tokens is nullable
empty_separated : {T A : Type 0} (is : T → Bool) (P : List T → A → Type 0) (vs : List A) → separated is P [] vs → (v : A) × P [] v
empty_separated is P [] h = absurd h
empty_separated is P (v ∷ []) h = (v, h)
empty_separated is P (v ∷ w ∷ vs) ([], t, ws, eq, h, here, others) = cc
empty_separated is P (v ∷ w ∷ vs) (u ∷ us, t, ws, eq, h, here, others) = cc

is_empty_front : {T : Type 0} (us ws : List T) → [] ≡ us ++ ws → us ≡ []
is_empty_front [] ws e = refl
is_empty_front (u ∷ us) ws e = cc

is_empty_back : {T : Type 0} (us ws : List T) → [] ≡ us ++ ws → ws ≡ []
is_empty_back [] ws e = sym e
is_empty_back (u ∷ us) ws e = cc

pub empty_of : {T A : Type 0} (g : Grammar T A) (v : A) → spells g [] v → nullable g ≡ true
empty_of (token is value) v (t, h, eq, veq) = cc
empty_of (after is g) v (t, us, h, eq, spelled) = cc
empty_of (empty a) v h = refl
empty_of {T = T} (both {A = A} {B = B} g h) v (us, ws, eq, left, right) =
    let P : List T → Type 0 = λ zs. spells g zs v.0 in
    let Q : List T → Type 0 = λ zs. spells h zs v.1 in
    and_true (nullable g) (nullable h) (empty_of g v.0 (subst P (is_empty_front us ws eq) left))
    (empty_of h v.1 (subst Q (is_empty_back us ws eq) right))
empty_of (to f g) v (a, h, veq) = empty_of g a h
empty_of (choice g h) v (inl k) = or_left (nullable g) (nullable h) (empty_of g v k)
empty_of (choice g h) v (inr k) = or_right (nullable g) (nullable h) (empty_of h v k)
empty_of (list is g) vs h = let e = empty_separated is (spells g) vs h in empty_of g e.0 e.1
empty_of (many g) vs h = refl

pub full_of : {T A : Type 0} (g : Grammar T A) → nullable g ≡ false → (v : A) → spells g [] v → ⊥
full_of g full v h = not_both (nullable g) full (empty_of g v h)

-- the first token of a spelling is one of the first tokens
separated_starts : {T A : Type 0} (is f : T → Bool) (P : List T → A → Type 0)
    → ((v : A) → P [] v → ⊥) → ((t : T) (ts : List T) (v : A) → P (t ∷ ts) v → f t ≡ true)
    → (t : T) (ts : List T) (vs : List A) → separated is P (t ∷ ts) vs → f t ≡ true
separated_starts is f P full starts t ts [] h = absurd h
separated_starts is f P full starts t ts (v ∷ []) h = starts t ts v h
separated_starts is f P full starts t ts (v ∷ w ∷ vs) ([], x, ws, eq, h, here, others) = absurd (full v here)
separated_starts is f P full starts t ts (v ∷ w ∷ vs) (u ∷ us, x, ws, eq, h, here, others) =
    ap (begins f) eq ∙ starts u us v here

pub first_of : {T A : Type 0} (g : Grammar T A) → Sane g → (t : T) (ts : List T) (v : A) → spells g (t ∷ ts) v → first g t ≡ true
first_of (token is value) sane t ts v (u, h, eq, veq) = ap (begins is) eq ∙ h
first_of (after is g) sane t ts v (u, us, h, eq, spelled) = ap (begins is) eq ∙ h
first_of (empty a) sane t ts v h = cc
first_of {T = T} (both g h) (left, right, apart) t ts v ([], ws, eq, here, there) =
    let Q : List T → Type 0 = λ zs. spells h zs v.1 in
    or_right (first g t) (nullable g && first h t)
    (and_true (nullable g) (first h t) (empty_of g v.0 here) (first_of h right t ts v.1 (subst Q (sym eq) there)))
first_of (both g h) (left, right, apart) t ts v (u ∷ us, ws, eq, here, there) =
    or_left (first g t) (nullable g && first h t) (ap (begins (first g)) eq ∙ first_of g left u us v.0 here)
first_of (to f g) sane t ts v (a, h, veq) = first_of g sane t ts a h
first_of (choice g h) (left, right, apart, full) t ts v (inl k) = or_left (first g t) (first h t) (first_of g left t ts v k)
first_of (choice g h) (left, right, apart, full) t ts v (inr k) = or_right (first g t) (first h t) (first_of h right t ts v k)
first_of (list is g) (mark, sane, apart, full) t ts vs h =
    separated_starts is (first g) (spells g) (full_of g full) (first_of g sane) t ts vs h
first_of (many g) (sane, apart, full) t ts vs h = repeated_starts (spells g) (first g) (full_of g full) (first_of g sane) t ts vs h

pub sample_of : {T A : Type 0} (g : Grammar T A) → Sane g → SomeSpelling (spells g)
sample_of (token is value) (t, h) = (t ∷ [], value t, (t, h, refl, refl))
sample_of (after is g) ((t, h), sane) = let k = sample_of g sane in (t ∷ k.0, k.1, (t, k.0, h, refl, k.2))
sample_of (empty a) sane = ([], a, (refl, refl))
sample_of (both g h) (left, right, apart) =
    let k = sample_of g left in let l = sample_of h right in (k.0 ++ l.0, (k.1, l.1), (k.0, l.0, refl, k.2, l.2))
sample_of (to f g) sane = let k = sample_of g sane in (k.0, f k.1, (k.1, k.2, refl))
sample_of (choice g h) (left, right, apart, full) = let k = sample_of g left in (k.0, k.1, inl k.2)
sample_of (list is g) (mark, sane, apart, full) = let k = sample_of g sane in (k.0, k.1 ∷ [], k.2)
sample_of (many g) sane = ([], [], refl)

-- a separated list is an item, and any number of marks each before an item
spread : {T A : Type 0} (is : T → Bool) (P : List T → A → Type 0) (ts : List T) (v : A) (vs : List A) (us ws : List T)
    → ts ≡ us ++ ws → P us v → repeated (After is P) ws vs → separated is P ts (v ∷ vs)
spread {T = T} is P ts v [] us ws eq here none =
    let Q : List T → Type 0 = λ zs. P zs v in
    subst Q (sym (eq ∙ ap (λ zs. us ++ zs) none ∙ append-nil us)) here
spread is P ts v (w ∷ vs) us ws eq here (xs, ys, cut, (t, zs, h, led, there), others) = (
  us,
  t,
  zs ++ ys,
  eq ∙ ap (λ k. us ++ k) (cut ∙ ap (λ k. k ++ ys) led),
  h,
  here,
  spread is P (zs ++ ys) w vs zs ys refl there others,
)

gather : {T A : Type 0} (is : T → Bool) (P : List T → A → Type 0) (ts : List T) (v : A) (vs : List A)
    → separated is P ts (v ∷ vs) → (us : List T) × (ws : List T) × (ts ≡ us ++ ws) × P us v × repeated (After is P) ws vs
gather is P ts v [] h = (ts, [], sym (append-nil ts), h, refl)
gather is P ts v (w ∷ vs) (us, t, ws, eq, h, here, others) =
    let k = gather is P ws w vs others in
    (us, t ∷ ws, eq, here, (t ∷ k.0, k.1, ap (λ zs. t ∷ zs) k.2, (t, k.0, h, refl, k.3), k.4))

list_there : {T A : Type 0} (is : T → Bool) (P : List T → A → Type 0) (ts : List T) (vs : List A)
    → To in_front (Both P (repeated (After is P))) ts vs → separated is P ts vs
list_there is P ts vs (a, (us, ws, cut, here, others), eq) =
    subst (separated is P ts) (sym eq) (spread is P ts a.0 a.1 us ws cut here others)

list_back : {T A : Type 0} (is : T → Bool) (P : List T → A → Type 0) (ts : List T) (vs : List A)
    → separated is P ts vs → To in_front (Both P (repeated (After is P))) ts vs
list_back is P ts [] h = absurd h
list_back is P ts (v ∷ vs) h = ((v, vs), gather is P ts v vs h, refl)

after_full : {T A : Type 0} (is : T → Bool) (P : List T → A → Type 0) (v : A) → After is P [] v → ⊥
after_full is P v (t, us, h, eq, k) = cc

after_starts : {T A : Type 0} (is : T → Bool) (P : List T → A → Type 0) (t : T) (ts : List T) (v : A) → After is P (t ∷ ts) v → is t ≡ true
after_starts is P t ts v (u, us, h, eq, k) = ap (begins is) eq ∙ h

exact_list : {T A : Type 0} (is p : T → Bool) (P : List T → A → Type 0) (r : List T → Reading T A)
    → Sample is → SomeSpelling P → Exact P p r → Apart is p
    → Exact (separated is P) (λ t. is t || p t) (read_list is r)
exact_list {T = T} is p P r mark complete e apart =
    let goes : T → Bool = λ t. is t || p t in
    let left : (t : T) → goes t ≡ false → is t ≡ false = λ t h. (or_false (is t) (p t) h).0 in
    let right : (t : T) → goes t ≡ false → p t ≡ false = λ t h. (or_false (is t) (p t) h).1 in
    let more : Exact (repeated (After is P)) goes (read_many is (read_after is r)) =
    exact_many (After is P) p is goes (read_after is r) (exact_after is P p r mark complete e)
    (after_full is P) (after_starts is P) apart left right in
    exact_same (To in_front (Both P (repeated (After is P)))) (separated is P) goes (read_list is r) (list_there is P) (list_back is P)
    (exact_to in_front (Both P (repeated (After is P))) goes (λ ts. behind (r ts) (read_many is (read_after is r)))
    (exact_both P (repeated (After is P)) p goes goes r (read_many is (read_after is r)) e more ([], [], refl)
    (λ t ts w h. false_from_ne_true (p t) (apart t (repeated_starts (After is P) is (after_full is P) (after_starts is P) t ts w h)))
    (λ w t h clear. right t clear)
    (λ t h. h)))

pub exact : {T A : Type 0} (g : Grammar T A) → Sane g → Exact (spells g) (goes_on g) (read g)
exact (token is value) sane = exact_token is value sane
exact (after is g) (mark, sane) = exact_after is (spells g) (goes_on g) (read g) mark (sample_of g sane) (exact g sane)
exact (empty a) sane = exact_empty a
exact (both g h) (left, right, apart) =
    exact_both (spells g) (spells h) (goes_on g) (goes_on h) (goes_on (both g h)) (read g) (read h) (exact g left) (exact h right) (sample_of h right)
    (λ t ts w k. false_from_ne_true (goes_on g t) (λ k'. apart t k' (first_of h right t ts w k)))
    (λ w t k clear. and_false (nullable h) (goes_on g t) (empty_of h w k) (or_false (goes_on h t) (nullable h && goes_on g t) clear).1)
    (λ t clear. (or_false (goes_on h t) (nullable h && goes_on g t) clear).0)
exact (to f g) sane = exact_to f (spells g) (goes_on g) (read g) (exact g sane)
exact (choice g h) (left, right, apart, full) =
    exact_choice (spells g) (spells h) (goes_on g) (goes_on h) (goes_on (choice g h)) (first g) (read g) (read h) (exact g left) (exact h right)
    (full_of g full) (first_of g left)
    (λ t ts v k. false_from_ne_true (first g t) (λ k'. apart t k' (first_of h right t ts v k)))
    (λ v t k clear. and_false (nullable h) (first g t) (empty_of h v k) (or_false (goes_on g t || goes_on h t) (nullable h && first g t) clear).1)
    (λ t clear. (or_false (goes_on g t) (goes_on h t) (or_false (goes_on g t || goes_on h t) (nullable h && first g t) clear).0).0)
    (λ t clear. (or_false (goes_on g t) (goes_on h t) (or_false (goes_on g t || goes_on h t) (nullable h && first g t) clear).0).1)
exact (list is g) (mark, sane, apart, full) = exact_list is (goes_on g) (spells g) (read g) mark (sample_of g sane) (exact g sane) apart
exact (many g) (sane, apart, full) =
    exact_many (spells g) (goes_on g) (first g) (goes_on (many g)) (read g) (exact g sane) (full_of g full) (first_of g sane) apart
    (λ t clear. (or_false (first g t) (goes_on g t) clear).0)
    (λ t clear. (or_false (first g t) (goes_on g t) clear).1)
