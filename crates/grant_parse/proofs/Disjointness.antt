-- Rules that no list of tokens is spelled by both of.
use Rattle.std.proofs.Common.{◌&&◌, ◌||◌, ◌++◌, ◌⊎◌, not, Bool, IsTrue, true, false, List, [], ◌∷◌, inl, inr, refl, ◌∙◌, ap}
use Rattle.std.proofs.lemmas.Bool.{or_cases}
use Rattle.std.proofs.lemmas.List.Folds.{list_all-append, list_any-append}
use Rattle.std.specs.List.{list_all, list_any}
use Rattle.std.specs.Str.{str_to_ascii_lowercase}
use Rattle.acl_grammar.specs.Spelling.{repeated, separated, spells}
use Rattle.grant_words.proofs.Apart.{apart_classes, are_apart, both_left, both_right, found_in, is_listed, never, or_first, or_second}
use Rattle.grant_words.specs.Classes.{Class, is, is_one_of, is_word}
use Rattle.grant_words.specs.Classes.Class.{keyword, mark, identifier, longer, valued}
use Rattle.grant_words.proofs.Sanity.{all_apart, is_of_one, lists_apart}
use Rattle.grant_words.specs.Syntax.{Syntax, grammar_of}
use Rattle.grant_words.specs.Syntax.Syntax.{token, after, empty, both, to, choice, list, many}
use Rattle.grant_words.specs.declared.lexeme.Lexeme.{Lexeme}

-- no spelling has a token of the class
abbrev pub is_free_of : {A : Type 0} → Class → Syntax A → Bool
is_free_of class (token other _) = are_apart class other
is_free_of class (after other s) = are_apart class other && is_free_of class s
is_free_of class (empty _) = true
is_free_of class (both s r) = is_free_of class s && is_free_of class r
is_free_of class (to _ s) = is_free_of class s
is_free_of class (choice s r) = is_free_of class s && is_free_of class r
is_free_of class (list other s) = are_apart class other && is_free_of class s
is_free_of class (many s) = is_free_of class s

-- each token of the other class is of the class; where this is false, some may be none
abbrev pub is_within : Class → Class → Bool
is_within (keyword words) (keyword others) = list_all (is_one_of words) others
is_within _ _ = false

-- each spelling has a token of the class
abbrev pub always_has : {A : Type 0} → Class → Syntax A → Bool
always_has class (token _ _) = false
always_has class (after other s) = is_within class other || always_has class s
always_has class (empty _) = false
always_has class (both s r) = always_has class s || always_has class r
always_has class (to _ s) = always_has class s
always_has class (choice s r) = always_has class s && always_has class r
always_has class (list _ s) = always_has class s
always_has class (many _) = false

not_true : (b : Bool) → (IsTrue b → ⊥) → IsTrue (not b)
not_true true h = absurd (h refl)
not_true false h = refl

both_true : (a b : Bool) → IsTrue a → IsTrue b → IsTrue (a && b)
both_true true b h k = k
both_true false b h k = absurd (cc)

-- no token is of the class
abbrev pub lacks : Class → List Lexeme → Bool
lacks class ts = list_all (λ t. not (is class t)) ts

-- some token is of the class
abbrev pub has : Class → List Lexeme → Bool
has class ts = list_any (is class) ts

lacks_both : (class : Class) (us ws : List Lexeme) → IsTrue (lacks class us) → IsTrue (lacks class ws) → IsTrue (lacks class (us ++ ws))
lacks_both class us ws h k = list_all-append (λ t. not (is class t)) us ws ∙ both_true (lacks class us) (lacks class ws) h k

lacks_one : (class other : Class) (t : Lexeme) (ts : List Lexeme) → IsTrue (are_apart class other) → IsTrue (is other t) → IsTrue (lacks class ts)
    → IsTrue (lacks class (t ∷ ts))
lacks_one class other t ts a h k =
    both_true (not (is class t)) (lacks class ts) (not_true (is class t) (λ here. apart_classes class other a t here h)) k

separated_lacks : {A : Type 0} (class other : Class) (P : List Lexeme → A → Type 0)
    → ((ts : List Lexeme) (v : A) → P ts v → IsTrue (lacks class ts)) → IsTrue (are_apart class other)
    → (vs : List A) (ts : List Lexeme) → separated (is other) P ts vs → IsTrue (lacks class ts)
separated_lacks class other P f a [] ts k = absurd k
separated_lacks class other P f a (v ∷ []) ts k = f ts v k
separated_lacks class other P f a (v ∷ w ∷ vs) ts (us, t, ws, eq, h, k, more) =
    ap (lacks class) eq
    ∙ lacks_both class us (t ∷ ws) (f us v k) (lacks_one class other t ws a h (separated_lacks class other P f a (w ∷ vs) ws more))

repeated_lacks : {A : Type 0} (class : Class) (P : List Lexeme → A → Type 0) → ((ts : List Lexeme) (v : A) → P ts v → IsTrue (lacks class ts))
    → (vs : List A) (ts : List Lexeme) → repeated P ts vs → IsTrue (lacks class ts)
repeated_lacks class P f [] ts k = ap (lacks class) k
repeated_lacks class P f (v ∷ vs) ts (us, ws, eq, k, more) =
    ap (lacks class) eq ∙ lacks_both class us ws (f us v k) (repeated_lacks class P f vs ws more)

pub free_lacks : {A : Type 0} (class : Class) (s : Syntax A) → IsTrue (is_free_of class s) → (ts : List Lexeme) (v : A) → spells (grammar_of s) ts v
    → IsTrue (lacks class ts)
free_lacks class (token other value) a ts v (t, h, eq, k) = ap (lacks class) eq ∙ lacks_one class other t [] a h refl
free_lacks class (after other s) a ts v (t, us, h, eq, k) =
    ap (lacks class) eq
    ∙ lacks_one class other t us (both_left (are_apart class other) (is_free_of class s) a) h
    (free_lacks class s (both_right (are_apart class other) (is_free_of class s) a) us v k)
free_lacks class (empty x) a ts v (eq, k) = ap (lacks class) eq
free_lacks class (both s r) a ts v (us, ws, eq, k, l) =
    ap (lacks class) eq
    ∙ lacks_both class us ws (free_lacks class s (both_left (is_free_of class s) (is_free_of class r) a) us v.0 k)
    (free_lacks class r (both_right (is_free_of class s) (is_free_of class r) a) ws v.1 l)
free_lacks class (to f s) a ts v (x, k, eq) = free_lacks class s a ts x k
free_lacks class (choice s r) a ts v (inl k) = free_lacks class s (both_left (is_free_of class s) (is_free_of class r) a) ts v k
free_lacks class (choice s r) a ts v (inr k) = free_lacks class r (both_right (is_free_of class s) (is_free_of class r) a) ts v k
free_lacks class (list other s) a ts v k =
    separated_lacks class other (spells (grammar_of s)) (free_lacks class s (both_right (are_apart class other) (is_free_of class s) a))
    (both_left (are_apart class other) (is_free_of class s) a) v ts k
free_lacks class (many s) a ts v k = repeated_lacks class (spells (grammar_of s)) (free_lacks class s a) v ts k

has_front : (class : Class) (us ws : List Lexeme) → IsTrue (has class us) → IsTrue (has class (us ++ ws))
has_front class us ws h = list_any-append (is class) us ws ∙ or_first (has class us) (has class ws) h

has_back : (class : Class) (us ws : List Lexeme) → IsTrue (has class ws) → IsTrue (has class (us ++ ws))
has_back class us ws h = list_any-append (is class) us ws ∙ or_second (has class us) (has class ws) h

separated_has : {A : Type 0} (class other : Class) (P : List Lexeme → A → Type 0) → ((ts : List Lexeme) (v : A) → P ts v → IsTrue (has class ts))
    → (vs : List A) (ts : List Lexeme) → separated (is other) P ts vs → IsTrue (has class ts)
separated_has class other P f [] ts k = absurd k
separated_has class other P f (v ∷ []) ts k = f ts v k
separated_has class other P f (v ∷ w ∷ vs) ts (us, t, ws, eq, h, k, more) = ap (has class) eq ∙ has_front class us (t ∷ ws) (f us v k)

-- a token of a keyword's words is one of a keyword with these words and more
pub within_is : (class other : Class) (t : Lexeme) → IsTrue (is_within class other) → IsTrue (is other t) → IsTrue (is class t)
unfolding is
within_is (keyword words) (keyword others) t a h =
    both_true (is_word t.kind) (is_one_of words t.value) (both_left (is_word t.kind) (is_one_of others t.value) h)
    (found_in (λ low. is_listed low words) (str_to_ascii_lowercase t.value) others (both_right (is_word t.kind) (is_one_of others t.value) h) a)
within_is (keyword words) (mark _) t a h = absurd (cc)
within_is (keyword words) identifier t a h = absurd (cc)
within_is (keyword words) (longer _ _) t a h = absurd (cc)
within_is (keyword words) (valued _ _ _) t a h = absurd (cc)
within_is (mark _) other t a h = absurd (cc)
within_is identifier other t a h = absurd (cc)
within_is (longer _ _) other t a h = absurd (cc)
within_is (valued _ _ _) other t a h = absurd (cc)

after_has : {A : Type 0} (class other : Class) (s : Syntax A) (t : Lexeme) (us : List Lexeme)
    → (IsTrue (is_within class other) ⊎ IsTrue (always_has class s)) → IsTrue (is other t) → (IsTrue (always_has class s) → IsTrue (has class us))
    → IsTrue (has class (t ∷ us))
after_has class other s t us (inl here) h f = or_first (is class t) (has class us) (within_is class other t here h)
after_has class other s t us (inr more) h f = or_second (is class t) (has class us) (f more)

both_has : {A B : Type 0} (class : Class) (s : Syntax A) (r : Syntax B) (us ws : List Lexeme)
    → (IsTrue (always_has class s) ⊎ IsTrue (always_has class r)) → (IsTrue (always_has class s) → IsTrue (has class us))
    → (IsTrue (always_has class r) → IsTrue (has class ws)) → IsTrue (has class (us ++ ws))
both_has class s r us ws (inl h) f g = has_front class us ws (f h)
both_has class s r us ws (inr h) f g = has_back class us ws (g h)

pub always_there : {A : Type 0} (class : Class) (s : Syntax A) → IsTrue (always_has class s) → (ts : List Lexeme) (v : A) → spells (grammar_of s) ts v
    → IsTrue (has class ts)
always_there class (token _ _) a ts v k = absurd (cc)
always_there class (after other s) a ts v (t, us, h, eq, k) =
    ap (has class) eq
    ∙ after_has class other s t us (or_cases (is_within class other) (always_has class s) a) h (λ b. always_there class s b us v k)
always_there class (empty _) a ts v k = absurd (cc)
always_there class (both s r) a ts v (us, ws, eq, k, l) =
    ap (has class) eq
    ∙ both_has class s r us ws (or_cases (always_has class s) (always_has class r) a) (λ b. always_there class s b us v.0 k)
    (λ b. always_there class r b ws v.1 l)
always_there class (to f s) a ts v (x, k, eq) = always_there class s a ts x k
always_there class (choice s r) a ts v (inl k) = always_there class s (both_left (always_has class s) (always_has class r) a) ts v k
always_there class (choice s r) a ts v (inr k) = always_there class r (both_right (always_has class s) (always_has class r) a) ts v k
always_there class (list other s) a ts v k = separated_has class other (spells (grammar_of s)) (always_there class s a) v ts k
always_there class (many _) a ts v k = absurd (cc)

pub lacks_or_has : (class : Class) (ts : List Lexeme) → IsTrue (lacks class ts) → IsTrue (has class ts) → ⊥
lacks_or_has class [] h k = cc
lacks_or_has class (t ∷ ts) h k =
    step (or_cases (is class t) (has class ts) k) (λ more. lacks_or_has class ts (both_right (not (is class t)) (lacks class ts) h) more)
  where
    step : (IsTrue (is class t) ⊎ IsTrue (has class ts)) → (IsTrue (has class ts) → ⊥) → ⊥
    step (inl here) further = never (is class t) (both_left (not (is class t)) (lacks class ts) h) here
    step (inr more) further = further more

-- the first token is of one of the classes
abbrev pub starts : List Class → List Lexeme → Bool
starts classes [] = false
starts classes (t ∷ _) = is_of_one classes t

pub starts_apart : (classes others : List Class) (ts : List Lexeme) → IsTrue (all_apart classes others) → IsTrue (starts classes ts) → IsTrue (starts others ts)
    → ⊥
starts_apart classes others [] a h k = cc
starts_apart classes others (t ∷ _) a h k = lists_apart classes others t a h k

-- a spelling begins with one of the classes
starts_front : (classes : List Class) (us ws : List Lexeme) → IsTrue (starts classes us) → IsTrue (starts classes (us ++ ws))
starts_front classes [] ws h = absurd (cc)
starts_front classes (t ∷ us) ws h = h

pub starts_both : {A B : Type 0} (s : Syntax A) (r : Syntax B) (classes : List Class)
    → ((us : List Lexeme) (v : A) → spells (grammar_of s) us v → IsTrue (starts classes us))
    → (ts : List Lexeme) (v : A × B) → spells (grammar_of (both s r)) ts v → IsTrue (starts classes ts)
starts_both s r classes f ts v (us, ws, eq, k, l) = ap (starts classes) eq ∙ starts_front classes us ws (f us v.0 k)

pub starts_after : {A : Type 0} (class : Class) (s : Syntax A) (classes : List Class) → ((t : Lexeme) → IsTrue (is class t) → IsTrue (is_of_one classes t))
    → (ts : List Lexeme) (v : A) → spells (grammar_of (after class s)) ts v → IsTrue (starts classes ts)
starts_after class s classes f ts v (t, us, h, eq, k) = ap (starts classes) eq ∙ f t h
