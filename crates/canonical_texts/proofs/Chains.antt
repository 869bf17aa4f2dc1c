-- Tokens that stand apart, one behind another.
use Rattle.std.proofs.Common.{◌≡◌, ◌⊎◌, ℕ, Bool, true, false, ◌||◌, List, [], ◌∷◌, ◌++◌, refl, sym, subst, ap, ◌∙◌, inl, inr}
use Rattle.std.specs.List.{flat_map, AllByRecursion}
use Rattle.grant_lex.specs.Class.{class_of}
use Rattle.grant_lex.specs.Next.{BeginsWithout, IsOf}
use Rattle.grant_lex.specs.Printed.{ArePrinted, GoesOn, Printed, printed}
use Rattle.grant_lex.specs.Token.{IsOfSort}
use Rattle.grant_lex.specs.declared.sorts.Kind.{Kind}
use Rattle.grant_lex.specs.declared.sorts.Kind.TheVariants.{Word, Quoted, Backquoted, Mark}
use Rattle.canonical_texts.specs.Tokens.{list_tokens, mark}

abbrev pub is_mark : Kind → Bool
is_mark Word = false
is_mark Quoted = false
is_mark Backquoted = false
is_mark (Mark b) = true

abbrev pub has_blank : List ℕ → Bool
has_blank [] = false
has_blank (b ∷ bs) = true

-- a token with a blank before it, or a mark, which does not go on with what stands before it
abbrev pub is_apart : Printed → Bool
is_apart p = has_blank p.blanks || is_mark p.kind

-- a token by itself; 32 is a blank
pub record IsToken (p : Printed) : Type 0 where
  pub blanks : AllByRecursion (IsOf (class_of 32)) p.blanks
  pub sort : IsOfSort p.kind p.text []

abbrev pub Starts : List Printed → Type 0
Starts [] = Unit {0}
Starts (q ∷ qs) = is_apart q ≡ true

abbrev pub Follows : Printed → List Printed → Type 0
Follows p [] = Unit {0}
Follows p (q ∷ qs) = (is_mark p.kind || is_apart q) ≡ true

abbrev pub IsChain : List Printed → Type 0
IsChain [] = Unit {0}
IsChain (p ∷ ps) = IsToken p × Follows p ps × IsChain ps

pub record IsSegment (ps : List Printed) : Type 0 where
  pub chain : IsChain ps
  pub starts : Starts ps

or_last : (a b : Bool) → b ≡ true → (a || b) ≡ true
or_last true b e = refl
or_last false b e = e

pub follows_start : (p : Printed) (ps : List Printed) → Starts ps → Follows p ps
follows_start p [] starts = tt
follows_start p (q ∷ qs) starts = or_last (is_mark p.kind) (is_apart q) starts

chain_append : (xs ys : List Printed) → IsChain xs → IsChain ys → Starts ys → IsChain (xs ++ ys)
chain_append [] ys a b starts = b
chain_append (p ∷ []) ys a b starts = (a.0, follows_start p ys starts, b)
chain_append (p ∷ q ∷ xs) ys a b starts = (a.0, a.1, chain_append (q ∷ xs) ys a.2 b starts)

starts_append : (xs ys : List Printed) → Starts xs → Starts ys → Starts (xs ++ ys)
starts_append [] ys a b = b
starts_append (p ∷ xs) ys a b = a

pub segment_append : (xs ys : List Printed) → IsSegment xs → IsSegment ys → IsSegment (xs ++ ys)
segment_append xs ys a b = record { chain = chain_append xs ys a.chain b.chain b.starts; starts = starts_append xs ys a.starts b.starts }

pub no_tokens : IsSegment []
no_tokens = record { chain = tt; starts = tt }

pub segment_cons : (p : Printed) (ps : List Printed) → IsToken p → is_apart p ≡ true → IsSegment ps → IsSegment (p ∷ ps)
segment_cons p ps token apart rest = record { chain = (token, follows_start p ps rest.starts, rest.chain); starts = apart }

-- behind a mark anything may stand
pub segment_mark : (b : ℕ) (blanks : List ℕ) (ps : List Printed) → AllByRecursion (IsOf (class_of 32)) blanks → class_of b ≡ class_of 64 → IsChain ps → IsSegment (record { blanks = blanks; kind = Mark b; text = b ∷ [] } ∷ ps)
segment_mark b blanks ps each sort rest = record {
  chain = (record { blanks = each; sort = (sort, refl) }, mark_follows blanks ps, rest);
  starts = or_last (has_blank blanks) true refl;
}
  where
    mark_follows : (blanks : List ℕ) (ps : List Printed) → Follows (record { blanks = blanks; kind = Mark b; text = b ∷ [] }) ps
    mark_follows blanks [] = tt
    mark_follows blanks (q ∷ qs) = refl

pub segment_flat : {A : Type 0} (f : A → List Printed) → ((x : A) → IsSegment (f x)) → (xs : List A) → IsSegment (flat_map f xs)
segment_flat f each [] = no_tokens
segment_flat f each (x ∷ xs) = segment_append (f x) (flat_map f xs) (each x) (segment_flat f each xs)

pub segment_list : {A : Type 0} (f : A → List Printed) → ((x : A) → IsSegment (f x)) → (xs : List A) → IsSegment (list_tokens f xs)
segment_list f each [] = no_tokens
segment_list f each (x ∷ xs) =
    segment_append (f x) (flat_map (λ other. mark 44 ∷ f other) xs) (each x)
    (segment_flat (λ other. mark 44 ∷ f other) (λ other. segment_mark 44 [] (f other) tt refl (each other).chain) xs)

-- neither a blank nor a mark goes on with a token
goes_not : (kind : Kind) (text : List ℕ) (b : ℕ) → IsOfSort kind text [] → (class_of b ≡ class_of 32) ⊎ (class_of b ≡ class_of 64) → GoesOn kind text b → ⊥
goes_not Word text b sort (inl blank) goes = let clash : class_of 32 ≡ class_of 97 = sym blank ∙ goes in cc
goes_not Word text b sort (inr marked) goes = let clash : class_of 64 ≡ class_of 97 = sym marked ∙ goes in cc
goes_not Quoted text b sort (inl blank) goes =
    let same : b ≡ sort.quote = cc (goes.1, sort.opens.whole) in
    let clash : class_of 32 ≡ class_of 39 = sym blank ∙ ap class_of same ∙ sort.sort in cc
goes_not Quoted text b sort (inr marked) goes =
    let same : b ≡ sort.quote = cc (goes.1, sort.opens.whole) in
    let clash : class_of 64 ≡ class_of 39 = sym marked ∙ ap class_of same ∙ sort.sort in cc
goes_not Backquoted text b sort (inl blank) goes =
    let same : b ≡ sort.quote = cc (goes.1, sort.opens.whole) in
    let clash : class_of 32 ≡ class_of 96 = sym blank ∙ ap class_of same ∙ sort.sort in cc
goes_not Backquoted text b sort (inr marked) goes =
    let same : b ≡ sort.quote = cc (goes.1, sort.opens.whole) in
    let clash : class_of 64 ≡ class_of 96 = sym marked ∙ ap class_of same ∙ sort.sort in cc
goes_not (Mark m) text b sort class goes = goes

-- behind a mark nothing goes on with it
mark_ends : (m : ℕ) (text rest : List ℕ) → BeginsWithout (GoesOn (Mark m) text) rest
mark_ends m text [] = tt
mark_ends m text (b ∷ rest) = λ goes. goes

marked_first : (kind : Kind) (text : List ℕ) (k : Kind) (inner rest : List ℕ) → IsOfSort kind text [] → is_mark k ≡ true → IsOfSort k inner [] → BeginsWithout (GoesOn kind text) (inner ++ rest)
marked_first kind text Word inner rest sort marked other = cc
marked_first kind text Quoted inner rest sort marked other = cc
marked_first kind text Backquoted inner rest sort marked other = cc
marked_first kind text (Mark m) inner rest sort marked other =
    subst (λ l. BeginsWithout (GoesOn kind text) (l ++ rest)) (sym other.1) (goes_not kind text m sort (inr other.0))

apart_first : (kind : Kind) (text : List ℕ) (blanks : List ℕ) (k : Kind) (inner rest : List ℕ) → IsOfSort kind text [] → (has_blank blanks || is_mark k) ≡ true → AllByRecursion (IsOf (class_of 32)) blanks → IsOfSort k inner [] → BeginsWithout (GoesOn kind text) (blanks ++ (inner ++ rest))
apart_first kind text [] k inner rest sort apart each other = marked_first kind text k inner rest sort apart other
apart_first kind text (b ∷ bs) k inner rest sort apart each other = goes_not kind text b sort (inl each.0)

follows_first : (p q : Printed) (qs : List Printed) (m : Bool) → is_mark p.kind ≡ m → IsOfSort p.kind p.text [] → (m || is_apart q) ≡ true → IsToken q → BeginsWithout (GoesOn p.kind p.text) (printed (q ∷ qs))
follows_first p q qs false e sort apart token = apart_first p.kind p.text q.blanks q.kind q.text (printed qs) sort apart token.blanks token.sort
follows_first p q qs true e sort apart token = any_mark p.kind p.text (printed (q ∷ qs)) e
  where
    any_mark : (kind : Kind) (text rest : List ℕ) → is_mark kind ≡ true → BeginsWithout (GoesOn kind text) rest
    any_mark Word text rest e = cc
    any_mark Quoted text rest e = cc
    any_mark Backquoted text rest e = cc
    any_mark (Mark m) text rest e = mark_ends m text rest

pub chain_printed : (ps : List Printed) → IsChain ps → ArePrinted ps
chain_printed [] chain = tt
chain_printed (p ∷ []) chain = (chain.0.blanks, chain.0.sort, tt, tt)
chain_printed (p ∷ q ∷ qs) chain =
    (chain.0.blanks, chain.0.sort, follows_first p q qs (is_mark p.kind) refl chain.0.sort chain.1 chain.2.0, chain_printed (q ∷ qs) chain.2)
