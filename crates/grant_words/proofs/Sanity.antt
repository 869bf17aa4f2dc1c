-- A rule that the computed test calls sane is a sane grammar.
use Rattle.std.proofs.Common.{◌≡◌, ◌&&◌, ◌||◌, ◌++◌, ◌⊎◌, not, if◌then◌else◌, Bool, IsTrue, true, false, List, [], ◌∷◌, inl, inr, refl, sym, ◌∙◌}
use Rattle.std.proofs.lemmas.Bool.{or_cases}
use Rattle.std.proofs.lemmas.List.Folds.{list_any-append}
use Rattle.std.specs.List.{list_all, list_any}
use Rattle.acl_grammar.specs.Reader.{Sane, first, goes_on, nullable}
use Rattle.grant_lex.specs.declared.sorts.Kind.TheVariants as kinds
use Rattle.grant_words.specs.Classes.{Class, is}
use Rattle.grant_words.specs.Classes.Class.{keyword, mark, identifier, longer, valued}
use Rattle.grant_words.specs.Classes.Sort.{name, any_name, string, plain_word}
use Rattle.grant_words.specs.Syntax.{Syntax, grammar_of}
use Rattle.grant_words.specs.Syntax.Syntax.{token, after, empty, both, to, choice, list, many}
use Rattle.grant_words.specs.declared.lexeme.Lexeme.{Lexeme}
use Rattle.grant_words.proofs.Apart.{apart_classes, are_apart, both_left, both_right, or_first, or_second}

-- a token of the class
abbrev pub sample : Class → Lexeme
sample (keyword []) = record { kind = kinds.Word; value = [] }
sample (keyword (text ∷ _)) = record { kind = kinds.Word; value = text }
sample (mark byte) = record { kind = kinds.Mark byte; value = byte ∷ [] }
sample identifier = record { kind = kinds.Backquoted; value = 97 ∷ [] }
sample (longer _ text) = record { kind = kinds.Backquoted; value = text }
sample (valued name _ text) = record { kind = kinds.Backquoted; value = text }
sample (valued any_name _ text) = record { kind = kinds.Backquoted; value = text }
sample (valued string _ text) = record { kind = kinds.Quoted; value = text }
sample (valued plain_word _ text) = record { kind = kinds.Word; value = text }

abbrev pub has_sample : Class → Bool
has_sample class = is class (sample class)

-- each class is apart from each other one
abbrev pub all_apart : List Class → List Class → Bool
all_apart classes others = list_all (λ class. list_all (are_apart class) others) classes

-- whether the empty list may spell something
abbrev pub may_be_empty : {A : Type 0} → Syntax A → Bool
may_be_empty (token _ _) = false
may_be_empty (after _ _) = false
may_be_empty (empty _) = true
may_be_empty (both s r) = may_be_empty s && may_be_empty r
may_be_empty (to _ s) = may_be_empty s
may_be_empty (choice s r) = may_be_empty s || may_be_empty r
may_be_empty (list _ s) = may_be_empty s
may_be_empty (many _) = true

-- the classes with which a spelling may begin
abbrev pub firsts : {A : Type 0} → Syntax A → List Class
firsts (token class _) = class ∷ []
firsts (after class _) = class ∷ []
firsts (empty _) = []
firsts (both s r) = firsts s ++ (if may_be_empty s then firsts r else [])
firsts (to _ s) = firsts s
firsts (choice s r) = firsts s ++ firsts r
firsts (list _ s) = firsts s
firsts (many s) = firsts s

-- the classes with which a spelling may go on behind a spelling
abbrev pub follows : {A : Type 0} → Syntax A → List Class
follows (token _ _) = []
follows (after _ s) = follows s
follows (empty _) = []
follows (both s r) = follows r ++ (if may_be_empty r then follows s else [])
follows (to _ s) = follows s
follows (choice s r) = follows s ++ (follows r ++ (if may_be_empty r then firsts s else []))
follows (list class s) = class ∷ follows s
follows (many s) = firsts s ++ follows s

-- one token ahead decides how to go on, and each class has a token
abbrev pub is_sane : {A : Type 0} → Syntax A → Bool
is_sane (token class _) = has_sample class
is_sane (after class s) = has_sample class && is_sane s
is_sane (empty _) = true
is_sane (both s r) = is_sane s && is_sane r && all_apart (follows s) (firsts r)
is_sane (to _ s) = is_sane s
is_sane (choice s r) = is_sane s && is_sane r && all_apart (firsts s) (firsts r) && not (may_be_empty s)
is_sane (list class s) = has_sample class && is_sane s && list_all (are_apart class) (follows s) && not (may_be_empty s)
is_sane (many s) = is_sane s && all_apart (firsts s) (follows s) && not (may_be_empty s)

-- the token is of one of the classes
abbrev pub is_of_one : List Class → Lexeme → Bool
is_of_one classes t = list_any (λ class. is class t) classes

pub same_emptiness : {A : Type 0} (s : Syntax A) → nullable (grammar_of s) ≡ may_be_empty s
same_emptiness (token _ _) = refl
same_emptiness (after _ _) = refl
same_emptiness (empty _) = refl
same_emptiness (both s r) = rw (same_emptiness s, same_emptiness r) refl
same_emptiness (to _ s) = same_emptiness s
same_emptiness (choice s r) = rw (same_emptiness s, same_emptiness r) refl
same_emptiness (list _ s) = same_emptiness s
same_emptiness (many _) = refl

in_front : (cs ds : List Class) (t : Lexeme) → IsTrue (is_of_one cs t) → IsTrue (is_of_one (cs ++ ds) t)
in_front cs ds t h = list_any-append (λ class. is class t) cs ds ∙ or_first (is_of_one cs t) (is_of_one ds t) h

in_back : (cs ds : List Class) (t : Lexeme) → IsTrue (is_of_one ds t) → IsTrue (is_of_one (cs ++ ds) t)
in_back cs ds t h = list_any-append (λ class. is class t) cs ds ∙ or_second (is_of_one cs t) (is_of_one ds t) h

-- of two lists, the second one only under a condition
under : (b : Bool) (cs ds : List Class) (t : Lexeme) → IsTrue b → IsTrue (is_of_one ds t) → IsTrue (is_of_one (cs ++ (if b then ds else [])) t)
under true cs ds t h k = in_back cs ds t k
under false cs ds t h k = absurd (cc)

first_both : {A B : Type 0} (s : Syntax A) (r : Syntax B) (t : Lexeme)
    → (IsTrue (first (grammar_of s) t) ⊎ IsTrue (nullable (grammar_of s) && first (grammar_of r) t))
    → (IsTrue (first (grammar_of s) t) → IsTrue (is_of_one (firsts s) t)) → (IsTrue (first (grammar_of r) t) → IsTrue (is_of_one (firsts r) t))
    → IsTrue (is_of_one (firsts (both s r)) t)
first_both s r t (inl h) f g = in_front (firsts s) (if may_be_empty s then firsts r else []) t (f h)
first_both s r t (inr h) f g =
    under (may_be_empty s) (firsts s) (firsts r) t
    (sym (same_emptiness s) ∙ both_left (nullable (grammar_of s)) (first (grammar_of r) t) h)
    (g (both_right (nullable (grammar_of s)) (first (grammar_of r) t) h))

first_choice : {A : Type 0} (s r : Syntax A) (t : Lexeme) → (IsTrue (first (grammar_of s) t) ⊎ IsTrue (first (grammar_of r) t))
    → (IsTrue (first (grammar_of s) t) → IsTrue (is_of_one (firsts s) t)) → (IsTrue (first (grammar_of r) t) → IsTrue (is_of_one (firsts r) t))
    → IsTrue (is_of_one (firsts s ++ firsts r) t)
first_choice s r t (inl h) f g = in_front (firsts s) (firsts r) t (f h)
first_choice s r t (inr h) f g = in_back (firsts s) (firsts r) t (g h)

-- what a spelling begins with is of one of the classes
pub first_within : {A : Type 0} (s : Syntax A) (t : Lexeme) → IsTrue (first (grammar_of s) t) → IsTrue (is_of_one (firsts s) t)
first_within (token class _) t h = or_first (is class t) false h
first_within (after class _) t h = or_first (is class t) false h
first_within (empty _) t h = h
first_within (both s r) t h =
    first_both s r t (or_cases (first (grammar_of s) t) (nullable (grammar_of s) && first (grammar_of r) t) h) (first_within s t) (first_within r t)
first_within (to _ s) t h = first_within s t h
first_within (choice s r) t h =
    first_choice s r t (or_cases (first (grammar_of s) t) (first (grammar_of r) t) h) (first_within s t) (first_within r t)
first_within (list _ s) t h = first_within s t h
first_within (many s) t h = first_within s t h

follow_both : {A B : Type 0} (s : Syntax A) (r : Syntax B) (t : Lexeme)
    → (IsTrue (goes_on (grammar_of r) t) ⊎ IsTrue (nullable (grammar_of r) && goes_on (grammar_of s) t))
    → (IsTrue (goes_on (grammar_of s) t) → IsTrue (is_of_one (follows s) t)) → (IsTrue (goes_on (grammar_of r) t) → IsTrue (is_of_one (follows r) t))
    → IsTrue (is_of_one (follows (both s r)) t)
follow_both s r t (inl h) f g = in_front (follows r) (if may_be_empty r then follows s else []) t (g h)
follow_both s r t (inr h) f g =
    under (may_be_empty r) (follows r) (follows s) t
    (sym (same_emptiness r) ∙ both_left (nullable (grammar_of r)) (goes_on (grammar_of s) t) h)
    (f (both_right (nullable (grammar_of r)) (goes_on (grammar_of s) t) h))

follow_choice : {A : Type 0} (s r : Syntax A) (t : Lexeme)
    → (IsTrue (goes_on (grammar_of s) t || goes_on (grammar_of r) t) ⊎ IsTrue (nullable (grammar_of r) && first (grammar_of s) t))
    → (IsTrue (goes_on (grammar_of s) t) → IsTrue (is_of_one (follows s) t)) → (IsTrue (goes_on (grammar_of r) t) → IsTrue (is_of_one (follows r) t))
    → IsTrue (is_of_one (follows (choice s r)) t)
follow_choice s r t (inl h) f g = either (or_cases (goes_on (grammar_of s) t) (goes_on (grammar_of r) t) h)
  where
    either : (IsTrue (goes_on (grammar_of s) t) ⊎ IsTrue (goes_on (grammar_of r) t)) → IsTrue (is_of_one (follows (choice s r)) t)
    either (inl k) = in_front (follows s) (follows r ++ (if may_be_empty r then firsts s else [])) t (f k)
    either (inr k) =
        in_back (follows s) (follows r ++ (if may_be_empty r then firsts s else [])) t
        (in_front (follows r) (if may_be_empty r then firsts s else []) t (g k))
follow_choice s r t (inr h) f g =
    in_back (follows s) (follows r ++ (if may_be_empty r then firsts s else [])) t
    (under (may_be_empty r) (follows r) (firsts s) t
    (sym (same_emptiness r) ∙ both_left (nullable (grammar_of r)) (first (grammar_of s) t) h)
    (first_within s t (both_right (nullable (grammar_of r)) (first (grammar_of s) t) h)))

follow_list : {A : Type 0} (class : Class) (s : Syntax A) (t : Lexeme) → (IsTrue (is class t) ⊎ IsTrue (goes_on (grammar_of s) t))
    → (IsTrue (goes_on (grammar_of s) t) → IsTrue (is_of_one (follows s) t)) → IsTrue (is_of_one (class ∷ follows s) t)
follow_list class s t (inl h) f = or_first (is class t) (is_of_one (follows s) t) h
follow_list class s t (inr h) f = or_second (is class t) (is_of_one (follows s) t) (f h)

follow_many : {A : Type 0} (s : Syntax A) (t : Lexeme) → (IsTrue (first (grammar_of s) t) ⊎ IsTrue (goes_on (grammar_of s) t))
    → (IsTrue (goes_on (grammar_of s) t) → IsTrue (is_of_one (follows s) t)) → IsTrue (is_of_one (firsts s ++ follows s) t)
follow_many s t (inl h) f = in_front (firsts s) (follows s) t (first_within s t h)
follow_many s t (inr h) f = in_back (firsts s) (follows s) t (f h)

-- what goes on with a spelling is of one of the classes
pub follow_within : {A : Type 0} (s : Syntax A) (t : Lexeme) → IsTrue (goes_on (grammar_of s) t) → IsTrue (is_of_one (follows s) t)
follow_within (token _ _) t h = h
follow_within (after _ s) t h = follow_within s t h
follow_within (empty _) t h = h
follow_within (both s r) t h =
    follow_both s r t (or_cases (goes_on (grammar_of r) t) (nullable (grammar_of r) && goes_on (grammar_of s) t) h)
    (follow_within s t) (follow_within r t)
follow_within (to _ s) t h = follow_within s t h
follow_within (choice s r) t h =
    follow_choice s r t
    (or_cases (goes_on (grammar_of s) t || goes_on (grammar_of r) t) (nullable (grammar_of r) && first (grammar_of s) t) h)
    (follow_within s t) (follow_within r t)
follow_within (list class s) t h = follow_list class s t (or_cases (is class t) (goes_on (grammar_of s) t) h) (follow_within s t)
follow_within (many s) t h = follow_many s t (or_cases (first (grammar_of s) t) (goes_on (grammar_of s) t) h) (follow_within s t)

-- a token is not of a class and of one that is apart from it
pub one_apart : (class : Class) (ds : List Class) (t : Lexeme) → IsTrue (list_all (are_apart class) ds) → IsTrue (is class t) → IsTrue (is_of_one ds t) → ⊥
one_apart class [] t a h k = cc
one_apart class (d ∷ ds) t a h k =
    step (or_cases (is d t) (is_of_one ds t) k) (one_apart class ds t (both_right (are_apart class d) (list_all (are_apart class) ds) a) h)
  where
    step : (IsTrue (is d t) ⊎ IsTrue (is_of_one ds t)) → (IsTrue (is_of_one ds t) → ⊥) → ⊥
    step (inl here) further = apart_classes class d (both_left (are_apart class d) (list_all (are_apart class) ds) a) t h here
    step (inr more) further = further more

pub lists_apart : (cs ds : List Class) (t : Lexeme) → IsTrue (all_apart cs ds) → IsTrue (is_of_one cs t) → IsTrue (is_of_one ds t) → ⊥
lists_apart [] ds t a h k = cc
lists_apart (c ∷ cs) ds t a h k =
    step (or_cases (is c t) (is_of_one cs t) h)
    (λ more. lists_apart cs ds t (both_right (list_all (are_apart c) ds) (all_apart cs ds) a) more k)
  where
    step : (IsTrue (is c t) ⊎ IsTrue (is_of_one cs t)) → (IsTrue (is_of_one cs t) → ⊥) → ⊥
    step (inl here) further = one_apart c ds t (both_left (list_all (are_apart c) ds) (all_apart cs ds) a) here k
    step (inr more) further = further more

pub full : {A : Type 0} (s : Syntax A) → IsTrue (not (may_be_empty s)) → nullable (grammar_of s) ≡ false
full s h = same_emptiness s ∙ is_false (may_be_empty s) h
  where
    is_false : (b : Bool) → IsTrue (not b) → b ≡ false
    is_false true k = absurd (cc)
    is_false false k = refl

pub sane : {A : Type 0} (s : Syntax A) → IsTrue (is_sane s) → Sane (grammar_of s)
sane (token class _) h = (sample class, h)
sane (after class s) h =
    ((sample class, both_left (has_sample class) (is_sane s) h), sane s (both_right (has_sample class) (is_sane s) h))
sane (empty _) h = tt
sane (both s r) h =
    let here : IsTrue (is_sane s && is_sane r) = both_left (is_sane s && is_sane r) (all_apart (follows s) (firsts r)) h in
    let apart : IsTrue (all_apart (follows s) (firsts r)) = both_right (is_sane s && is_sane r) (all_apart (follows s) (firsts r)) h in (
      sane s (both_left (is_sane s) (is_sane r) here),
      sane r (both_right (is_sane s) (is_sane r) here),
      λ t j k. lists_apart (follows s) (firsts r) t apart (follow_within s t j) (first_within r t k),
    )
sane (to _ s) h = sane s h
sane (choice s r) h =
    let rest : IsTrue (is_sane s && is_sane r && all_apart (firsts s) (firsts r)) =
    both_left (is_sane s && is_sane r && all_apart (firsts s) (firsts r)) (not (may_be_empty s)) h in
    let here : IsTrue (is_sane s && is_sane r) = both_left (is_sane s && is_sane r) (all_apart (firsts s) (firsts r)) rest in
    let apart : IsTrue (all_apart (firsts s) (firsts r)) = both_right (is_sane s && is_sane r) (all_apart (firsts s) (firsts r)) rest in (
      sane s (both_left (is_sane s) (is_sane r) here),
      sane r (both_right (is_sane s) (is_sane r) here),
      λ t j k. lists_apart (firsts s) (firsts r) t apart (first_within s t j) (first_within r t k),
      full s (both_right (is_sane s && is_sane r && all_apart (firsts s) (firsts r)) (not (may_be_empty s)) h),
    )
sane (list class s) h =
    let rest : IsTrue (has_sample class && is_sane s && list_all (are_apart class) (follows s)) =
    both_left (has_sample class && is_sane s && list_all (are_apart class) (follows s)) (not (may_be_empty s)) h in
    let here : IsTrue (has_sample class && is_sane s) = both_left (has_sample class && is_sane s) (list_all (are_apart class) (follows s)) rest in
    let apart : IsTrue (list_all (are_apart class) (follows s)) = both_right (has_sample class && is_sane s) (list_all (are_apart class) (follows s)) rest in (
      (sample class, both_left (has_sample class) (is_sane s) here),
      sane s (both_right (has_sample class) (is_sane s) here),
      λ t j k. one_apart class (follows s) t apart j (follow_within s t k),
      full s (both_right (has_sample class && is_sane s && list_all (are_apart class) (follows s)) (not (may_be_empty s)) h),
    )
sane (many s) h =
    let here : IsTrue (is_sane s && all_apart (firsts s) (follows s)) =
    both_left (is_sane s && all_apart (firsts s) (follows s)) (not (may_be_empty s)) h in (
      sane s (both_left (is_sane s) (all_apart (firsts s) (follows s)) here),
      λ t j k. lists_apart (firsts s) (follows s) t (both_right (is_sane s) (all_apart (firsts s) (follows s)) here) (first_within s t j) (follow_within s t k),
      full s (both_right (is_sane s && all_apart (firsts s) (follows s)) (not (may_be_empty s)) h),
    )
