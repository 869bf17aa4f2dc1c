-- Which classes have no token in common.
use Rattle.std.proofs.Common.{◌&&◌, ◌||◌, ◌⊎◌, ◌==◌, not, ℕ, Bool, IsTrue, true, false, List, [], ◌∷◌, inl, inr, refl, sym, ◌∙◌, ap, arith}
use Rattle.std.proofs.lemmas.Bool.{or_cases, eqb-true, eq-eqb}
use Rattle.std.specs.List.{list_all, list_any}
use Rattle.std.specs.Str.{bytes_eq, str_to_ascii_lowercase}
use Rattle.acl_names.proofs.SameAuth.{equal_from_text_eq}
use Rattle.acl_grammar.specs.Reader.{Apart}
use Rattle.grant_lex.specs.declared.sorts.Kind.{Kind}
use Rattle.grant_lex.specs.declared.sorts.Kind.TheVariants.{Word, Quoted, Backquoted, Mark}
use Rattle.grant_words.specs.Classes.{Class, is, is_identifier, is_one_of}
use Rattle.grant_words.specs.Classes.Class.{keyword, mark, identifier, longer, valued}
use Rattle.grant_words.specs.Classes.Sort.{name, any_name, string, plain_word}
use Rattle.grant_lex.specs.Reserved.{is_reserved, reserved_words}
use Rattle.grant_words.specs.declared.lexeme.Lexeme.{Lexeme}

pub both_left : (a b : Bool) → IsTrue (a && b) → IsTrue a
both_left true b h = refl
both_left false b h = absurd (cc)

pub both_right : (a b : Bool) → IsTrue (a && b) → IsTrue b
both_right true b h = h
both_right false b h = absurd (cc)

pub never : (a : Bool) → IsTrue (not a) → IsTrue a → ⊥
never true h k = cc
never false h k = cc

-- the text, in lower case, is one of the words in any case
abbrev pub is_listed : List ℕ → List (List ℕ) → Bool
is_listed text words = list_any (λ w. bytes_eq (str_to_ascii_lowercase w) text) words

-- a text that stands in a list passes what all of the list pass
pub found_in : (p : List ℕ → Bool) (text : List ℕ) (words : List (List ℕ)) → IsTrue (is_listed text words)
    → IsTrue (list_all (λ w. p (str_to_ascii_lowercase w)) words) → IsTrue (p text)
found_in p text [] h k = absurd (cc)
found_in p text (w ∷ ws) h k =
    found (or_cases (bytes_eq (str_to_ascii_lowercase w) text) (is_listed text ws) h)
    (λ more. found_in p text ws more (both_right (p (str_to_ascii_lowercase w)) (list_all (λ x. p (str_to_ascii_lowercase x)) ws) k))
  where
    found : (IsTrue (bytes_eq (str_to_ascii_lowercase w) text) ⊎ IsTrue (is_listed text ws)) → (IsTrue (is_listed text ws) → IsTrue (p text)) → IsTrue (p text)
    found (inl same) further =
        sym (ap p (equal_from_text_eq (str_to_ascii_lowercase w) text same))
        ∙ both_left (p (str_to_ascii_lowercase w)) (list_all (λ x. p (str_to_ascii_lowercase x)) ws) k
    found (inr more) further = further more

pub or_first : (a b : Bool) → IsTrue a → IsTrue (a || b)
or_first true b h = refl
or_first false b h = absurd (cc)

pub or_second : (a b : Bool) → IsTrue b → IsTrue (a || b)
or_second true b h = refl
or_second false b h = h

-- where a text that stands in a list passes a test, some of the list does
passes_in : (p : List ℕ → Bool) (text : List ℕ) (words : List (List ℕ)) → IsTrue (is_listed text words) → IsTrue (p text)
    → IsTrue (list_any (λ w. p (str_to_ascii_lowercase w)) words)
passes_in p text [] h k = absurd (cc)
passes_in p text (w ∷ ws) h k =
    passes (or_cases (bytes_eq (str_to_ascii_lowercase w) text) (is_listed text ws) h) (λ more. passes_in p text ws more k)
  where
    passes : (IsTrue (bytes_eq (str_to_ascii_lowercase w) text) ⊎ IsTrue (is_listed text ws))
        → (IsTrue (is_listed text ws) → IsTrue (list_any (λ x. p (str_to_ascii_lowercase x)) ws))
        → IsTrue (list_any (λ x. p (str_to_ascii_lowercase x)) (w ∷ ws))
    passes (inl same) further =
        or_first (p (str_to_ascii_lowercase w)) (list_any (λ x. p (str_to_ascii_lowercase x)) ws)
        (ap p (equal_from_text_eq (str_to_ascii_lowercase w) text same) ∙ k)
    passes (inr more) further = or_second (p (str_to_ascii_lowercase w)) (list_any (λ x. p (str_to_ascii_lowercase x)) ws) (further more)

abbrev of_kind : Kind → List ℕ → Lexeme
of_kind kind value = record { kind = kind; value = value }

-- a reserved keyword is no name
reserved_clash : (words : List (List ℕ)) (v : List ℕ) → IsTrue (list_all is_reserved words) → IsTrue (is_one_of words v)
    → IsTrue (not (is_reserved v)) → ⊥
reserved_clash words v a h k = never (is_reserved v) k (found_in (λ low. is_listed low reserved_words) (str_to_ascii_lowercase v) words h a)

keywords_clash : (words others : List (List ℕ)) (v : List ℕ) → IsTrue (not (list_any (is_one_of others) words)) → IsTrue (is_one_of words v)
    → IsTrue (is_one_of others v) → ⊥
keywords_clash words others v a h k =
    never (list_any (is_one_of others) words) a (passes_in (λ low. is_listed low others) (str_to_ascii_lowercase v) words h k)

words_clash : (words : List (List ℕ)) (test : List ℕ → Bool) (v : List ℕ)
    → IsTrue (not (list_any (λ w. test (str_to_ascii_lowercase w)) words)) → IsTrue (is_one_of words v)
    → IsTrue (test (str_to_ascii_lowercase v)) → ⊥
words_clash words test v a h k =
    never (list_any (λ w. test (str_to_ascii_lowercase w)) words) a (passes_in test (str_to_ascii_lowercase v) words h k)

marks_clash : (byte other b : ℕ) → IsTrue (not (byte == other)) → IsTrue (b == byte) → IsTrue (b == other) → ⊥
marks_clash byte other b a h k =
    never (byte == other) a (eq-eqb byte other (sym (eqb-true b byte h) ∙ eqb-true b other k))

-- no token is of both classes; where this is false, some may be
abbrev pub are_apart : Class → Class → Bool
are_apart (keyword words) (keyword others) = not (list_any (is_one_of others) words)
are_apart (keyword words) (mark _) = true
are_apart (keyword words) identifier = list_all is_reserved words
are_apart (keyword words) (longer _ _) = list_all is_reserved words
are_apart (keyword words) (valued name test _) = list_all is_reserved words
are_apart (keyword words) (valued any_name test _) = false
are_apart (keyword words) (valued string test _) = true
are_apart (keyword words) (valued plain_word test _) = not (list_any (λ word. test (str_to_ascii_lowercase word)) words)
are_apart (mark byte) (mark other) = not (byte == other)
are_apart (mark byte) _ = true
are_apart identifier (keyword words) = list_all is_reserved words
are_apart identifier (mark _) = true
are_apart identifier (longer _ _) = true
are_apart identifier (valued string _ _) = true
are_apart identifier _ = false
are_apart (longer _ _) (keyword words) = list_all is_reserved words
are_apart (longer _ _) (mark _) = true
are_apart (longer _ _) identifier = true
are_apart (longer _ _) (valued string _ _) = true
are_apart (longer _ _) _ = false
are_apart (valued sort test _) (mark _) = true
are_apart (valued name test _) (keyword words) = list_all is_reserved words
are_apart (valued string test _) (keyword words) = true
are_apart (valued plain_word test _) (keyword words) = not (list_any (λ word. test (str_to_ascii_lowercase word)) words)
are_apart (valued string test _) identifier = true
are_apart (valued string test _) (longer _ _) = true
are_apart (valued string _ _) (valued plain_word _ _) = true
are_apart (valued plain_word _ _) (valued string _ _) = true
are_apart _ _ = false

clash_keyword : (words : List (List ℕ)) (d : Class) → IsTrue (are_apart (keyword words) d) → (v : List ℕ)
    → IsTrue (is_one_of words v) → IsTrue (is d (of_kind Word v)) → ⊥
unfolding is
clash_keyword words (keyword others) a v h k = keywords_clash words others v a h k
clash_keyword words (mark b) a v h k = cc
clash_keyword words identifier a v h k = reserved_clash words v a h (both_left (not (is_reserved v)) (is_identifier v) k)
clash_keyword words (longer test _) a v h k =
    reserved_clash words v a h
    (both_left (not (is_reserved v)) (not (is_identifier v)) (both_left (not (is_reserved v) && not (is_identifier v)) (test v) k))
clash_keyword words (valued name test _) a v h k = reserved_clash words v a h (both_left (not (is_reserved v)) (test v) k)
clash_keyword words (valued any_name test _) a v h k = cc
clash_keyword words (valued string test _) a v h k = cc
clash_keyword words (valued plain_word test _) a v h k = words_clash words test v a h k

clash_mark : (byte : ℕ) (d : Class) → IsTrue (are_apart (mark byte) d) → (b : ℕ) (v : List ℕ) → IsTrue (b == byte) → IsTrue (is d (of_kind (Mark b) v)) → ⊥
unfolding is
clash_mark byte (keyword words) a b v h k = cc
clash_mark byte (mark other) a b v h k = marks_clash byte other b a h k
clash_mark byte identifier a b v h k = cc
clash_mark byte (longer _ _) a b v h k = cc
clash_mark byte (valued name _ _) a b v h k = cc
clash_mark byte (valued any_name _ _) a b v h k = cc
clash_mark byte (valued string _ _) a b v h k = cc
clash_mark byte (valued plain_word _ _) a b v h k = cc

by_keyword : (words : List (List ℕ)) (d : Class) → IsTrue (are_apart (keyword words) d) → (kind : Kind) (v : List ℕ)
    → IsTrue (is (keyword words) (of_kind kind v)) → IsTrue (is d (of_kind kind v)) → ⊥
unfolding is
by_keyword words d a Word v h k = clash_keyword words d a v h k
by_keyword words d a Quoted v h k = cc
by_keyword words d a Backquoted v h k = cc
by_keyword words d a (Mark b) v h k = cc

by_mark : (byte : ℕ) (d : Class) → IsTrue (are_apart (mark byte) d) → (kind : Kind) (v : List ℕ)
    → IsTrue (is (mark byte) (of_kind kind v)) → IsTrue (is d (of_kind kind v)) → ⊥
unfolding is
by_mark byte d a Word v h k = cc
by_mark byte d a Quoted v h k = cc
by_mark byte d a Backquoted v h k = cc
by_mark byte d a (Mark b) v h k = clash_mark byte d a b v h k

by_string : (test : List ℕ → Bool) (text : List ℕ) (d : Class) → IsTrue (are_apart (valued string test text) d) → (kind : Kind) (v : List ℕ)
    → IsTrue (is (valued string test text) (of_kind kind v)) → IsTrue (is d (of_kind kind v)) → ⊥
unfolding is
by_string test text d a Word v h k = cc
by_string test text (keyword words) a Quoted v h k = cc
by_string test text (mark b) a Quoted v h k = cc
by_string test text identifier a Quoted v h k = cc
by_string test text (longer _ _) a Quoted v h k = cc
by_string test text (valued name _ _) a Quoted v h k = cc
by_string test text (valued any_name _ _) a Quoted v h k = cc
by_string test text (valued string _ _) a Quoted v h k = cc
by_string test text (valued plain_word _ _) a Quoted v h k = cc
by_string test text d a Backquoted v h k = cc
by_string test text d a (Mark b) v h k = cc

-- an identifier, and a longer text that is none
by_length : (test : List ℕ → Bool) (kind : Kind) (v : List ℕ) (text : List ℕ) → IsTrue (is identifier (of_kind kind v))
    → IsTrue (is (longer test text) (of_kind kind v)) → ⊥
unfolding is
by_length test kind v text h k = grind arith

clash : (c d : Class) → IsTrue (are_apart c d) → (kind : Kind) (v : List ℕ) → IsTrue (is c (of_kind kind v)) → IsTrue (is d (of_kind kind v)) → ⊥
unfolding is
clash (keyword words) d a kind v h k = by_keyword words d a kind v h k
clash (mark byte) d a kind v h k = by_mark byte d a kind v h k
clash identifier (keyword words) a kind v h k = by_keyword words identifier a kind v k h
clash identifier (mark b) a kind v h k = by_mark b identifier refl kind v k h
clash identifier identifier a kind v h k = cc
clash identifier (longer test text) a kind v h k = by_length test kind v text h k
clash identifier (valued name _ _) a kind v h k = cc
clash identifier (valued any_name _ _) a kind v h k = cc
clash identifier (valued string test text) a kind v h k = by_string test text identifier refl kind v k h
clash identifier (valued plain_word _ _) a kind v h k = cc
clash (longer test text) (keyword words) a kind v h k = by_keyword words (longer test text) a kind v k h
clash (longer test text) (mark b) a kind v h k = by_mark b (longer test text) refl kind v k h
clash (longer test text) identifier a kind v h k = by_length test kind v text k h
clash (longer test text) (longer _ _) a kind v h k = cc
clash (longer test text) (valued name _ _) a kind v h k = cc
clash (longer test text) (valued any_name _ _) a kind v h k = cc
clash (longer test text) (valued string other sample) a kind v h k = by_string other sample (longer test text) refl kind v k h
clash (longer test text) (valued plain_word _ _) a kind v h k = cc
clash (valued name test text) (keyword words) a kind v h k = by_keyword words (valued name test text) a kind v k h
clash (valued name test text) (mark b) a kind v h k = by_mark b (valued name test text) refl kind v k h
clash (valued name test text) identifier a kind v h k = cc
clash (valued name test text) (longer _ _) a kind v h k = cc
clash (valued name test text) (valued _ _ _) a kind v h k = cc
clash (valued any_name test text) (keyword words) a kind v h k = cc
clash (valued any_name test text) (mark b) a kind v h k = by_mark b (valued any_name test text) refl kind v k h
clash (valued any_name test text) identifier a kind v h k = cc
clash (valued any_name test text) (longer _ _) a kind v h k = cc
clash (valued any_name test text) (valued _ _ _) a kind v h k = cc
clash (valued string test text) (keyword words) a kind v h k = by_string test text (keyword words) refl kind v h k
clash (valued string test text) (mark b) a kind v h k = by_string test text (mark b) refl kind v h k
clash (valued string test text) identifier a kind v h k = by_string test text identifier refl kind v h k
clash (valued string test text) (longer t u) a kind v h k = by_string test text (longer t u) refl kind v h k
clash (valued string test text) (valued name _ _) a kind v h k = cc
clash (valued string test text) (valued any_name _ _) a kind v h k = cc
clash (valued string test text) (valued string _ _) a kind v h k = cc
clash (valued string test text) (valued plain_word t u) a kind v h k = by_string test text (valued plain_word t u) refl kind v h k
clash (valued plain_word test text) (keyword words) a kind v h k = by_keyword words (valued plain_word test text) a kind v k h
clash (valued plain_word test text) (mark b) a kind v h k = by_mark b (valued plain_word test text) refl kind v k h
clash (valued plain_word test text) identifier a kind v h k = cc
clash (valued plain_word test text) (longer _ _) a kind v h k = cc
clash (valued plain_word test text) (valued name _ _) a kind v h k = cc
clash (valued plain_word test text) (valued any_name _ _) a kind v h k = cc
clash (valued plain_word test text) (valued string t u) a kind v h k = by_string t u (valued plain_word test text) refl kind v k h
clash (valued plain_word test text) (valued plain_word _ _) a kind v h k = cc

pub apart_classes : (c d : Class) → IsTrue (are_apart c d) → Apart (is c) (is d)
apart_classes c d a lexeme h k = clash c d a lexeme.kind lexeme.value h k
