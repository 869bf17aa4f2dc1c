-- The token that some bytes begin with.
use Rattle.std.proofs.Common.{◌≡◌, ℕ, ◌+◌, ◌-◌, ◌<◌, List, [], ◌∷◌, ◌++◌, length, get_or, take, drop, refl, sym, subst, ap, arith}
use Rattle.std.proofs.lemmas.Slice.{between_to_end}
use Rattle.grant_lex.specs.Class.{class_of}
use Rattle.grant_lex.specs.Next.{BeginsWithout, IsOf, IsLongestRun}
use Rattle.grant_lex.specs.Token.{IsOfSort, IsQuoted, IsQuotedFront, StandsAt}
use Rattle.grant_lex.specs.declared.class.Class.{Class}
use Rattle.grant_lex.specs.declared.class.Class.TheVariants as classes
use Rattle.grant_lex.specs.declared.sorts.Kind.{Kind}
use Rattle.grant_lex.specs.declared.sorts.Kind.TheVariants as kinds

-- the first n bytes are a token of this sort
pub record IsFront (kind : Kind) (bytes : List ℕ) (n : ℕ) : Type 0 where
  pub text : List ℕ
  pub rest : List ℕ
  pub whole : bytes ≡ text ++ rest
  pub size : length text ≡ n
  pub sort : IsOfSort kind text rest

pub front_stands : (from : ℕ) (kind : Kind) (bytes : List ℕ) (n : ℕ) → IsFront kind bytes n → (rest : List ℕ) × StandsAt from (record { kind = kind; from = from; to = from + n }) bytes rest
front_stands from kind bytes n front = (
  front.rest,
  record {
    text = front.text;
    whole = front.whole;
    begins = refl;
    ends = ap (λ k. from + k) (sym front.size);
    sort = front.sort;
  },
)

-- a run of the first byte's class is not empty
run_some : (class : Class) (front rest : List ℕ) → 0 < length (front ++ rest) → class_of (get_or (front ++ rest) 0 0) ≡ class → BeginsWithout (IsOf class) rest → 0 < length front
run_some class [] [] some first ends = omega arith
run_some class [] (b ∷ rest) some first ends = absurd (ends first)
run_some class (b ∷ front) rest some first ends = omega arith

pub word_front : (bytes : List ℕ) (n : ℕ) → 0 < length bytes → class_of (get_or bytes 0 0) ≡ classes.Word → IsLongestRun classes.Word bytes n → IsFront kinds.Word bytes n
word_front bytes n some first run =
    let whole_some = subst (λ (l : List ℕ). 0 < length l) run.whole some in
    let whole_first = subst (λ (l : List ℕ). class_of (get_or l 0 0) ≡ classes.Word) run.whole first in
    record {
      text = run.front;
      rest = run.rest;
      whole = run.whole;
      size = run.size;
      sort = record { some = run_some classes.Word run.front run.rest whole_some whole_first run.ends; each = run.each; ends = run.ends };
    }

pub mark_front : (bytes : List ℕ) → 0 < length bytes → class_of (get_or bytes 0 0) ≡ classes.Mark → IsFront (kinds.Mark (get_or bytes 0 0)) bytes 1
mark_front [] some first = absurd (omega arith)
mark_front (b ∷ bytes) some first = record { text = b ∷ []; rest = bytes; whole = refl; size = refl; sort = (first, refl) }

-- the first byte and what follows it
pub first_and_rest : (bytes : List ℕ) → 0 < length bytes → get_or bytes 0 0 ∷ take (length bytes - 1) (drop 1 bytes) ≡ bytes
first_and_rest [] some = absurd (omega arith)
first_and_rest (b ∷ bytes) some = ap (λ l. b ∷ l) (between_to_end (b ∷ bytes) 1 (length (b ∷ bytes)) (omega arith))

quoted_front : (bytes : List ℕ) (n : ℕ) → 0 < length bytes → IsQuotedFront (get_or bytes 0 0) (get_or bytes 0 0 ∷ take (length bytes - 1) (drop 1 bytes)) n → IsQuotedFront (get_or bytes 0 0) bytes n
quoted_front bytes n some front = subst (λ l. IsQuotedFront (get_or bytes 0 0) l n) (first_and_rest bytes some) front

pub string_front : (bytes : List ℕ) (n : ℕ) → 0 < length bytes → class_of (get_or bytes 0 0) ≡ classes.Quote → IsQuotedFront (get_or bytes 0 0) (get_or bytes 0 0 ∷ take (length bytes - 1) (drop 1 bytes)) n → IsFront kinds.Quoted bytes n
string_front bytes n some first front =
    let all = quoted_front bytes n some front in
    record { text = all.text; rest = all.rest; whole = all.whole; size = all.size; sort = subst (λ class. IsQuoted class all.text all.rest) first all.sort }

pub name_front : (bytes : List ℕ) (n : ℕ) → 0 < length bytes → class_of (get_or bytes 0 0) ≡ classes.Backquote → IsQuotedFront (get_or bytes 0 0) (get_or bytes 0 0 ∷ take (length bytes - 1) (drop 1 bytes)) n → IsFront kinds.Backquoted bytes n
name_front bytes n some first front =
    let all = quoted_front bytes n some front in
    record { text = all.text; rest = all.rest; whole = all.whole; size = all.size; sort = subst (λ class. IsQuoted class all.text all.rest) first all.sort }
