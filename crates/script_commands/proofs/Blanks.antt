-- Blanks in front of bytes.
use Rattle.std.proofs.Common.{◌≡◌, ◌+◌, ◌<◌, ◌≤◌, not, ℕ, zero, suc, Bool, true, false, List, [], ◌∷◌, ◌++◌, cond, nat_lt, Some, None, length, get_or, drop, IsUtf8, refl, sym, ap, ◌∙◌, subst, arith}
use Rattle.std.specs.List.{AllByRecursion, position, position_or_len}
use Rattle.std.specs.Str.{IsCharBoundary}
use Rattle.std.proofs.lemmas.Str.{IsCharBoundary-after_ascii}
use Rattle.grant_lex.proofs.Spans.{ascii_unless_word}
use Rattle.grant_lex.specs.Class.{class_of}
use Rattle.grant_lex.specs.Token.{PastBlanks}
use Rattle.grant_lex.specs.Next.{IsBlank}
use Rattle.script_commands.specs.Moments.{IsMomentAt, is_no_blank}

blank_class : (b : ℕ) → is_no_blank b ≡ false → IsBlank b
blank_class b h = grind arith

other_class : (b : ℕ) → is_no_blank b ≡ true → IsBlank b → ⊥
other_class b h k = grind arith

more_blank : (at : ℕ) (b : ℕ) (xs : List ℕ) → IsBlank b → PastBlanks (IsMomentAt ((at + 1) + position_or_len is_no_blank xs)) (at + 1) xs
    → PastBlanks (IsMomentAt (at + (1 + position_or_len is_no_blank xs))) at (b ∷ xs)
more_blank at b xs blank k = record {
  blanks = b ∷ k.blanks;
  rest = k.rest;
  whole = ap (λ l. b ∷ l) k.whole;
  each = (blank, k.each);
  next = (omega (arith, k.next.0), k.next.1);
}

-- behind the blanks in front the moment begins
pub past : (at : ℕ) (xs : List ℕ) → PastBlanks (IsMomentAt (at + position_or_len is_no_blank xs)) at xs
past at [] = record { blanks = []; rest = []; whole = refl; each = tt; next = (omega arith, tt) }
past at (b ∷ xs) = step (is_no_blank b) refl (past (at + 1) xs)
  where
    step : (other : Bool) → is_no_blank b ≡ other → PastBlanks (IsMomentAt ((at + 1) + position_or_len is_no_blank xs)) (at + 1) xs
        → PastBlanks (IsMomentAt (at + position_or_len is_no_blank (b ∷ xs))) at (b ∷ xs)
    step true e k = record {
      blanks = [];
      rest = b ∷ xs;
      whole = refl;
      each = tt;
      next = (omega (arith, ap (λ (o : Bool). cond (not o) (1 + position_or_len is_no_blank xs) 0) e), other_class b e);
    }
    step false e k =
        let same : position_or_len is_no_blank (b ∷ xs) ≡ 1 + position_or_len is_no_blank xs =
        ap (λ (o : Bool). cond (not o) (1 + position_or_len is_no_blank xs) 0) e in
        subst (λ (n : ℕ). PastBlanks (IsMomentAt (at + n)) at (b ∷ xs)) (sym same) (more_blank at b xs (blank_class b e) k)

-- a place in a list, its element and what follows it
head_at : (text : List ℕ) (at b : ℕ) (bs : List ℕ) → drop at text ≡ b ∷ bs → (at < length text) × (get_or text at 0 ≡ b) × (drop (at + 1) text ≡ bs)
head_at [] zero b bs h = absurd (cc)
head_at [] (suc at) b bs h = absurd (cc)
head_at (x ∷ text) zero b bs h = let first : x ≡ b = cc in let more : text ≡ bs = cc in (omega arith, first, more)
head_at (x ∷ text) (suc at) b bs h =
    let k = head_at text at b bs h in
    let step : suc at + 1 ≡ suc (at + 1) = omega arith in
    (omega (arith, k.0), k.1, ap (λ (n : ℕ). drop n (x ∷ text)) step ∙ k.2)

behind_blanks : (text : List ℕ) → IsUtf8 text → (at : ℕ) (blanks rest : List ℕ) → AllByRecursion IsBlank blanks → drop at text ≡ blanks ++ rest
    → IsCharBoundary text at → IsCharBoundary text (at + length blanks)
behind_blanks text utf8 at [] rest each whole cut = subst (IsCharBoundary text) (omega arith) cut
behind_blanks text utf8 at (b ∷ bs) rest each whole cut =
    let here = head_at text at b (bs ++ rest) whole in
    let small : b < 128 = ascii_unless_word b (class_of 32) each.0 (λ e. cc) in
    let next = IsCharBoundary-after_ascii text at utf8 here.0 (omega (arith, here.1)) in
    subst (IsCharBoundary text) (omega arith) (behind_blanks text utf8 (at + 1) bs rest each.1 here.2 next)

-- the moment begins with a character
pub moment_cut : (text : List ℕ) → IsUtf8 text → (at place : ℕ) → PastBlanks (IsMomentAt place) at (drop at text) → IsCharBoundary text at
    → IsCharBoundary text place
moment_cut text utf8 at place k cut = subst (IsCharBoundary text) k.next.0 (behind_blanks text utf8 at k.blanks k.rest k.each k.whole cut)

shorter : (xs : List ℕ) → position_or_len is_no_blank xs ≤ length xs
shorter [] = omega arith
shorter (x ∷ xs) = step (is_no_blank x) refl (shorter xs)
  where
    step : (other : Bool) → is_no_blank x ≡ other → position_or_len is_no_blank xs ≤ length xs
        → position_or_len is_no_blank (x ∷ xs) ≤ length (x ∷ xs)
    step true e k =
        let same : position_or_len is_no_blank (x ∷ xs) ≡ 0 = ap (λ (o : Bool). cond (not o) (1 + position_or_len is_no_blank xs) 0) e in omega (arith, same)
    step false e k =
        let same : position_or_len is_no_blank (x ∷ xs) ≡ 1 + position_or_len is_no_blank xs =
        ap (λ (o : Bool). cond (not o) (1 + position_or_len is_no_blank xs) 0) e in
        omega (arith, same, k)

pub first_place : (xs : List ℕ) (n : ℕ) → position is_no_blank xs ≡ Some n → n ≡ position_or_len is_no_blank xs
first_place xs n h = step (nat_lt (position_or_len is_no_blank xs) (length xs)) h
  where
    step : (b : Bool) → cond b (Some (position_or_len is_no_blank xs)) None ≡ Some n → n ≡ position_or_len is_no_blank xs
    step true k = cc
    step false k = absurd (cc)

pub no_place : (xs : List ℕ) → position is_no_blank xs ≡ None → length xs ≡ position_or_len is_no_blank xs
no_place xs h = step (nat_lt (position_or_len is_no_blank xs) (length xs)) refl h (shorter xs)
  where
    step : (b : Bool) → nat_lt (position_or_len is_no_blank xs) (length xs) ≡ b → cond b (Some (position_or_len is_no_blank xs)) None ≡ None
        → position_or_len is_no_blank xs ≤ length xs → length xs ≡ position_or_len is_no_blank xs
    step true e k l = absurd (cc)
    step false e k l = grind arith
