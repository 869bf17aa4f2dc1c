-- The front of a text before its fault.
use Rattle.std.proofs.Common.{◌≡◌, ◌⊎◌, ℕ, ◌+◌, ◌<◌, List, [], ◌∷◌, ◌++◌, Some, None, length, get_or, take, drop, refl, sym, subst, ap, ◌∙◌, arith, append_assoc, length-append, inl, inr}
use Rattle.std.specs.List.{flat_map}
use Rattle.std.specs.Str.{IsCharBoundary}
use Rattle.std.proofs.Math.Seq.{take-append_seam}
use Rattle.std.proofs.lemmas.List.{append-nil, take-append-drop}
use Rattle.std.proofs.lemmas.Str.{IsCharBoundary-before_ascii}
use Rattle.grant_lex.proofs.Answered.{cut_or_fault, faults_same}
use Rattle.grant_lex.proofs.Spans.{ascii_unless_word, get_seam}
use Rattle.grant_lex.specs.Class.{class_of}
use Rattle.grant_lex.specs.Inside.{spelling}
use Rattle.grant_lex.specs.Next.{BeginsWithout, IsOf}
use Rattle.grant_lex.specs.Token.{Continues, Fails, HasFault, IsBadByte, IsBadPair, IsCut, IsOfSort, IsUnclosed, Reads}
use Rattle.grant_lex.specs.declared.refusal.LexRefusal.{LexRefusal}
use Rattle.grant_lex.specs.declared.refusal.LexRefusal.TheVariants.{BadByte, Unclosed}
use Rattle.grant_lex.specs.declared.sorts.Kind.{Kind}
use Rattle.grant_lex.specs.declared.sorts.Kind.TheVariants.{Word, Quoted, Backquoted, Mark}
use Rattle.grant_lex.specs.declared.sorts.Token.{Token}
use Rattle.script_commands.specs.Fronts.{IsCutFront, IsFaultAt, IsFront}

-- a shorter list begins so at most where the longer one does
begins_less : (P : ℕ → Type 0) (xs ys : List ℕ) → BeginsWithout P (xs ++ ys) → BeginsWithout P xs
begins_less P [] ys h = tt
begins_less P (x ∷ xs) ys h = h

sort_less : (kind : Kind) (text rest more : List ℕ) → IsOfSort kind text (rest ++ more) → IsOfSort kind text rest
sort_less Word text rest more s = record { some = s.some; each = s.each; ends = begins_less (IsOf (class_of 97)) rest more s.ends }
sort_less Quoted text rest more s =
    record { quote = s.quote; sort = s.sort; pieces = s.pieces; opens = s.opens; ends = begins_less (λ b. b ≡ s.quote) rest more s.ends }
sort_less Backquoted text rest more s =
    record { quote = s.quote; sort = s.sort; pieces = s.pieces; opens = s.opens; ends = begins_less (λ b. b ≡ s.quote) rest more s.ends }
sort_less (Mark b) text rest more s = s

-- the next token is the same where less of the text follows it
continues_less : (at : ℕ) (bytes : List ℕ) (t : Token) (behind rest more : List ℕ) → (step : Continues at bytes t behind) → behind ≡ rest ++ more
    → Continues at (step.blanks ++ (step.next.text ++ rest)) t rest
continues_less at bytes t behind rest more step whole = record {
  blanks = step.blanks;
  rest = step.next.text ++ rest;
  whole = refl;
  each = step.each;
  next = record {
    text = step.next.text;
    whole = refl;
    begins = step.next.begins;
    ends = step.next.ends;
    sort = sort_less t.kind step.next.text rest more (subst (IsOfSort t.kind step.next.text) whole step.next.sort);
  };
}

-- the bytes are a front that is cut into the tokens, and what has the fault
pub record Faulted (at : ℕ) (bytes : List ℕ) (ts : List Token) (fault : LexRefusal) : Type 0 where
  pub front : List ℕ
  pub rest : List ℕ
  pub whole : bytes ≡ front ++ rest
  pub fails : Fails (at + length front) rest fault
  pub cut : Reads at front ts None
  pub opened : (other tail : List ℕ) (end : LexRefusal) → rest ≡ other ++ tail → Fails (at + length front) other end
      → Reads at (front ++ other) ts (Some end)

regrouped : (a b c d : List ℕ) → (a ++ (b ++ c)) ++ d ≡ a ++ (b ++ (c ++ d))
regrouped a b c d = append_assoc a (b ++ c) d ∙ ap (λ l. a ++ l) (append_assoc b c d)

size_behind : (at to : ℕ) (a b c : List ℕ) → to ≡ (at + length a) + length b → to + length c ≡ at + length (a ++ (b ++ c))
size_behind at to a b c ends = omega (arith, length-append a (b ++ c), length-append b c)

pub faulted : (at : ℕ) (bytes : List ℕ) (ts : List Token) (fault : LexRefusal) → Reads at bytes ts (Some fault) → Faulted at bytes ts fault
faulted at bytes [] fault p = record {
  front = p.blanks;
  rest = p.rest;
  whole = p.whole;
  fails = p.next;
  cut = p.each;
  opened = λ other tail end e f. record { blanks = p.blanks; rest = other; whole = refl; each = p.each; next = f };
}
faulted at bytes (t ∷ ts) fault (behind, step, more) =
    let k = faulted t.to behind ts fault more in
    let token : List ℕ = step.next.text in
    let size : t.to + length k.front ≡ at + length (step.blanks ++ (token ++ k.front)) = size_behind at t.to step.blanks token k.front step.next.ends in
    record {
      front = step.blanks ++ (token ++ k.front);
      rest = k.rest;
      whole = step.whole ∙ ap (λ l. step.blanks ++ l) (step.next.whole ∙ ap (λ l. token ++ l) k.whole) ∙ sym (regrouped step.blanks token k.front k.rest);
      fails = subst (λ n. Fails n k.rest fault) size k.fails;
      cut = (k.front, continues_less at bytes t behind k.front k.rest step k.whole, k.cut);
      opened = λ other tail end e f.
          let P : List ℕ → Type 0 = λ l. Reads at l (t ∷ ts) (Some end) in
          subst P (sym (regrouped step.blanks token k.front other)) (
            k.front ++ other,
            continues_less at bytes t behind (k.front ++ other) tail step (k.whole ∙ ap (λ l. k.front ++ l) e ∙ sym (append_assoc k.front other tail)),
            k.opened other tail end e (subst (λ n. Fails n other end) (sym size) f),
          );
    }

-- a byte of a character of its own
pub record IsAsciiAt (text : List ℕ) (place : ℕ) : Type 0 where
  pub within : place < length text
  pub small : get_or text place 0 < 128

ascii_seam : (text front : List ℕ) (b : ℕ) (rest : List ℕ) (place : ℕ) → text ≡ front ++ b ∷ rest → place ≡ length front → b < 128 → IsAsciiAt text place
ascii_seam text front b rest place whole size small = record {
  within = omega (arith, ap length whole, length-append front (b ∷ rest));
  small =
      let there : get_or text place 0 ≡ b = ap (λ l. get_or l place 0) whole ∙ ap (λ n. get_or (front ++ b ∷ rest) n 0) size ∙ get_seam front b rest in
      omega (arith, there);
}

pub boundary : (text : List ℕ) (place : ℕ) → IsAsciiAt text place → IsCharBoundary text place
boundary text place h = IsCharBoundary-before_ascii text place h.within h.small

front_of : (text front rest : List ℕ) (n : ℕ) → text ≡ front ++ rest → n ≡ length front → take n text ≡ front
front_of text front rest n whole size = ap (take n) whole ∙ ap (λ k. take k (front ++ rest)) size ∙ take-append_seam front rest

-- the fault is inside a string, which opens here
pub record IsInside (text : List ℕ) (offset : ℕ) : Type 0 where
  pub place : ℕ
  pub tokens : List Token
  pub opens : HasFault (take offset text) (Unclosed place)
  pub front : IsFront text place tokens
  pub ascii : IsAsciiAt text place

pub record Located (text : List ℕ) (offset : ℕ) : Type 0 where
  pub ascii : IsAsciiAt text offset
  pub where_from : ((ts : List Token) × IsFront text offset ts) ⊎ IsInside text offset

-- the class is none of words
quote_ascii : (b : ℕ) → class_of b ≡ (class_of 39) → b < 128
quote_ascii b sort = ascii_unless_word b (class_of 39) sort (λ e. cc)

located_byte : (text : List ℕ) (offset : ℕ) (ts : List Token) (fault : LexRefusal) → Reads 0 text ts (Some fault) → (k : Faulted 0 text ts fault)
    → IsBadByte (0 + length k.front) k.rest offset → Located text offset
located_byte text offset ts fault reads k bad =
    let size : offset ≡ length k.front = omega (arith, bad.place) in
    record {
      ascii = ascii_seam text k.front bad.byte bad.rest offset (k.whole ∙ ap (λ l. k.front ++ l) bad.whole) size
          (ascii_unless_word bad.byte (class_of 45) bad.bad (λ e. cc));
      where_from = inl (
        ts,
        record {
          cut = subst (λ l. IsCut l ts) (sym (front_of text k.front k.rest offset k.whole size)) k.cut;
          end = Some fault;
          reads = reads;
        },
      );
    }

located_pair : (text : List ℕ) (offset : ℕ) (ts : List Token) (fault : LexRefusal) → Reads 0 text ts (Some fault) → (k : Faulted 0 text ts fault)
    → IsBadPair (0 + length k.front) k.rest offset → Located text offset
located_pair text offset ts fault reads k pair =
    let inside : List ℕ = pair.quote ∷ flat_map (spelling pair.quote) pair.pieces in
    let whole : text ≡ (k.front ++ inside) ++ pair.rest =
    k.whole ∙ ap (λ l. k.front ++ l) pair.opens.whole ∙ sym (append_assoc k.front inside pair.rest) in
    let from : ℕ = length k.front in
    let size : offset ≡ length (k.front ++ inside) = omega (arith, pair.place, length-append k.front inside) in
    let short : take offset text ≡ k.front ++ inside = front_of text (k.front ++ inside) pair.rest offset whole size in
    let unclosed : IsUnclosed (0 + length k.front) inside from = record {
      quote = pair.quote;
      sort = inl pair.sort;
      pieces = pair.pieces;
      rest = [];
      opens = record { whole = ap (λ l. pair.quote ∷ l) (sym (append-nil (flat_map (spelling pair.quote) pair.pieces))); each = pair.opens.each };
      open_end = inl refl;
      place = omega arith;
    } in
    record {
      ascii = ascii_seam text (k.front ++ inside) 92 (pair.bad.second ∷ pair.bad.rest) offset
          (whole ∙ ap (λ l. (k.front ++ inside) ++ l) pair.bad.whole) size (omega arith);
      where_from = inr (record {
        place = from;
        tokens = ts;
        opens = (ts, subst (λ l. Reads 0 l ts (Some (Unclosed from))) (sym short) (k.opened inside pair.rest (Unclosed from) pair.opens.whole unclosed));
        front = record {
          cut = subst (λ l. IsCut l ts) (sym (front_of text k.front k.rest from k.whole refl)) k.cut;
          end = Some fault;
          reads = reads;
        };
        ascii = ascii_seam text k.front pair.quote (flat_map (spelling pair.quote) pair.pieces ++ pair.rest) from
            (k.whole ∙ ap (λ l. k.front ++ l) pair.opens.whole) refl (quote_ascii pair.quote pair.sort);
      });
    }

unclosed_ascii : (b : ℕ) → (class_of b ≡ (class_of 39)) ⊎ (class_of b ≡ (class_of 96)) → b < 128
unclosed_ascii b (inl sort) = quote_ascii b sort
unclosed_ascii b (inr sort) = ascii_unless_word b (class_of 96) sort (λ e. cc)

located_quote : (text : List ℕ) (offset : ℕ) (ts : List Token) (fault : LexRefusal) → Reads 0 text ts (Some fault) → (k : Faulted 0 text ts fault)
    → IsUnclosed (0 + length k.front) k.rest offset → Located text offset
located_quote text offset ts fault reads k open_quote =
    let size : offset ≡ length k.front = omega (arith, open_quote.place) in
    record {
      ascii = ascii_seam text k.front open_quote.quote (flat_map (spelling open_quote.quote) open_quote.pieces ++ open_quote.rest) offset
          (k.whole ∙ ap (λ l. k.front ++ l) open_quote.opens.whole) size (unclosed_ascii open_quote.quote open_quote.sort);
      where_from = inl (
        ts,
        record {
          cut = subst (λ l. IsCut l ts) (sym (front_of text k.front k.rest offset k.whole size)) k.cut;
          end = Some fault;
          reads = reads;
        },
      );
    }

pub located : (text : List ℕ) (offset : ℕ) → IsFaultAt text offset → Located text offset
located text offset (inl (ts, reads)) = byte (faulted 0 text ts (BadByte offset) reads) (faulted 0 text ts (BadByte offset) reads).fails
  where
    byte : (k : Faulted 0 text ts (BadByte offset)) → Fails (0 + length k.front) k.rest (BadByte offset) → Located text offset
    byte k (inl bad) = located_byte text offset ts (BadByte offset) reads k bad
    byte k (inr pair) = located_pair text offset ts (BadByte offset) reads k pair
located text offset (inr (ts, reads)) =
    let k = faulted 0 text ts (Unclosed offset) reads in located_quote text offset ts (Unclosed offset) reads k k.fails

-- where the text before the fault is cut, it is the front
pub front_before : (text : List ℕ) (offset : ℕ) → Located text offset → (us : List Token) → IsCut (take offset text) us
    → (ts : List Token) × IsFront text offset ts
front_before text offset k us cut = found k.where_from
  where
    found : (((ts : List Token) × IsFront text offset ts) ⊎ IsInside text offset) → (ts : List Token) × IsFront text offset ts
    found (inl h) = h
    found (inr h) = absurd (cut_or_fault (take offset text) us (Unclosed h.place) cut h.opens)

-- where it has a fault of its own, the front ends there
pub record IsFrontAt (text : List ℕ) (n : ℕ) : Type 0 where
  pub ascii : IsAsciiAt text n
  pub tokens : List Token
  pub front : IsFront text n tokens

inside_place : (text : List ℕ) (offset other : ℕ) → (h : IsInside text offset) → IsFaultAt (take offset text) other → h.place ≡ other
inside_place text offset other h (inl bad) =
    let same = faults_same (take offset text) (Unclosed h.place) (BadByte other) h.opens bad in absurd (cc)
inside_place text offset other h (inr open_quote) =
    let same = faults_same (take offset text) (Unclosed h.place) (Unclosed other) h.opens open_quote in cc

cut_no_fault : (text : List ℕ) (ts : List Token) (offset : ℕ) → IsCut text ts → IsFaultAt text offset → ⊥
cut_no_fault text ts offset cut (inl h) = cut_or_fault text ts (BadByte offset) cut h
cut_no_fault text ts offset cut (inr h) = cut_or_fault text ts (Unclosed offset) cut h

pub front_inside : (text : List ℕ) (offset other : ℕ) → Located text offset → IsFaultAt (take offset text) other → IsFrontAt text other
front_inside text offset other k fault = found k.where_from
  where
    found : (((ts : List Token) × IsFront text offset ts) ⊎ IsInside text offset) → IsFrontAt text other
    found (inl (ts, h)) = absurd (cut_no_fault (take offset text) ts other h.cut fault)
    found (inr h) =
        let same = inside_place text offset other h fault in
        record {
          ascii = subst (IsAsciiAt text) same h.ascii;
          tokens = h.tokens;
          front = subst (λ n. IsFront text n h.tokens) same h.front;
        }

pub cut_front : (text front : List ℕ) (n : ℕ) → front ≡ take n text → (ts : List Token) × IsFront text n ts → IsCutFront text front
cut_front text front n same (ts, h) = record {
  rest = drop n text;
  whole = sym (take-append-drop n text) ∙ ap (λ l. l ++ drop n text) (sym same);
  tokens = ts;
  cut = subst (λ l. IsCut l ts) (sym same) h.cut;
  end = h.end;
  reads = h.reads;
}
