-- What the tokens of a text stand for is text.
use Rattle.std.proofs.Common.{◌≡◌, ◌∙◌, ◌⊎◌, refl, sym, ap, subst, ℕ, ◌+◌, ◌<◌, ◌||◌, ◌==◌, Bool, true, false, cond, List, [], ◌∷◌, ◌++◌, length, drop, append_assoc, append-nil, length-append, IsUtf8, Ok, inl, inr, arith}
use Rattle.std.proofs.lemmas.Bool.{eq-eqb, eqb-true, or_cases}
use Rattle.std.proofs.Math.Seq.{drop-append_seam, take-append_seam}
use Rattle.std.proofs.lemmas.List.{drop-drop}
use Rattle.std.proofs.lemmas.Str.{IsCharBoundary-before_ascii, IsUtf8-between, IsUtf8-take}
use Rattle.std.specs.List.{AllByRecursion, flat_map}
use Rattle.std.specs.Prelude.{slice_range}
use Rattle.grant_lex.proofs.Spans.{answers_spans, get_seam, utf8_past_ascii}
use Rattle.grant_lex.proofs.Unique.{not_backslash}
use Rattle.grant_lex.proofs.Values.{IsValueSoFar, quote_ascii, value_more, value_start}
use Rattle.grant_lex.specs.Class.{class_of, is_quote}
use Rattle.grant_lex.specs.Inside.{IsPiece, meaning, spelling}
use Rattle.grant_lex.specs.Token.{AreSpans, IsCut, IsOfSort, IsQuoted, IsSpan}
use Rattle.grant_lex.specs.Value.{inside_value, value_of}
use Rattle.grant_lex.specs.declared.sorts.Kind.{Kind}
use Rattle.grant_lex.specs.declared.sorts.Kind.TheVariants.{Word, Quoted, Backquoted, Mark}
use Rattle.grant_lex.specs.declared.sorts.Token.{Token}
use Rattle.grant_words.specs.Lexemes.{lexemes_of}
use Rattle.privilege_texts.specs.Rules.{IsText}

drop_further : (inside : List ℕ) (n : ℕ) (front rest : List ℕ) → drop n inside ≡ front ++ rest → drop (n + length front) inside ≡ rest
drop_further inside n front rest left = sym (drop-drop (length front) n inside) ∙ ap (drop (length front)) left ∙ drop-append_seam front rest

-- part by part, to what stands behind the last one
module _ {X : Type 0} (spell mean : X → List ℕ) (Fits : X → Type 0) (inside close : List ℕ) (SoFar : ℕ → List ℕ → Type 0) (Whole : Type 0) where
  through_parts : ((n : ℕ) (value : List ℕ) (part : X) (rest : List ℕ) → SoFar n value → Fits part → drop n inside ≡ spell part ++ rest → SoFar (n + length (spell part)) (value ++ mean part))
      → ((n : ℕ) (value : List ℕ) → SoFar n value → drop n inside ≡ close → Whole)
      → (parts : List X) (n : ℕ) (value : List ℕ) → AllByRecursion Fits parts → SoFar n value → drop n inside ≡ flat_map spell parts ++ close → Whole
  through_parts more end [] n value each so_far left = end n value so_far left
  through_parts more end (part ∷ parts) n value each so_far left =
      let whole : drop n inside ≡ spell part ++ (flat_map spell parts ++ close) = left ∙ append_assoc (spell part) (flat_map spell parts) close in
      through_parts more end parts (n + length (spell part)) (value ++ mean part) each.1
      (more n value part (flat_map spell parts ++ close) so_far each.0 whole) (drop_further inside n (spell part) (flat_map spell parts ++ close) whole)

nothing_behind : (quote : ℕ) → inside_value quote (quote ∷ []) ≡ []
unfolding inside_value
nothing_behind quote = rw (eq-eqb quote quote refl) refl

-- what stands before an ASCII byte of a text is a text
text_before : (front : List ℕ) (b : ℕ) → b < 128 → IsUtf8 (front ++ b ∷ []) → IsUtf8 front
text_before front b ascii utf8 =
    let there = get_seam front b [] in
    let size = length-append front (b ∷ []) in
    let cut = IsCharBoundary-before_ascii (front ++ b ∷ []) (length front) (omega arith) (omega arith) in
    subst IsUtf8 (take-append_seam front (b ∷ [])) (IsUtf8-take (front ++ b ∷ []) (length front) utf8 cut)

value_ends : (quote : ℕ) (inside : List ℕ) → quote < 128 → (n : ℕ) (value : List ℕ) → IsValueSoFar quote inside n value → drop n inside ≡ quote ∷ [] → IsUtf8 (inside_value quote inside)
value_ends quote inside ascii n value so_far left =
    let closed : inside_value quote (drop n inside) ≡ [] = ap (inside_value quote) left ∙ nothing_behind quote in
    let same : value ≡ inside_value quote inside = sym (append-nil value) ∙ ap (λ l. value ++ l) (sym closed) ∙ so_far.value_is in
    subst IsUtf8 same (text_before value quote ascii (subst (λ l. IsUtf8 (value ++ l)) left so_far.text))

-- a quote of strings is of the class of `'`, and a backquote of its own
abbrev IsQuoteClass : ℕ → Type 0
IsQuoteClass b = (class_of b ≡ class_of 39) ⊎ (class_of b ≡ class_of 96)

quote_class : (b : ℕ) → is_quote b ≡ true → IsQuoteClass b
quote_class b quote =
    elim (or_cases (b == 39 || b == 34) (b == 96) quote) [
      | inl string ↦ elim (or_cases (b == 39) (b == 34) string) [
        | inl single ↦ inl (ap class_of (eqb-true b 39 single))
        | inr double ↦ inl (ap class_of (eqb-true b 34 double))
      ]
      | inr back ↦ inr (ap class_of (eqb-true b 96 back))
    ]

-- a text that does not begin with a quote stands for itself
plain_text : (b : ℕ) (bs : List ℕ) → (IsQuoteClass b → ⊥) → IsUtf8 (b ∷ bs) → IsUtf8 (value_of (b ∷ bs))
plain_text b bs no_quote utf8 = by (is_quote b) refl
  where
    by : (t : Bool) → is_quote b ≡ t → IsUtf8 (cond t (inside_value b bs) (b ∷ bs))
    by false other = utf8
    by true quote = absurd (no_quote (quote_class b quote))

quoted_text : (text rest : List ℕ) (byte : ℕ) → IsQuoteClass byte → IsQuoted (class_of byte) text rest → IsUtf8 text → IsUtf8 (value_of text)
quoted_text text rest byte is_class quoted utf8 =
    let quote : ℕ = quoted.quote in
    let inside : List ℕ = flat_map (spelling quote) quoted.pieces ++ quote ∷ [] in
    let sort : IsQuoteClass quote = elim is_class [ inl same ↦ inl (quoted.sort ∙ same) | inr same ↦ inr (quoted.sort ∙ same) ] in
    let whole : IsUtf8 (quote ∷ inside) = subst IsUtf8 quoted.opens.whole utf8 in
    let inner : IsUtf8 inside = utf8_past_ascii [] quote inside (quote_ascii quote sort) whole in
    let value : IsUtf8 (inside_value quote inside) =
    through_parts (spelling quote) (meaning quote) (IsPiece quote) inside (quote ∷ []) (IsValueSoFar quote inside) (IsUtf8 (inside_value quote inside))
    (λ n value part rest so_far fits left. value_more quote inside n value part (not_backslash quote sort) (quote_ascii quote sort) so_far (record { rest = rest; whole = left; allowed = fits }))
    (value_ends quote inside (quote_ascii quote sort)) quoted.pieces 0 [] quoted.opens.each (value_start quote inside inner) refl in
    subst (λ t. IsUtf8 (value_of t)) (sym quoted.opens.whole) (either (is_quote quote) (inside_value quote inside) (quote ∷ inside) value whole)
  where
    either : (t : Bool) (xs ys : List ℕ) → IsUtf8 xs → IsUtf8 ys → IsUtf8 (cond t xs ys)
    either true xs ys first second = first
    either false xs ys first second = second

-- neither a byte of words, as `a`, nor a mark, as `@`, is a quote
no_quote : (b other : ℕ) → class_of b ≡ class_of other → (class_of other ≡ class_of 39 → ⊥) → (class_of other ≡ class_of 96 → ⊥) → IsQuoteClass b → ⊥
no_quote b other same first second (inl string) = first (sym same ∙ string)
no_quote b other same first second (inr back) = second (sym same ∙ back)

value_text : (kind : Kind) (text rest : List ℕ) → IsOfSort kind text rest → IsUtf8 text → IsUtf8 (value_of text)
value_text Word [] rest sort utf8 = utf8
value_text Word (b ∷ bs) rest sort utf8 = plain_text b bs (no_quote b 97 sort.each.0 (λ same. cc) (λ same. cc)) utf8
value_text Quoted text rest sort utf8 = quoted_text text rest 39 (inl refl) sort utf8
value_text Backquoted text rest sort utf8 = quoted_text text rest 96 (inr refl) sort utf8
value_text (Mark b) text rest sort utf8 =
    subst (λ t. IsUtf8 (value_of t)) (sym sort.1) (plain_text b [] (no_quote b 64 sort.0 (λ same. cc) (λ same. cc)) (subst IsUtf8 sort.1 utf8))

span_text : (text : List ℕ) (token : Token) → IsUtf8 text → IsSpan text token → IsText (record { kind = token.kind; value = value_of (slice_range text token.from token.to) })
span_text text token utf8 span =
    value_text token.kind (slice_range text token.from token.to) (drop token.to text) span.sort
    (IsUtf8-between text token.from token.to utf8 (omega (arith, span.onward)) span.first_cut span.second_cut)

spans_text : (text : List ℕ) (at : ℕ) (tokens : List Token) → IsUtf8 text → AreSpans text at tokens → AllByRecursion IsText (lexemes_of text tokens)
spans_text text at [] utf8 spans = tt
spans_text text at (token ∷ tokens) utf8 spans = (span_text text token utf8 spans.2, spans_text text token.to tokens utf8 spans.3)

pub tokens_are_text : (text : List ℕ) (tokens : List Token) → IsUtf8 text → IsCut text tokens → AllByRecursion IsText (lexemes_of text tokens)
tokens_are_text text tokens utf8 cut = spans_text text 0 tokens utf8 (answers_spans text (Ok tokens) utf8 cut)
