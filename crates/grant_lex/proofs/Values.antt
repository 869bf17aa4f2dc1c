-- What stands between quotes, as a value.
use Rattle.std.proofs.Common.{◌≡◌, ◌≢◌, ◌⊎◌, ℕ, ◌+◌, ◌-◌, ◌<◌, ◌≤◌, Bool, true, false, not, eqb, ◌&&◌, cond, List, [], ◌∷◌, ◌++◌, length, get_or, take, drop, refl, sym, subst, ap, ◌∙◌, arith, append_assoc, length-append, length-take-le, take-append-drop, lit<, IsUtf8, inl, inr}
use Rattle.std.specs.List.{flat_map, AllByRecursion}
use Rattle.std.proofs.Math.Seq.{take-append_seam}
use Rattle.std.proofs.lemmas.List.{append-nil}
use Rattle.std.proofs.lemmas.Bool.Decides.{nat_tests}
use Rattle.std.proofs.lemmas.Str.{IsCharBoundary-before_ascii, IsUtf8-append, IsUtf8-take}
use Rattle.std.proofs.lemmas.Slice.{between_to_end}
use Rattle.grant_lex.specs.Class.{class_of, is_quote}
use Rattle.grant_lex.specs.Inside.{BeginsWithPiece, HasEscapes, IsNextInside, IsPiece, is_escaped, keeps_backslash, meaning, spelling}
use Rattle.grant_lex.specs.Next.{BeginsWithout}
use Rattle.grant_lex.specs.Value.{StandsForValue, inside_value, value_of}
use Rattle.grant_lex.specs.declared.class.Class.TheVariants.{Quote, Backquote}
use Rattle.grant_lex.specs.declared.inside.Inside.{Inside}
use Rattle.grant_lex.specs.declared.inside.Inside.TheVariants.{Next, Closing, BadPair, Open}
use Rattle.grant_lex.specs.declared.inside.Piece.{Piece}
use Rattle.grant_lex.specs.declared.inside.Piece.TheVariants.{Plain, Doubled, Escaped}
use Rattle.grant_lex.proofs.Classes.{sort_is_quote}
use Rattle.grant_lex.proofs.Quotes.{seam}
use Rattle.grant_lex.proofs.Spans.{ascii_unless_word, get_seam, utf8_past_ascii}
use Rattle.grant_lex.proofs.Unique.{not_backslash}

same_byte : (b : ℕ) → eqb b b ≡ true
same_byte b = grind (arith, nat_tests)

other_byte : (b c : ℕ) → b ≢ c → eqb b c ≡ false
other_byte b c differ = grind (arith, nat_tests)

-- a byte that stands for itself is neither the quote nor a backslash with a meaning
not_slash : (quote b : ℕ) → (HasEscapes quote → b ≢ 92) → (not (eqb quote 96) && eqb b 92) ≡ false
not_slash quote b plain = grind (arith, nat_tests)

slash : (quote : ℕ) → HasEscapes quote → not (eqb quote 96) ≡ true
slash quote escapes = grind (arith, nat_tests)

inside_plain : (quote b : ℕ) (rest : List ℕ) → IsPiece quote (Plain b) → inside_value quote (b ∷ rest) ≡ b ∷ inside_value quote rest
unfolding inside_value
inside_plain quote b [] piece = rw (other_byte b quote piece.0, not_slash quote b piece.1) refl
inside_plain quote b (c ∷ rest) piece = rw (other_byte b quote piece.0, not_slash quote b piece.1) refl

inside_doubled : (quote : ℕ) (rest : List ℕ) → inside_value quote (quote ∷ quote ∷ rest) ≡ quote ∷ inside_value quote rest
unfolding inside_value
inside_doubled quote rest = rw (same_byte quote) refl

inside_escaped : (quote b : ℕ) (rest : List ℕ) → quote ≢ 92 → IsPiece quote (Escaped b) → inside_value quote (92 ∷ b ∷ rest) ≡ meaning quote (Escaped b) ++ inside_value quote rest
unfolding inside_value
inside_escaped quote b rest differ piece = rw (other_byte 92 quote (λ e. differ (sym e)), slash quote piece.0, piece.1) refl

-- a piece means its part of the value
pub inside_piece : (quote : ℕ) (p : Piece) (rest : List ℕ) → quote ≢ 92 → IsPiece quote p → inside_value quote (spelling quote p ++ rest) ≡ meaning quote p ++ inside_value quote rest
inside_piece quote (Plain b) rest differ piece = inside_plain quote b rest piece
inside_piece quote Doubled rest differ piece = inside_doubled quote rest
inside_piece quote (Escaped b) rest differ piece = inside_escaped quote b rest differ piece

-- where no piece goes on, the value ends
closing_at : (quote : ℕ) (rest : List ℕ) → BeginsWithout (λ b. b ≡ quote) rest → inside_value quote (quote ∷ rest) ≡ []
unfolding inside_value
closing_at quote [] ends = rw (same_byte quote) refl
closing_at quote (c ∷ rest) ends = rw (same_byte quote, other_byte c quote ends) refl

bad_at : (quote second : ℕ) (rest : List ℕ) → quote ≢ 92 → HasEscapes quote → is_escaped second ≡ false → inside_value quote (92 ∷ second ∷ rest) ≡ []
unfolding inside_value
bad_at quote second rest differ escapes bad = rw (other_byte 92 quote (λ e. differ (sym e)), slash quote escapes, bad) refl

slash_at : (quote : ℕ) → quote ≢ 92 → HasEscapes quote → inside_value quote (92 ∷ []) ≡ []
unfolding inside_value
slash_at quote differ escapes = rw (other_byte 92 quote (λ e. differ (sym e)), slash quote escapes) refl

nothing_at : (quote : ℕ) → inside_value quote [] ≡ []
unfolding inside_value
nothing_at quote = refl

pub stop_value : (quote : ℕ) (bytes : List ℕ) (step : Inside) → quote ≢ 92 → IsNextInside quote bytes step → ((p : Piece) → step ≡ Next p → ⊥) → inside_value quote bytes ≡ []
stop_value quote bytes (Next p) differ next stops = absurd (stops p refl)
stop_value quote bytes Closing differ (rest, closes) stops = ap (inside_value quote) closes.whole ∙ closing_at quote rest closes.ends
stop_value quote bytes BadPair differ bad stops = ap (inside_value quote) bad.whole ∙ bad_at quote bad.second bad.rest differ bad.escapes bad.bad
stop_value quote bytes Open differ (inl nothing) stops = ap (inside_value quote) nothing ∙ nothing_at quote
stop_value quote bytes Open differ (inr end) stops = ap (inside_value quote) end.1 ∙ slash_at quote differ end.0

inside_pieces : (quote : ℕ) (ps : List Piece) (rest : List ℕ) → quote ≢ 92 → AllByRecursion (IsPiece quote) ps → inside_value quote (flat_map (spelling quote) ps ++ rest) ≡ flat_map (meaning quote) ps ++ inside_value quote rest
inside_pieces quote [] rest differ each = refl
inside_pieces quote (p ∷ ps) rest differ each =
    ap (inside_value quote) (append_assoc (spelling quote p) (flat_map (spelling quote) ps) rest)
    ∙ inside_piece quote p (flat_map (spelling quote) ps ++ rest) differ each.0
    ∙ ap (λ l. meaning quote p ++ l) (inside_pieces quote ps rest differ each.1)
    ∙ sym (append_assoc (meaning quote p) (flat_map (meaning quote) ps) (inside_value quote rest))

-- what a token stands for is its value
pub stands_for_value : (quote : ℕ) (inside value : List ℕ) → StandsForValue (quote ∷ inside) value → inside_value quote inside ≡ value
stands_for_value quote inside value stands =
    let differ = not_backslash stands.quote stands.sort in
    let same : quote ≡ stands.quote = cc (stands.opens.whole) in
    let whole : inside ≡ flat_map (spelling stands.quote) stands.pieces ++ stands.quote ∷ [] = cc (stands.opens.whole) in
    (λ i. inside_value (same i) (whole i))
    ∙ inside_pieces stands.quote stands.pieces (stands.quote ∷ []) differ stands.opens.each
    ∙ ap (λ l. flat_map (meaning stands.quote) stands.pieces ++ l) (closing_at stands.quote [] tt)
    ∙ append-nil (flat_map (meaning stands.quote) stands.pieces)
    ∙ sym stands.value_is

-- what stands before an ASCII byte of a text is a text
utf8_before_ascii : (front : List ℕ) (b : ℕ) (rest : List ℕ) → b < 128 → IsUtf8 (front ++ b ∷ rest) → IsUtf8 front
utf8_before_ascii front b rest ascii utf8 =
    let bytes : List ℕ = front ++ b ∷ rest in
    let there = get_seam front b rest in
    let size = length-append front (b ∷ rest) in
    let cut = IsCharBoundary-before_ascii bytes (length front) (omega arith) (omega arith) in
    subst IsUtf8 (take-append_seam front (b ∷ rest)) (IsUtf8-take bytes (length front) utf8 cut)

-- a text without one of its ASCII bytes is a text
utf8_without_ascii : (front : List ℕ) (b : ℕ) (rest : List ℕ) → b < 128 → IsUtf8 (front ++ b ∷ rest) → IsUtf8 (front ++ rest)
utf8_without_ascii front b rest ascii utf8 = IsUtf8-append front rest (utf8_before_ascii front b rest ascii utf8) (utf8_past_ascii front b rest ascii utf8)

escaped_text : (keeps : Bool) (value : List ℕ) (b : ℕ) (rest : List ℕ) → IsUtf8 (value ++ 92 ∷ b ∷ rest) → IsUtf8 ((value ++ cond keeps (92 ∷ b ∷ []) (b ∷ [])) ++ rest)
escaped_text true value b rest utf8 = subst IsUtf8 (sym (append_assoc value (92 ∷ b ∷ []) rest)) utf8
escaped_text false value b rest utf8 = subst IsUtf8 (sym (append_assoc value (b ∷ []) rest)) (utf8_without_ascii value 92 (b ∷ rest) (lit< tt) utf8)

piece_text : (quote : ℕ) (value : List ℕ) (p : Piece) (rest : List ℕ) → quote < 128 → IsUtf8 (value ++ (spelling quote p ++ rest)) → IsUtf8 ((value ++ meaning quote p) ++ rest)
piece_text quote value (Plain b) rest ascii utf8 = subst IsUtf8 (sym (append_assoc value (b ∷ []) rest)) utf8
piece_text quote value Doubled rest ascii utf8 = subst IsUtf8 (sym (append_assoc value (quote ∷ []) rest)) (utf8_without_ascii value quote (quote ∷ rest) ascii utf8)
piece_text quote value (Escaped b) rest ascii utf8 = escaped_text (keeps_backslash b) value b rest utf8

pub stop_text : (quote : ℕ) (value bytes : List ℕ) (step : Inside) → quote < 128 → IsNextInside quote bytes step → ((p : Piece) → step ≡ Next p → ⊥) → IsUtf8 (value ++ bytes) → IsUtf8 value
stop_text quote value bytes (Next p) ascii next stops utf8 = absurd (stops p refl)
stop_text quote value bytes Closing ascii (rest, closes) stops utf8 = utf8_before_ascii value quote rest ascii (subst (λ l. IsUtf8 (value ++ l)) closes.whole utf8)
stop_text quote value bytes BadPair ascii bad stops utf8 = utf8_before_ascii value 92 (bad.second ∷ bad.rest) (lit< tt) (subst (λ l. IsUtf8 (value ++ l)) bad.whole utf8)
stop_text quote value bytes Open ascii (inl nothing) stops utf8 = subst IsUtf8 (append-nil value) (subst (λ l. IsUtf8 (value ++ l)) nothing utf8)
stop_text quote value bytes Open ascii (inr end) stops utf8 = utf8_before_ascii value 92 [] (lit< tt) (subst (λ l. IsUtf8 (value ++ l)) end.1 utf8)

pub quote_ascii : (quote : ℕ) → (class_of quote ≡ Quote) ⊎ (class_of quote ≡ Backquote) → quote < 128
quote_ascii quote (inl sort) = ascii_unless_word quote Quote sort (λ e. cc)
quote_ascii quote (inr sort) = ascii_unless_word quote Backquote sort (λ e. cc)

-- the value of the first n bytes, where all of them are pieces
pub record IsValueSoFar (quote : ℕ) (inside : List ℕ) (n : ℕ) (value : List ℕ) : Type 0 where
  pub within : n ≤ length inside
  pub value_is : value ++ inside_value quote (drop n inside) ≡ inside_value quote inside
  pub text : IsUtf8 (value ++ drop n inside)

pub value_start : (quote : ℕ) (inside : List ℕ) → IsUtf8 inside → IsValueSoFar quote inside 0 []
value_start quote inside utf8 = record { within = omega arith; value_is = refl; text = utf8 }

pub value_more : (quote : ℕ) (inside : List ℕ) (n : ℕ) (value : List ℕ) (p : Piece) → quote ≢ 92 → quote < 128 → IsValueSoFar quote inside n value → BeginsWithPiece quote (drop n inside) p → IsValueSoFar quote inside (n + length (spelling quote p)) (value ++ meaning quote p)
value_more quote inside n value p differ ascii so_far goes =
    let parts : inside ≡ (take n inside ++ spelling quote p) ++ goes.rest =
    sym (take-append-drop n inside) ∙ ap (λ l. take n inside ++ l) goes.whole ∙ sym (append_assoc (take n inside) (spelling quote p) goes.rest) in
    let size : length (take n inside ++ spelling quote p) ≡ n + length (spelling quote p) =
    length-append (take n inside) (spelling quote p) ∙ ap (λ k. k + length (spelling quote p)) (length-take-le n inside so_far.within) in
    let left = seam inside (take n inside ++ spelling quote p) goes.rest (n + length (spelling quote p)) parts size in
    record {
      within = omega (arith, size, ap length parts, length-append (take n inside ++ spelling quote p) goes.rest);
      value_is = ap (λ l. (value ++ meaning quote p) ++ inside_value quote l) left
          ∙ append_assoc value (meaning quote p) (inside_value quote goes.rest)
          ∙ ap (λ l. value ++ l) (sym (inside_piece quote p goes.rest differ goes.allowed) ∙ ap (inside_value quote) (sym goes.whole))
          ∙ so_far.value_is;
      text = subst (λ l. IsUtf8 ((value ++ meaning quote p) ++ l)) (sym left) (piece_text quote value p goes.rest ascii (subst (λ l. IsUtf8 (value ++ l)) goes.whole so_far.text));
    }

pub value_end : (quote : ℕ) (inside : List ℕ) (n : ℕ) (value : List ℕ) (step : Inside) → quote ≢ 92 → IsValueSoFar quote inside n value → IsNextInside quote (drop n inside) step → ((p : Piece) → step ≡ Next p → ⊥) → value ≡ inside_value quote inside
value_end quote inside n value step differ so_far next stops =
    sym (append-nil value) ∙ ap (λ l. value ++ l) (sym (stop_value quote (drop n inside) step differ next stops)) ∙ so_far.value_is

pub quote_byte : (b : ℕ) → is_quote b ≡ true → b < 128
quote_byte b e = grind (arith, nat_tests)

pub value_meant : (text value : List ℕ) → StandsForValue text value → value_of text ≡ value
value_meant [] value stands = absurd (cc (stands.opens.whole))
value_meant (b ∷ inside) value stands =
    let same : b ≡ stands.quote = cc (stands.opens.whole) in
    let sort = subst (λ k. (class_of k ≡ Quote) ⊎ (class_of k ≡ Backquote)) (sym same) stands.sort in
    ap (λ test. cond test (inside_value b inside) (b ∷ inside)) (sort_is_quote b sort) ∙ stands_for_value b inside value stands

-- what follows the first byte of a text, where it is a quote
pub inside_text : (bytes : List ℕ) → 0 < length bytes → IsUtf8 bytes → is_quote (get_or bytes 0 0) ≡ true → IsUtf8 (take (length bytes - 1) (drop 1 bytes))
inside_text [] some utf8 quote = absurd (omega arith)
inside_text (b ∷ inside) some utf8 quote =
    subst IsUtf8 (sym (between_to_end (b ∷ inside) 1 (length (b ∷ inside)) (omega arith))) (utf8_past_ascii [] b inside (quote_byte b quote) utf8)
