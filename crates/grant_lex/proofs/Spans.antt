-- Tokens as slices of their text.
use Rattle.std.proofs.Common.{◌≡◌, ℕ, ◌+◌, ◌-◌, ◌<◌, ◌≤◌, List, [], ◌∷◌, ◌++◌, Result, Ok, Err, IfOk, None, length, get_or, take, drop, refl, sym, subst, ap, ◌∙◌, arith, append_assoc, length-append, IsUtf8, ⊎_elim}
use Rattle.std.specs.Prelude.{All, slice_range}
use Rattle.std.specs.List.{flat_map, AllByRecursion}
use Rattle.std.specs.Str.{IsCharBoundary}
use Rattle.std.proofs.Math.Seq.{drop-append_seam, take-append_seam}
use Rattle.std.proofs.str.Laws.{order}
use Rattle.std.proofs.lemmas.Bool.Decides.{nat_tests}
use Rattle.std.proofs.lemmas.List.Elements.{All-from_recursion}
use Rattle.std.proofs.lemmas.Str.{IsCharBoundary-after_ascii, IsCharBoundary-at_seam, IsCharBoundary-before_ascii, IsUtf8-drop, IsUtf8-nil}
use Rattle.grant_lex.specs.Class.{class_of}
use Rattle.grant_lex.specs.Inside.{spelling}
use Rattle.grant_lex.specs.Next.{BeginsWithout, IsOf}
use Rattle.grant_lex.specs.Token.{AreSpans, IsCut, IsOfSort, IsQuoted, IsSpan, Reads}
use Rattle.grant_lex.specs.declared.class.Class.{Class}
use Rattle.grant_lex.specs.declared.class.Class.TheVariants as classes
use Rattle.grant_lex.specs.declared.refusal.LexRefusal.{LexRefusal}
use Rattle.grant_lex.specs.declared.sorts.Kind.{Kind}
use Rattle.grant_lex.specs.declared.sorts.Kind.TheVariants.{Word, Quoted, Backquoted, Mark}
use Rattle.grant_lex.specs.declared.sorts.Token.{Token}
use Rattle.grant_lex.proofs.Cuts.{sort_some}
use Rattle.grant_lex.proofs.Quotes.{seam}

past_ascii_is_word : (b : ℕ) → 128 ≤ b → class_of b ≡ classes.Word
past_ascii_is_word b past = grind (arith, nat_tests)

pub ascii_unless_word : (b : ℕ) (class : Class) → class_of b ≡ class → (class ≡ classes.Word → ⊥) → b < 128
ascii_unless_word b class sort other =
    ⊎_elim (λ past. absurd (other (sym sort ∙ past_ascii_is_word b (omega arith)))) (λ below. omega arith) (order 127 b)

pub get_seam : (front : List ℕ) (b : ℕ) (rest : List ℕ) → get_or (front ++ b ∷ rest) (length front) 0 ≡ b
get_seam [] b rest = refl
get_seam (x ∷ front) b rest = get_seam front b rest

-- what follows an ASCII byte of a text is a text
pub utf8_past_ascii : (front : List ℕ) (b : ℕ) (rest : List ℕ) → b < 128 → IsUtf8 (front ++ b ∷ rest) → IsUtf8 rest
utf8_past_ascii front b rest ascii utf8 =
    let bytes : List ℕ = front ++ b ∷ rest in
    let there = get_seam front b rest in
    let size = length-append front (b ∷ rest) in
    let cut = IsCharBoundary-after_ascii bytes (length front) utf8 (omega arith) (omega arith) in
    let regroup : bytes ≡ (front ++ b ∷ []) ++ rest = sym (append_assoc front (b ∷ []) rest) in
    subst IsUtf8 (seam bytes (front ++ b ∷ []) rest (length front + 1) regroup (length-append front (b ∷ []))) (IsUtf8-drop bytes (length front + 1) utf8 cut)

-- from an ASCII byte on a text is a text
utf8_from_ascii : (front : List ℕ) (b : ℕ) (rest : List ℕ) → b < 128 → IsUtf8 (front ++ b ∷ rest) → IsUtf8 (b ∷ rest)
utf8_from_ascii front b rest ascii utf8 =
    let bytes : List ℕ = front ++ b ∷ rest in
    let there = get_seam front b rest in
    let size = length-append front (b ∷ rest) in
    let cut = IsCharBoundary-before_ascii bytes (length front) (omega arith) (omega arith) in
    subst IsUtf8 (drop-append_seam front (b ∷ rest)) (IsUtf8-drop bytes (length front) utf8 cut)

utf8_past_blanks : (blanks rest : List ℕ) → AllByRecursion (IsOf classes.Blank) blanks → IsUtf8 (blanks ++ rest) → IsUtf8 rest
utf8_past_blanks [] rest each utf8 = utf8
utf8_past_blanks (b ∷ blanks) rest each utf8 =
    utf8_past_blanks blanks rest each.1 (utf8_past_ascii [] b (blanks ++ rest) (ascii_unless_word b classes.Blank each.0 (λ e. cc)) utf8)

utf8_past_word : (text rest : List ℕ) → BeginsWithout (IsOf classes.Word) rest → IsUtf8 (text ++ rest) → IsUtf8 rest
utf8_past_word text [] ends utf8 = IsUtf8-nil
utf8_past_word text (b ∷ rest) ends utf8 = utf8_from_ascii text b rest (ascii_unless_word b (class_of b) refl ends) utf8

utf8_past_quoted : (class : Class) (text rest : List ℕ) → (class ≡ classes.Word → ⊥) → IsQuoted class text rest → IsUtf8 (text ++ rest) → IsUtf8 rest
utf8_past_quoted class text rest other quoted utf8 =
    let inner : List ℕ = flat_map (spelling quoted.quote) quoted.pieces in
    let whole : text ++ rest ≡ (quoted.quote ∷ inner) ++ quoted.quote ∷ rest =
    ap (λ l. l ++ rest) quoted.opens.whole ∙ ap (λ l. quoted.quote ∷ l) (append_assoc inner (quoted.quote ∷ []) rest) in
    utf8_past_ascii (quoted.quote ∷ inner) quoted.quote rest (ascii_unless_word quoted.quote class quoted.sort other) (subst IsUtf8 whole utf8)

utf8_past_token : (kind : Kind) (text rest : List ℕ) → IsOfSort kind text rest → IsUtf8 (text ++ rest) → IsUtf8 rest
utf8_past_token Word text rest sort utf8 = utf8_past_word text rest sort.ends utf8
utf8_past_token Quoted text rest sort utf8 = utf8_past_quoted classes.Quote text rest (λ e. cc) sort utf8
utf8_past_token Backquoted text rest sort utf8 = utf8_past_quoted classes.Backquote text rest (λ e. cc) sort utf8
utf8_past_token (Mark b) text rest sort utf8 =
    utf8_past_ascii [] b rest (ascii_unless_word b classes.Mark sort.0 (λ e. cc)) (subst IsUtf8 (ap (λ l. l ++ rest) sort.1) utf8)

take_seam : (mid rest : List ℕ) (n : ℕ) → length mid ≡ n → take n (mid ++ rest) ≡ mid
take_seam mid rest n size = ap (λ k. take k (mid ++ rest)) (sym size) ∙ take-append_seam mid rest

-- what stands between two offsets
between : (text front mid rest : List ℕ) (a b : ℕ) → text ≡ front ++ (mid ++ rest) → length front ≡ a → a + length mid ≡ b → slice_range text a b ≡ mid
between text front mid rest a b whole first second =
    ap (take (b - a)) (seam text front (mid ++ rest) a whole first) ∙ take_seam mid rest (b - a) (omega arith)

spans_from : (text front bytes : List ℕ) (at : ℕ) (ts : List Token) → text ≡ front ++ bytes → length front ≡ at → IsUtf8 bytes → Reads at bytes ts None → AreSpans text at ts
spans_from text front bytes at [] whole size utf8 reads = subst (AllByRecursion (IsOf classes.Blank)) (sym (seam text front bytes at whole size)) reads
spans_from text front bytes at (t ∷ ts) whole size utf8 (rest, step, reads) =
    let more_utf8 = utf8_past_blanks step.blanks step.rest step.each (subst IsUtf8 step.whole utf8) in
    let rest_utf8 = utf8_past_token t.kind step.next.text rest step.next.sort (subst IsUtf8 step.next.whole more_utf8) in
    let first : List ℕ = front ++ step.blanks in
    let second : List ℕ = first ++ step.next.text in
    let some = sort_some t.kind step.next.text rest step.next.sort in
    let first_size : length first ≡ t.from = length-append front step.blanks ∙ ap (λ k. k + length step.blanks) size ∙ sym step.next.begins in
    let second_size : length second ≡ t.to = length-append first step.next.text ∙ omega (arith, first_size, step.next.begins, step.next.ends) in
    let to_blanks : text ≡ front ++ (step.blanks ++ step.rest) = whole ∙ ap (λ l. front ++ l) step.whole in
    let at_first : text ≡ first ++ step.rest = to_blanks ∙ sym (append_assoc front step.blanks step.rest) in
    let at_text : text ≡ first ++ (step.next.text ++ rest) = at_first ∙ ap (λ l. first ++ l) step.next.whole in
    let at_second : text ≡ second ++ rest = at_text ∙ sym (append_assoc first step.next.text rest) in
    let slice = between text first step.next.text rest t.from t.to at_text first_size (omega (arith, step.next.begins, step.next.ends)) in
    let behind = seam text second rest t.to at_second second_size in (
      omega (arith, step.next.begins),
      subst (AllByRecursion (IsOf classes.Blank)) (sym (between text front step.blanks step.rest at t.from to_blanks size (sym step.next.begins))) step.each,
      record {
        onward = omega (arith, step.next.begins, step.next.ends);
        within = omega (arith, ap length at_second, length-append second rest);
        first_cut = subst (IsCharBoundary text) first_size (IsCharBoundary-at_seam text first step.rest at_first more_utf8);
        second_cut = subst (IsCharBoundary text) second_size (IsCharBoundary-at_seam text second rest at_second rest_utf8);
        sort = subst (λ l. IsOfSort t.kind l (drop t.to text)) (sym slice) (subst (IsOfSort t.kind step.next.text) (sym behind) step.next.sort);
      },
      spans_from text second rest t.to ts at_second second_size rest_utf8 reads,
    )

each_span : (text : List ℕ) (at : ℕ) (ts : List Token) → AreSpans text at ts → AllByRecursion (IsSpan text) ts
each_span text at [] spans = tt
each_span text at (t ∷ ts) spans = (spans.2, each_span text t.to ts spans.3)

pub answers_spans : (text : List ℕ) (r : Result (List Token) LexRefusal) → IsUtf8 text → IfOk r (λ ts. IsCut text ts) → IfOk r (λ ts. AreSpans text 0 ts)
answers_spans text (Ok ts) utf8 cut = spans_from text [] text 0 ts refl refl utf8 cut
answers_spans text (Err _) utf8 cut = tt

pub answers_each : (text : List ℕ) (r : Result (List Token) LexRefusal) → IfOk r (λ ts. AreSpans text 0 ts) → IfOk r (λ ts. All (IsSpan text) ts)
answers_each text (Ok ts) spans = All-from_recursion (IsSpan text) ts (each_span text 0 ts spans)
answers_each text (Err _) spans = tt
