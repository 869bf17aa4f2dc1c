-- Tokens of the front of a text, seen as tokens of the whole text.
use Rattle.std.proofs.Common.{◌≡◌, ◌+◌, ◌-◌, ◌≤◌, ℕ, zero, suc, List, [], ◌∷◌, ◌++◌, length, take, drop, IsUtf8, refl, sym, ap, ◌∙◌, subst, arith, length-append}
use Rattle.std.specs.Prelude.{All, slice_range}
use Rattle.std.specs.Str.{IsCharBoundary}
use Rattle.std.proofs.lemmas.List.Elements.{All-head, All-tail, All-nil, All-cons}
use Rattle.std.proofs.lemmas.Str.{IsCharBoundary-from_take, IsUtf8-take}
use Rattle.grant_lex.specs.Token.{IsSpan}
use Rattle.grant_lex.specs.declared.sorts.Token.{Token}
use Rattle.grant_words.specs.Lexemes.{lexeme_of, lexemes_of}
use Rattle.grant_lex.specs.Value.{value_of}

take_front : (front rest : List ℕ) (n : ℕ) → n ≤ length front → take n (front ++ rest) ≡ take n front
take_front [] rest zero h = refl
take_front [] rest (suc n) h = absurd (omega (arith, h))
take_front (x ∷ front) rest zero h = refl
take_front (x ∷ front) rest (suc n) h = ap (λ l. x ∷ l) (take_front front rest n (omega (arith, h)))

drop_front : (front rest : List ℕ) (n : ℕ) → n ≤ length front → drop n (front ++ rest) ≡ drop n front ++ rest
drop_front [] rest zero h = refl
drop_front [] rest (suc n) h = absurd (omega (arith, h))
drop_front (x ∷ front) rest zero h = refl
drop_front (x ∷ front) rest (suc n) h = drop_front front rest n (omega (arith, h))

length_drop : (xs : List ℕ) (n : ℕ) → length (drop n xs) ≡ length xs - n
length_drop [] zero = omega arith
length_drop [] (suc n) = omega arith
length_drop (x ∷ xs) zero = omega arith
length_drop (x ∷ xs) (suc n) = length_drop xs n ∙ omega arith

slice_front : (front rest : List ℕ) (a b : ℕ) → a ≤ b → b ≤ length front → slice_range (front ++ rest) a b ≡ slice_range front a b
slice_front front rest a b h k =
    ap (take (b - a)) (drop_front front rest a (omega arith))
    ∙ take_front (drop a front) rest (b - a) (omega (arith, length_drop front a))

lexeme_front : (text front rest : List ℕ) (t : Token) → text ≡ front ++ rest → IsSpan front t → lexeme_of front t ≡ lexeme_of text t
lexeme_front text front rest t whole span =
    let same : slice_range text t.from t.to ≡ slice_range front t.from t.to =
    ap (λ (l : List ℕ). slice_range l t.from t.to) whole ∙ slice_front front rest t.from t.to (omega (arith, span.onward)) span.within in
    λ i. record { kind = t.kind; value = value_of (sym same i) }

pub lexemes_front : (text front rest : List ℕ) (ts : List Token) → text ≡ front ++ rest → All (IsSpan front) ts → lexemes_of front ts ≡ lexemes_of text ts
lexemes_front text front rest [] whole spans = refl
lexemes_front text front rest (t ∷ ts) whole spans =
    let here = lexeme_front text front rest t whole (All-head (IsSpan front) t ts spans) in
    let more = lexemes_front text front rest ts whole (All-tail (IsSpan front) t ts spans) in
    λ i. here i ∷ more i

end_cut : (text front rest : List ℕ) (t : Token) → text ≡ front ++ rest → IsUtf8 text → IsUtf8 front → IsSpan front t → IsCharBoundary text t.to
end_cut text front rest t whole utf8 front_utf8 span =
    let sizes : length text ≡ length front + length rest = ap length whole ∙ length-append front rest in
    let same : take t.to text ≡ take t.to front = ap (take t.to) whole ∙ take_front front rest t.to span.within in
    IsCharBoundary-from_take text t.to utf8 (omega (arith, span.within)) (subst IsUtf8 (sym same) (IsUtf8-take front t.to front_utf8 span.second_cut))

pub ends_cut : (text front rest : List ℕ) (ts : List Token) → text ≡ front ++ rest → IsUtf8 text → IsUtf8 front → All (IsSpan front) ts
    → All (λ t. IsCharBoundary text t.to) ts
ends_cut text front rest [] whole utf8 front_utf8 spans = All-nil (λ t. IsCharBoundary text t.to)
ends_cut text front rest (t ∷ ts) whole utf8 front_utf8 spans =
    All-cons (λ (u : Token). IsCharBoundary text u.to) t ts (end_cut text front rest t whole utf8 front_utf8 (All-head (IsSpan front) t ts spans))
    (ends_cut text front rest ts whole utf8 front_utf8 (All-tail (IsSpan front) t ts spans))
