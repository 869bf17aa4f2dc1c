-- The place of a refusal is one of the text, or its end.
use Rattle.std.proofs.Common.{◌≤◌, ℕ, zero, suc, List, [], ◌∷◌, length, drop, Ok, inl, inr, subst, sym, arith}
use Rattle.std.specs.Prelude.{All}
use Rattle.std.specs.Str.{IsUtf8}
use Rattle.std.proofs.lemmas.List.Elements.{All-head, All-tail}
use Rattle.grant_lex.proofs.Spans.{answers_each, answers_spans}
use Rattle.grant_lex.specs.Token.{IsCut, IsSpan}
use Rattle.grant_lex.specs.declared.sorts.Token.{Token}
use Rattle.grant_refusal.specs.declared.ParseRefusal.{ParseRefusal}
use Rattle.grant_refusal.specs.declared.ParseRefusal.TheVariants.{Limit, Syntax, WrongLevel, NoMemory}
use Rattle.grant_parse.specs.Texts.{IsSyntax, IsSyntaxRefusal, place_at}
use Rattle.grant_words.specs.declared.lexeme.Lexeme.{Lexeme}
use Rattle.script_commands.proofs.Fronts.{located}
use Rattle.script_lines.specs.Spelling.{IsPlaced}

place_at_within : (text : List ℕ) (ts : List Token) (n : ℕ) → All (IsSpan text) ts → place_at (length text) (drop n ts) ≤ length text
place_at_within text [] zero all = omega arith
place_at_within text [] (suc n) all = omega arith
place_at_within text (t ∷ ts) zero all = let here : IsSpan text t = All-head (IsSpan text) t ts all in omega (arith, here.onward, here.within)
place_at_within text (t ∷ ts) (suc n) all = place_at_within text ts n (All-tail (IsSpan text) t ts all)

spans_of : (text : List ℕ) (tokens : List Token) → IsUtf8 text → IsCut text tokens → All (IsSpan text) tokens
spans_of text tokens utf8 cut = answers_each text (Ok tokens) (answers_spans text (Ok tokens) utf8 cut)

offset_within : {M : Type 0} (P : List Lexeme → M → Type 0) (text : List ℕ) (offset : ℕ) → IsUtf8 text → IsSyntax P text offset → offset ≤ length text
offset_within P text offset utf8 (inl bad) = let below = (located text offset bad).ascii.within in omega arith
offset_within P text offset utf8 (inr (tokens, cut, bad, refused, place)) =
    let Q : ℕ → Type 0 = λ n. n ≤ length text in
    subst Q (sym place) (place_at_within text tokens _ (spans_of text tokens utf8 cut))

pub syntax_placed : {M : Type 0} (P : List Lexeme → M → Type 0) (text : List ℕ) (refusal : ParseRefusal) → IsUtf8 text → IsSyntaxRefusal P text refusal → IsPlaced text refusal
syntax_placed P text Limit utf8 h = tt
syntax_placed P text (Syntax offset) utf8 h = offset_within P text offset utf8 h
syntax_placed P text (WrongLevel privilege) utf8 h = tt
syntax_placed P text NoMemory utf8 h = tt
