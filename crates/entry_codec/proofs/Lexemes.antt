-- The tokens of a text that is written token by token stand for what the written tokens stand for.
use Rattle.std.proofs.Common.{◌≡◌, ◌+◌, ◌-◌, ℕ, List, [], ◌∷◌, ◌++◌, length, take, drop, append_assoc, length-append, refl, sym, ap, ◌∙◌, arith}
use Rattle.std.proofs.Math.Seq.{drop-append-add, drop-append_seam, take-append_seam}
use Rattle.std.specs.Prelude.{slice_range}
use Rattle.acl_stmt.specs.declared.statement.Statement.{Statement}
use Rattle.canonical_texts.proofs.TokenTexts.{tokens_text}
use Rattle.canonical_texts.specs.Lexemes.{canonical_lexemes}
use Rattle.canonical_texts.specs.StatementTokens.{canonical_tokens}
use Rattle.canonical_texts.specs.Statements.{canonical_text}
use Rattle.grant_lex.specs.Printed.{Printed, printed, tokens_of}
use Rattle.grant_lex.specs.Value.{value_of}
use Rattle.grant_words.specs.Lexemes.{printed_lexeme, printed_lexemes}
use Rattle.grant_words.specs.Lexemes.{lexemes_of}
use Rattle.grant_words.specs.declared.lexeme.Lexeme.{Lexeme}

-- a part of a text, from its place
part : (before blanks text rest : List ℕ)
    → slice_range (before ++ (blanks ++ (text ++ rest))) (length before + length blanks) (length before + length blanks + length text) ≡ text
part before blanks text rest =
    let size : length before + length blanks + length text - (length before + length blanks) ≡ length text = omega arith in
    let left : drop (length before + length blanks) (before ++ (blanks ++ (text ++ rest))) ≡ text ++ rest =
    drop-append-add before (blanks ++ (text ++ rest)) (length blanks) ∙ drop-append_seam blanks (text ++ rest) in
    ap (λ n. take n (drop (length before + length blanks) (before ++ (blanks ++ (text ++ rest))))) size
    ∙ ap (take (length text)) left ∙ take-append_seam text rest

in_three : (before blanks text rest : List ℕ) → (before ++ (blanks ++ text)) ++ rest ≡ before ++ (blanks ++ (text ++ rest))
in_three before blanks text rest = simp append_assoc

three_long : (before blanks text : List ℕ) → length (before ++ (blanks ++ text)) ≡ length before + length blanks + length text
three_long before blanks text = simp length-append (omega arith)

lexemes_behind : (before : List ℕ) (ps : List Printed) → lexemes_of (before ++ printed ps) (tokens_of (length before) ps) ≡ printed_lexemes ps
lexemes_behind before [] = refl
lexemes_behind before (p ∷ ps) =
    let behind : List ℕ = before ++ (p.blanks ++ p.text) in
    let same : lexemes_of (before ++ (p.blanks ++ (p.text ++ printed ps))) (tokens_of (length before + length p.blanks + length p.text) ps)
    ≡ lexemes_of (behind ++ printed ps) (tokens_of (length behind) ps) =
    ap (λ l. lexemes_of l (tokens_of (length before + length p.blanks + length p.text) ps)) (sym (in_three before p.blanks p.text (printed ps)))
    ∙ ap (λ n. lexemes_of (behind ++ printed ps) (tokens_of n ps)) (sym (three_long before p.blanks p.text)) in
    let value = ap value_of (part before p.blanks p.text (printed ps)) in
    ap (λ v. let made : Lexeme = record { kind = p.kind; value = v } in made ∷ lexemes_of (before ++ (p.blanks ++ (p.text ++ printed ps))) (tokens_of (length before + length p.blanks + length p.text) ps)) value
    ∙ ap (λ l. printed_lexeme p ∷ l) (same ∙ lexemes_behind behind ps)

-- the tokens of a canonical text
pub canonical_read : (s : Statement) → lexemes_of (canonical_text s) (tokens_of 0 (canonical_tokens s)) ≡ canonical_lexemes s
canonical_read s = ap (λ l. lexemes_of l (tokens_of 0 (canonical_tokens s))) (sym (tokens_text s)) ∙ lexemes_behind [] (canonical_tokens s)
