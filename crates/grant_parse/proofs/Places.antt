-- What is refused of the tokens of a text is no more than all of them.
use Rattle.std.proofs.Common.{◌≡◌, ◌≤◌, ◌+◌, List, ℕ, length, length-append, ap, ◌∙◌, arith}
use Rattle.std.proofs.lemmas.List.{length-map}
use Rattle.acl_grammar.specs.Spelling.{Refused}
use Rattle.grant_lex.specs.declared.sorts.Token.{Token}
use Rattle.grant_words.specs.Lexemes.{lexeme_of, lexemes_of}
use Rattle.grant_words.specs.declared.lexeme.Lexeme.{Lexeme}

pub within_tokens : {M : Type 0} (P : List Lexeme → M → Type 0) (text : List ℕ) (tokens : List Token) (lexemes bad : List Lexeme)
    → lexemes ≡ lexemes_of text tokens → Refused P lexemes bad → length bad ≤ length tokens
within_tokens P text tokens lexemes bad same refused =
    let whole : length lexemes ≡ length refused.front + length bad = ap length refused.whole ∙ length-append refused.front bad in
    let many : length lexemes ≡ length tokens = ap length same ∙ length-map tokens (lexeme_of text) in
    omega arith
