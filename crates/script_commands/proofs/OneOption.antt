-- A text has one option AT at most. Nothing here leads to what is known of code, so that definitions may cite it.
use Rattle.std.proofs.Common.{◌≡◌, ◌+◌, ◌-◌, ℕ, Bool, IsTrue, true, false, List, [], ◌∷◌, ◌++◌, Option, Some, Ok, Err, cond, length, drop, map, refl, sym, ap, ◌∙◌, subst, arith, length-append}
use Rattle.std.proofs.lemmas.List.{map-append}
use Rattle.acl_grammar.proofs.Theorem.{exact}
use Rattle.acl_grammar.specs.Reader.{expected, goes_on, read}
use Rattle.grant_lex.proofs.Unique.{longest_same, reads_same}
use Rattle.grant_lex.specs.Next.{IsBlank}
use Rattle.grant_lex.specs.Token.{PastBlanks, Reads}
use Rattle.grant_lex.specs.declared.refusal.LexRefusal.{LexRefusal}
use Rattle.grant_lex.specs.declared.sorts.Token.{Token}
use Rattle.grant_words.specs.Classes.{is}
use Rattle.grant_words.specs.Lexemes.{lexeme_of, lexemes_of}
use Rattle.grant_words.proofs.Sanity.{follow_within, follows, one_apart}
use Rattle.grant_words.specs.Syntax.{grammar_of}
use Rattle.grant_words.specs.declared.lexeme.Lexeme.{Lexeme}
use Rattle.script_commands.specs.Commands.{client, client_name, client_text, connect, connection, password}
use Rattle.script_commands.specs.Moments.{HasMoment, IsMomentAt, at_word, left_behind, option_of}
use Rattle.script_commands.specs.Sanity.{connect_sane}
use Rattle.script_commands.specs.declared.command.Connect.{Connect}

-- no CONNECT goes on with the word AT
at_apart : (t : Lexeme) → IsTrue (is at_word t) → goes_on (grammar_of connect) t ≡ false
unfolding client_text client_name client password connection connect
at_apart t h = step (goes_on (grammar_of connect) t) refl
  where
    step : (b : Bool) → goes_on (grammar_of connect) t ≡ b → b ≡ false
    step true e = absurd (one_apart at_word (follows connect) t refl h (follow_within connect t e))
    step false e = refl

pub same_length : {X Y : Type 0} (f : X → Y) (xs : List X) → length (map f xs) ≡ length xs
same_length f [] = refl
same_length f (x ∷ xs) = omega (arith, same_length f xs)

-- behind blanks one moment begins
pub past_same : (at : ℕ) (xs : List ℕ) (place other : ℕ) → PastBlanks (IsMomentAt place) at xs → PastBlanks (IsMomentAt other) at xs → place ≡ other
past_same at xs place other a b =
    let same = longest_same IsBlank a.blanks b.blanks a.rest b.rest (sym a.whole ∙ b.whole) a.each b.each a.next.1 b.next.1 in
    sym a.next.0 ∙ ap (λ (l : List ℕ). at + length l) same.0 ∙ b.next.0

at_chosen : (made : Connect) (word : Lexeme) (rest : List Lexeme) → IsTrue (is at_word word)
    → left_behind made (expected (is at_word) (word ∷ rest)) ≡ Some (made, length rest)
at_chosen made word rest h = ap (λ (b : Bool). left_behind made (cond b (Ok rest) (Err (word ∷ rest)))) h

-- an option is found
pub is_found : (text : List ℕ) (ts : List Token) (end : Option LexRefusal) → Reads 0 text ts end → (made : Connect) (place : ℕ) → (h : HasMoment text made place)
    → option_of (read (grammar_of connect) (lexemes_of text ts)) ≡ Some (made, length h.more)
is_found text ts end reads made place h =
    let same : ts ≡ h.tokens ++ h.option ∷ h.more = (reads_same 0 text ts (h.tokens ++ h.option ∷ h.more) end h.end reads h.reads).tokens in
    let word : Lexeme = lexeme_of text h.option in
    let rest : List Lexeme = lexemes_of text h.more in
    let parts : lexemes_of text ts ≡ lexemes_of text h.tokens ++ word ∷ rest =
    ap (lexemes_of text) same ∙ map-append (lexeme_of text) h.tokens (h.option ∷ h.more) in
    let all : read (grammar_of connect) (lexemes_of text h.tokens ++ word ∷ rest) ≡ Ok (made, word ∷ rest) =
    (exact (grammar_of connect) connect_sane).all (lexemes_of text h.tokens) made (word ∷ rest) h.spelled (at_apart word h.is_at) in
    ap (λ (l : List Lexeme). option_of (read (grammar_of connect) l)) parts ∙ ap option_of all ∙ at_chosen made word rest h.is_at
    ∙ ap (λ (n : ℕ). Some (made, n)) (same_length (lexeme_of text) h.more)

-- the element before as many others is one
pub split_same : {X : Type 0} (xs ys : List X) (x y : X) (us vs : List X) → xs ++ x ∷ us ≡ ys ++ y ∷ vs → length us ≡ length vs → x ≡ y
split_same [] [] x y us vs e h = cc
split_same [] (b ∷ ys) x y us vs e h = absurd (longer)
  where
    longer : ⊥
    longer = let tail : us ≡ ys ++ y ∷ vs = cc in omega (arith, ap length tail, length-append ys (y ∷ vs), h)
split_same (a ∷ xs) [] x y us vs e h = absurd (longer)
  where
    longer : ⊥
    longer = let tail : xs ++ x ∷ us ≡ vs = cc in omega (arith, ap length tail, length-append xs (x ∷ us), h)
split_same (a ∷ xs) (b ∷ ys) x y us vs e h = split_same xs ys x y us vs (cc) h

-- a text has one option AT at most
pub option_once : (text : List ℕ) (made other : Connect) (place place' : ℕ) → HasMoment text made place → HasMoment text other place' → (made ≡ other) × (place ≡ place')
option_once text made other place place' h k =
    let ts : List Token = h.tokens ++ h.option ∷ h.more in
    let first = is_found text ts h.end h.reads made place h in
    let second = is_found text ts h.end h.reads other place' k in
    let both : Some (made, length h.more) ≡ Some (other, length k.more) = sym first ∙ second in
    let pair : (made, length h.more) ≡ (other, length k.more) = cc in
    let same : ts ≡ k.tokens ++ k.option ∷ k.more = (reads_same 0 text ts (k.tokens ++ k.option ∷ k.more) h.end k.end h.reads k.reads).tokens in
    let option : h.option ≡ k.option = split_same h.tokens k.tokens h.option k.option h.more k.more same (ap (λ (p : Connect × ℕ). p.1) pair) in (
      ap (λ (p : Connect × ℕ). p.0) pair,
      past_same h.option.to (drop h.option.to text) place place' h.behind
          (subst (λ (t : Token). PastBlanks (IsMomentAt place') t.to (drop t.to text)) (sym option) k.behind),
    )
