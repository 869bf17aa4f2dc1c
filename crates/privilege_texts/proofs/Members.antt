-- Tokens part by part, and lists member by member.
use Rattle.std.proofs.Common.{◌≡◌, sym, ap, subst, Bool, true, List, [], ◌∷◌, ◌++◌, append-nil}
use Rattle.std.proofs.lemmas.Bool.{and_parts}
use Rattle.std.specs.List.{list_all}
use Rattle.acl_grammar.specs.Spelling.{separated}
use Rattle.canonical_texts.proofs.Lexemes.{comma_is, lexemes_append}
use Rattle.canonical_texts.specs.Tokens.{list_tokens, mark}
use Rattle.grant_lex.specs.Printed.{Printed}
use Rattle.grant_words.specs.Classes.{is}
use Rattle.grant_words.specs.Lexemes.{printed_lexeme, printed_lexemes}
use Rattle.grant_words.specs.Lists.{comma}
use Rattle.grant_words.specs.declared.lexeme.Lexeme.{Lexeme}

-- members that spell values, one by one
abbrev pub EachSpells : {X A : Type 0} → (X → A → Type 0) → List X → List A → Type 0
EachSpells P [] [] = Unit {0}
EachSpells P [] (v ∷ vs) = ⊥
EachSpells P (x ∷ xs) [] = ⊥
EachSpells P (x ∷ xs) (v ∷ vs) = P x v × EachSpells P xs vs

pub each_append : {X A : Type 0} (P : X → A → Type 0) (xs ys : List X) (vs ws : List A) → EachSpells P xs vs → EachSpells P ys ws → EachSpells P (xs ++ ys) (vs ++ ws)
each_append P [] ys [] ws h k = k
each_append P [] ys (v ∷ vs) ws h k = absurd h
each_append P (x ∷ xs) ys [] ws h k = absurd h
each_append P (x ∷ xs) ys (v ∷ vs) ws h k = (h.0, each_append P xs ys vs ws h.1 k)

-- members that pass a test, and stand for themselves
pub each_kept : {A : Type 0} (P : A → A → Type 0) (test : A → Bool) → ((x : A) → test x ≡ true → P x x) → (xs : List A) → list_all test xs ≡ true → EachSpells P xs xs
each_kept P test one [] keep = tt
each_kept P test one (x ∷ xs) keep = let parts = and_parts (test x) (list_all test xs) keep in (one x parts.0, each_kept P test one xs parts.1)

-- the members with commas between them
pub list_spelled : {X A : Type 0} (print : X → List Printed) (P : List Lexeme → A → Type 0) (x : X) (xs : List X) (v : A) (vs : List A)
    → EachSpells (λ y w. P (printed_lexemes (print y)) w) (x ∷ xs) (v ∷ vs) → separated (is comma) P (printed_lexemes (list_tokens print (x ∷ xs))) (v ∷ vs)
list_spelled print P x [] v [] h = subst (λ tokens. P tokens v) (sym (ap printed_lexemes (append-nil (print x)))) h.0
list_spelled print P x [] v (w ∷ vs) h = absurd h.1
list_spelled print P x (y ∷ xs) v [] h = absurd h.1
list_spelled print P x (y ∷ xs) v (w ∷ vs) h = (
  printed_lexemes (print x),
  printed_lexeme (mark 44),
  printed_lexemes (list_tokens print (y ∷ xs)),
  lexemes_append (print x) (mark 44 ∷ list_tokens print (y ∷ xs)),
  comma_is,
  h.0,
  list_spelled print P y xs w vs h.1,
)
