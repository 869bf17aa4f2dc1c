-- Lists are read as they are written.
use Rattle.std.proofs.Common.{◌≡◌, List, [], ◌∷◌, ◌++◌, append-nil, append_assoc, sym, ap, subst, ◌∙◌}
use Rattle.acl_grammar.specs.Spelling.{repeated, separated}
use Rattle.canonical_texts.proofs.Lexemes.{comma_is, lexemes_append}
use Rattle.canonical_texts.specs.Tokens.{list_tokens, mark}
use Rattle.grant_lex.specs.Printed.{Printed}
use Rattle.grant_words.specs.Classes.{is}
use Rattle.grant_words.specs.Lexemes.{printed_lexeme, printed_lexemes}
use Rattle.grant_words.specs.Lists.{comma}
use Rattle.grant_words.specs.declared.lexeme.Lexeme.{Lexeme}

-- where each member is read as it is written, so is the list
pub list_again : {A : Type 0} (P : List Lexeme → A → Type 0) (print : A → List Printed)
    → ((ts : List Lexeme) (v : A) → P ts v → P (printed_lexemes (print v)) v)
    → (vs : List A) (ts : List Lexeme) → separated (is comma) P ts vs → separated (is comma) P (printed_lexemes (list_tokens print vs)) vs
list_again P print again [] ts k = absurd k
list_again P print again (v ∷ []) ts k =
    subst (λ l. P (printed_lexemes l) v) (sym (append-nil (print v))) (again ts v k)
list_again P print again (v ∷ w ∷ vs) ts (us, t, ws, cut, h, k, more) = (
  printed_lexemes (print v),
  printed_lexeme (mark 44),
  printed_lexemes (list_tokens print (w ∷ vs)),
  lexemes_append (print v) (mark 44 ∷ list_tokens print (w ∷ vs)),
  comma_is,
  again us v k,
  list_again P print again (w ∷ vs) ws more,
)

-- two runs, one behind the other
pub repeated_append : {A : Type 0} (P : List Lexeme → A → Type 0) (vs ws : List A) (xs ys : List Lexeme)
    → repeated P xs vs → repeated P ys ws → repeated P (xs ++ ys) (vs ++ ws)
repeated_append P [] ws xs ys none more = subst (λ l. repeated P (l ++ ys) ws) (sym none) more
repeated_append P (v ∷ vs) ws xs ys (as', bs, cut, here, behind) more =
    (as', bs ++ ys, ap (λ l. l ++ ys) cut ∙ append_assoc as' bs ys, here, repeated_append P vs ws bs ys behind more)
