-- Lists of tokens that begin with a spelling.
use Rattle.std.specs.Prelude.{◌≡◌, ◌++◌, List}
use Rattle.grant_words.specs.declared.lexeme.Lexeme.{Lexeme}

-- no list begins with a spelling of the first rule and with one of the second; so none is spelled by both
abbrev pub BeginApart : {A B : Type 0} → (List Lexeme → A → Type 0) → (List Lexeme → B → Type 0) → Type 0
BeginApart {A = A} {B = B} P Q = (xs more ys rest : List Lexeme) (v : A) (w : B) → xs ++ more ≡ ys ++ rest → P xs v → Q ys w → ⊥
