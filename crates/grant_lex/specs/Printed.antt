-- Texts that are written token by token.
use Rattle.std.specs.Prelude.{◌≡◌, ◌++◌, ◌+◌, ℕ, List, [], ◌∷◌, length}
use Rattle.std.specs.List.{AllByRecursion}
use Rattle.grant_lex.specs.Next.{BeginsWithout, IsBlank, IsOf}
use Rattle.grant_lex.specs.Token.{IsOfSort}
use Rattle.grant_lex.specs.declared.class.Class.TheVariants as classes
use Rattle.grant_lex.specs.declared.sorts.Kind.{Kind}
use Rattle.grant_lex.specs.declared.sorts.Kind.TheVariants.{Word, Quoted, Backquoted, Mark}
use Rattle.grant_lex.specs.declared.sorts.Token.{Token}

-- a token's text, and the blanks before it
pub record Printed : Type 0 where
  pub blanks : List ℕ
  pub kind : Kind
  pub text : List ℕ

abbrev pub printed : List Printed → List ℕ
printed [] = []
printed (p ∷ ps) = p.blanks ++ (p.text ++ printed ps)

-- a byte that would go on with the token, right behind its text
abbrev pub GoesOn : Kind → List ℕ → ℕ → Type 0
GoesOn Word text b = IsOf classes.Word b
GoesOn Quoted text b = (rest : List ℕ) × (text ≡ b ∷ rest)
GoesOn Backquoted text b = (rest : List ℕ) × (text ≡ b ∷ rest)
GoesOn (Mark _) text b = ⊥

-- each text is one token, and what follows it does not go on with it
abbrev pub ArePrinted : List Printed → Type 0
ArePrinted [] = Unit {0}
ArePrinted (p ∷ ps) =
    AllByRecursion IsBlank p.blanks × IsOfSort p.kind p.text [] × BeginsWithout (GoesOn p.kind p.text) (printed ps)
    × ArePrinted ps

abbrev pub tokens_of : ℕ → List Printed → List Token
tokens_of at [] = []
tokens_of at (p ∷ ps) =
    record { kind = p.kind; from = at + length p.blanks; to = at + length p.blanks + length p.text }
    ∷ tokens_of (at + length p.blanks + length p.text) ps
