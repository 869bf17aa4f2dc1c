-- The front of a text before its fault.
use Rattle.std.specs.Prelude.{◌≡◌, ◌++◌, ◌⊎◌, ℕ, List, Option, Some, None, take}
use Rattle.grant_lex.specs.Token.{HasFault, IsCut, Reads}
use Rattle.grant_lex.specs.declared.refusal.LexRefusal.{LexRefusal}
use Rattle.grant_lex.specs.declared.refusal.LexRefusal.TheVariants.{BadByte, Unclosed}
use Rattle.grant_lex.specs.declared.sorts.Token.{Token}

-- a fault at this offset, of a byte or of a quote
abbrev pub IsFaultAt : List ℕ → ℕ → Type 0
IsFaultAt text offset = HasFault text (BadByte offset) ⊎ HasFault text (Unclosed offset)

-- the first bytes are cut into the tokens, and the text goes on with its fault, or ends
pub record IsFront (text : List ℕ) (n : ℕ) (ts : List Token) : Type 0 where
  pub cut : IsCut (take n text) ts
  pub end : Option LexRefusal
  pub reads : Reads 0 text ts end

-- the text is cut into tokens, or this is its fault
abbrev pub IsFirstFault : List ℕ → Option ℕ → Type 0
IsFirstFault text None = (tokens : List Token) × IsCut text tokens
IsFirstFault text (Some offset) = IsFaultAt text offset

-- the front of the text is cut into tokens, and the text is cut into the same ones before its fault or its end
pub record IsCutFront (text front : List ℕ) : Type 0 where
  pub rest : List ℕ
  pub whole : text ≡ front ++ rest
  pub tokens : List Token
  pub cut : IsCut front tokens
  pub end : Option LexRefusal
  pub reads : Reads 0 text tokens end
