-- What tokens stand for.
use Rattle.std.specs.Prelude.{◌≡◌, ◌⊎◌, ◌++◌, ◌==◌, ◌&&◌, ◌||◌, not, if◌then◌else◌, ℕ, List, [], ◌∷◌}
use Rattle.std.specs.List.{flat_map}
use Rattle.grant_lex.specs.Class.{class_of, is_quote}
use Rattle.grant_lex.specs.Inside.{Opens, is_escaped, keeps_backslash, meaning}
use Rattle.grant_lex.specs.declared.class.Class.TheVariants.{Quote, Backquote}
use Rattle.grant_lex.specs.declared.inside.Piece.{Piece}

-- a string or a name in backquotes stands for what its pieces mean
pub record StandsForValue (text value : List ℕ) : Type 0 where
  pub quote : ℕ
  pub sort : (class_of quote ≡ Quote) ⊎ (class_of quote ≡ Backquote)
  pub pieces : List Piece
  pub opens : Opens quote pieces text (quote ∷ [])
  pub value_is : value ≡ flat_map (meaning quote) pieces

-- the same as a function of any bytes behind an opening quote, up to the first place where no piece goes on
unfoldable pub inside_value : ℕ → List ℕ → List ℕ
inside_value quote [] = []
inside_value quote (b ∷ []) = if b == quote || (not (quote == 96) && b == 92) then [] else b ∷ []
inside_value quote (b ∷ c ∷ rest) =
    if b == quote then (if c == quote then quote ∷ inside_value quote rest else [])
    else (if not (quote == 96) && b == 92 then (if is_escaped c then (if keeps_backslash c then 92 ∷ c ∷ [] else c ∷ []) ++ inside_value quote rest else [])
    else b ∷ inside_value quote (c ∷ rest))

-- as `StandsForValue` where the text begins with a quote; any other text stands for itself
abbrev pub value_of : List ℕ → List ℕ
value_of [] = []
value_of (b ∷ rest) = if is_quote b then inside_value b rest else b ∷ rest
