-- What stands between quotes, and what it means.
use Rattle.std.specs.Prelude.{◌≡◌, ◌≢◌, ◌⊎◌, ◌++◌, ◌==◌, ◌||◌, if◌then◌else◌, ℕ, Bool, true, false, List, [], ◌∷◌, length, drop}
use Rattle.std.specs.List.{flat_map, AllByRecursion}
use Rattle.grant_lex.specs.Next.{BeginsWithout}
use Rattle.grant_lex.specs.declared.inside.Inside.{Inside}
use Rattle.grant_lex.specs.declared.inside.Inside.TheVariants.{Next, Closing, BadPair, Open}
use Rattle.grant_lex.specs.declared.inside.Piece.{Piece}
use Rattle.grant_lex.specs.declared.inside.Piece.TheVariants.{Plain, Doubled, Escaped}

-- a percent sign or an underscore keeps the backslash before it
abbrev pub keeps_backslash : ℕ → Bool
keeps_backslash b = b == 37 || b == 95

-- what may stand behind a backslash: a backslash, a quote of strings, a percent sign or an underscore
abbrev pub is_escaped : ℕ → Bool
is_escaped b = b == 92 || b == 39 || b == 34 || keeps_backslash b

-- between backquotes, of code 96, a backslash is a byte as any other
abbrev pub HasEscapes : ℕ → Type 0
HasEscapes quote = quote ≢ 96

-- the piece may stand between these quotes
abbrev pub IsPiece : ℕ → Piece → Type 0
IsPiece quote (Plain b) = (b ≢ quote) × (HasEscapes quote → b ≢ 92)
IsPiece quote Doubled = Unit {0}
IsPiece quote (Escaped b) = HasEscapes quote × (is_escaped b ≡ true)

abbrev pub spelling : ℕ → Piece → List ℕ
spelling quote (Plain b) = b ∷ []
spelling quote Doubled = quote ∷ quote ∷ []
spelling quote (Escaped b) = 92 ∷ b ∷ []

abbrev pub meaning : ℕ → Piece → List ℕ
meaning quote (Plain b) = b ∷ []
meaning quote Doubled = quote ∷ []
meaning quote (Escaped b) = if keeps_backslash b then 92 ∷ b ∷ [] else b ∷ []

-- the bytes are a quote and these pieces behind it, and then the rest
pub record Opens (quote : ℕ) (pieces : List Piece) (bytes rest : List ℕ) : Type 0 where
  pub whole : bytes ≡ quote ∷ flat_map (spelling quote) pieces ++ rest
  pub each : AllByRecursion (IsPiece quote) pieces

-- the closing quote, and no second one behind it
pub record Closes (quote : ℕ) (bytes rest : List ℕ) : Type 0 where
  pub whole : bytes ≡ quote ∷ rest
  pub ends : BeginsWithout (λ b. b ≡ quote) rest

-- a backslash with a byte behind it that it cannot have
pub record HasBadPair (quote : ℕ) (bytes : List ℕ) : Type 0 where
  pub escapes : HasEscapes quote
  pub second : ℕ
  pub rest : List ℕ
  pub whole : bytes ≡ 92 ∷ second ∷ rest
  pub bad : is_escaped second ≡ false

-- the text ends here, or with a backslash and nothing behind it
abbrev pub StaysOpen : ℕ → List ℕ → Type 0
StaysOpen quote bytes = (bytes ≡ []) ⊎ (HasEscapes quote × (bytes ≡ 92 ∷ []))

pub record BeginsWithPiece (quote : ℕ) (bytes : List ℕ) (piece : Piece) : Type 0 where
  pub rest : List ℕ
  pub whole : bytes ≡ spelling quote piece ++ rest
  pub allowed : IsPiece quote piece

-- what comes next between these quotes
abbrev pub IsNextInside : ℕ → List ℕ → Inside → Type 0
IsNextInside quote bytes (Next piece) = BeginsWithPiece quote bytes piece
IsNextInside quote bytes Closing = (rest : List ℕ) × Closes quote bytes rest
IsNextInside quote bytes BadPair = HasBadPair quote bytes
IsNextInside quote bytes Open = StaysOpen quote bytes

-- the first n bytes are pieces
pub record ArePieces (quote : ℕ) (bytes : List ℕ) (n : ℕ) : Type 0 where
  pub pieces : List Piece
  pub each : AllByRecursion (IsPiece quote) pieces
  pub whole : bytes ≡ flat_map (spelling quote) pieces ++ drop n bytes
  pub size : length (flat_map (spelling quote) pieces) ≡ n
