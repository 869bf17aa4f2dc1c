-- Fronts of a list, and what follows them.
use Rattle.std.specs.Prelude.{◌≡◌, ◌++◌, ℕ, List, [], ◌∷◌, length}
use Rattle.std.specs.List.{AllByRecursion}
use Rattle.grant_lex.specs.Class.{class_of}
use Rattle.grant_lex.specs.declared.class.Class.{Class}
use Rattle.grant_lex.specs.declared.class.Class.TheVariants.{Blank}

abbrev pub IsOf : Class → ℕ → Type 0
IsOf class b = class_of b ≡ class

abbrev pub IsBlank : ℕ → Type 0
IsBlank = IsOf Blank

-- the list does not begin so
abbrev pub BeginsWithout : (ℕ → Type 0) → List ℕ → Type 0
BeginsWithout P [] = Unit {0}
BeginsWithout P (b ∷ _) = P b → ⊥

-- the first n bytes are the longest front whose bytes are all of this class
pub record IsLongestRun (class : Class) (bytes : List ℕ) (n : ℕ) : Type 0 where
  pub front : List ℕ
  pub rest : List ℕ
  pub whole : bytes ≡ front ++ rest
  pub size : length front ≡ n
  pub each : AllByRecursion (IsOf class) front
  pub ends : BeginsWithout (IsOf class) rest
