-- The first item of a list that has a property, and lists of all that have one.
use Rattle.std.specs.Prelude.{◌≡◌, List, ◌∷◌, ◌++◌}

-- the item has the property, and none before it has
pub record IsFirst {X : Type 0} (P : X → Type 0) (items : List X) (first : X) : Type 0 where
  pub before : List X
  pub rest : List X
  pub split : items ≡ before ++ first ∷ rest
  pub has : P first
  pub none_before : (earlier : List X) (item : X) (later : List X) → before ≡ earlier ++ item ∷ later → P item → ⊥

-- no item has the property
abbrev pub HasNone : {X : Type 0} → (X → Type 0) → List X → Type 0
HasNone P items = (earlier : List _) (item : _) (later : List _) → items ≡ earlier ++ item ∷ later → P item → ⊥
