-- Lists of any items: whether there is one, and whether each stands once.
use Rattle.std.specs.Prelude.{Bool, true, false, ◌&&◌, not, List, [], ◌∷◌}
use Rattle.std.specs.List.{list_any}

-- one item or more
abbrev pub is_some_list : {A : Type 0} → List A → Bool
is_some_list [] = false
is_some_list (first ∷ rest) = true

-- no item is the same as a later one
abbrev pub all_differ_by : {A : Type 0} → (A → A → Bool) → List A → Bool
all_differ_by same [] = true
all_differ_by same (item ∷ items) = not (list_any (same item) items) && all_differ_by same items
