-- Lists of texts.
use Rattle.std.specs.Prelude.{ℕ, Bool, if◌then◌else◌, List, [], ◌∷◌, ◌++◌}
use Rattle.std.specs.List.{flat_map}

-- the members, with one text before the first and another before each further one; nothing for no member
abbrev pub list_text : {A : Type 0} → List ℕ → List ℕ → (A → List ℕ) → List A → List ℕ
list_text before between print [] = []
list_text before between print (first ∷ others) = before ++ (print first ++ flat_map (λ other. between ++ print other) others)

-- the text, where the test holds
abbrev pub text_if : Bool → List ℕ → List ℕ
text_if test text = if test then text else []
