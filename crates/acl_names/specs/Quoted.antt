-- How a name is printed: between backquotes, with each backquote in it twice.
use Rattle.std.specs.Prelude.{ℕ, List, [], ◌∷◌, ◌++◌, ◌==◌, if◌then◌else◌, codes}
use Rattle.std.specs.List.{flat_map}

-- 96 is the backquote
abbrev pub doubled : List ℕ → List ℕ
doubled text = flat_map (λ byte. if byte == 96 then codes "``" else byte ∷ []) text

abbrev pub quoted : List ℕ → List ℕ
quoted text = codes "`" ++ doubled text ++ codes "`"

-- a name within a schema: two names with a dot between them
abbrev pub pair_text : List ℕ → List ℕ → List ℕ
pair_text schema name = quoted schema ++ (codes "." ++ quoted name)
