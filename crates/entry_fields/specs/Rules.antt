-- Rules between the parts of an entry.
use Rattle.std.specs.Prelude.{ℕ, Bool, true, List, [], ◌∷◌}
use Rattle.std.specs.Ordering.{is_lt}
use Rattle.acl_names.specs.Text.{text_cmp}
use Rattle.acl_stmt.specs.declared.limit.Limit.{Limit}

-- the schema comes after that of the last limit
abbrev pub is_behind : List Limit → List ℕ → Bool
is_behind [] schema = true
is_behind (limit ∷ []) schema = is_lt (text_cmp limit.schema schema)
is_behind (first ∷ second ∷ rest) schema = is_behind (second ∷ rest) schema
