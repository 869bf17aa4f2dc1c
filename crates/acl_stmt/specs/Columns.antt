-- Lists of columns.
use Rattle.std.specs.Prelude.{ℕ, Bool, ◌&&◌, ◌^◌, nat_lt, List, length}
use Rattle.std.specs.List.{list_all}
use Rattle.acl_names.specs.Text.{is_lower, text_eq}
use Rattle.acl_stmt.specs.Lists.{all_differ_by, is_some_list}
use Rattle.priv_sets.specs.Levels.{has_level}
use Rattle.priv_sets.specs.declared.level.Level.TheVariants.{Column}

-- one column or more, each once and in lower case, of a privilege with the column level
unfoldable pub is_column_list : ℕ → List (List ℕ) → Bool
is_column_list privilege names =
    has_level Column privilege && is_some_list names && nat_lt (length names) (2 ^ 32) && list_all is_lower names && all_differ_by text_eq names
