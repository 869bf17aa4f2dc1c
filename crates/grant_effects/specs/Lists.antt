-- Lists of rows as the sets of their rows.
use Rattle.std.specs.Prelude.{◌≡◌, Bool, ◌||◌, List}
use Rattle.std.specs.List.{list_any}
use Rattle.acl_model.specs.Rows.{same_row}
use Rattle.acl_model.specs.declared.row.Row.{Row}

-- the list has just the rows that pass the test
pub record HasJust (test : Row → Bool) (rows : List Row) : Type 0 where
  pub is : (row : Row) → list_any (same_row row) rows ≡ test row

-- the new list has the rows of the old one, and beside them just those that pass the test
pub record Adds (test : Row → Bool) (old new : List Row) : Type 0 where
  pub is : (row : Row) → list_any (same_row row) new ≡ (list_any (same_row row) old || test row)
