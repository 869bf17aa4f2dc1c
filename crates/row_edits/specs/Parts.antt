-- The two parts of a list, and what of a list is new.
use Rattle.std.specs.Prelude.{Bool, false, ◌≡◌, not, IsTrue, List, filter}
use Rattle.std.specs.List.{list_any}
use Rattle.acl_model.specs.Rows.{same_row}
use Rattle.acl_model.specs.State.{State}
use Rattle.acl_model.specs.declared.row.Row.{Row}
use Rattle.row_edits.specs.Layers.{is_option, is_plain}
use Rattle.row_edits.specs.declared.tried.Parts.{Parts}

pub record ArePartsOf (rows : List Row) (parts : Parts) : Type 0 where
  pub plain : parts.plain.items ≡ filter is_plain rows
  pub options : parts.options.items ≡ filter is_option rows

-- no row of the list stands
abbrev pub AreNew : State → List Row → Type 0
AreNew state come = (row : Row) → IsTrue (list_any (same_row row) come) → state.rows row ≡ false

abbrev pub is_new : State → Row → Bool
is_new state row = not (state.rows row)

-- the rows of the list that do not stand
abbrev pub new_of : State → List Row → List Row
new_of state come = filter (is_new state) come
