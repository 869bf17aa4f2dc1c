-- Edits: what they make of the rows, which rows they may be carried out on, and which lists of rows may be tried.
use Rattle.std.specs.Prelude.{false, true, ◌≡◌, ◌+◌, Bool, [], IsTrue, List, filter, length}
use Rattle.std.specs.List.{list_any}
use Rattle.acl_model.specs.Rows.{same_row}
use Rattle.acl_model.specs.State.{State}
use Rattle.acl_model.specs.declared.row.Row.{Row}
use Rattle.acl_model.specs.declared.row.Row.TheVariants.{Account, Admin, Edge}
use Rattle.row_tables.specs.Lists.{IsClosed, IsReadyAmong, with_rows, without_rows}
use Rattle.row_tables.specs.Rooms.{RowsFitIn, room_of}
use Rattle.row_tables.specs.Tables.{Tables, state_of}
use Rattle.row_edits.specs.Layers.{is_option, is_plain}
use Rattle.row_edits.specs.declared.tried.RowEdit.{RowEdit}

-- what an edit makes of the state
unfoldable pub edited : RowEdit → State → State
edited edit state = with_rows edit.options.items (with_rows edit.plain.items (without_rows edit.gone.items state))

-- the edit may be carried out on these rows
pub record IsEditOf (edit : RowEdit) (rows : Tables) : Type 0 where
  pub closed : IsClosed (state_of rows) edit.gone.items
  pub plain : (row : Row) → IsTrue (list_any (same_row row) edit.plain.items) → IsReadyAmong (without_rows edit.gone.items (state_of rows)) [] row
  pub options : (row : Row) → IsTrue (list_any (same_row row) edit.options.items)
      → IsReadyAmong (with_rows edit.plain.items (without_rows edit.gone.items (state_of rows))) [] row
  pub room : RowsFitIn (length edit.plain.items + length edit.options.items) (room_of rows)

-- a row that is no account and grants no role
abbrev pub is_simple : Row → Bool
is_simple (Account a) = false
is_simple (Edge role to) = false
is_simple (Admin role to) = false
is_simple _ = true

-- simple rows that stand may go, with what stands on them, and those that come may come then; none goes and comes
pub record MayBeTried (state : State) (gone come : List Row) : Type 0 where
  pub stand : (row : Row) → IsTrue (list_any (same_row row) gone) → IsTrue (state.rows row)
  pub simple : (row : Row) → IsTrue (list_any (same_row row) gone) → IsTrue (is_simple row)
  pub closed : IsClosed state gone
  pub ready : (row : Row) → IsTrue (list_any (same_row row) come) → IsReadyAmong (without_rows gone state) come row
  pub apart : (row : Row) → IsTrue (list_any (same_row row) come) → list_any (same_row row) gone ≡ false
