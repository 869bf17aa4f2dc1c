-- Lists of all rows that stand.
use Rattle.std.specs.Prelude.{◌≡◌, Bool, true, false, List}
use Rattle.std.specs.List.{list_any}
use Rattle.acl_model.specs.Rows.{same_row}
use Rattle.acl_model.specs.State.{State}
use Rattle.acl_model.specs.declared.row.Row.{Row}
use Rattle.acl_model.specs.declared.row.Row.TheVariants.{Account}

abbrev pub is_account : Row → Bool
is_account (Account a) = true
is_account _ = false

-- the list has just the rows that stand, but for those of accounts
pub record ListsRows (rows : List Row) (state : State) : Type 0 where
  pub just : (row : Row) → is_account row ≡ false → list_any (same_row row) rows ≡ state.rows row
