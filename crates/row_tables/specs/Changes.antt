-- What each call makes of the state.
pub use Rattle.numbered_rows.specs.RowChanges.{data_with, data_without}
unfoldable pub use Rattle.numbered_rows.specs.RowChanges.{renamed, with_data, with_row, without_row}
