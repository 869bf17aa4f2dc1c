-- When a row may be put, and when it may be taken.
pub use Rattle.numbered_rows.specs.Conditions.{HasRoom, IsFreeToGo, IsReadyFor, IsUnnamed, has_its_level, is_account, names_stand}
