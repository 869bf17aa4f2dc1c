-- The columns that a statement or a request names.
use Rattle.std.specs.Prelude.{ℕ, Bool, true, false, ◌≤◌, IsTrue, []}
use Rattle.std.specs.List.{list_all}
use Rattle.priv_items.specs.Naming.{column_count, items_in}
use Rattle.priv_items.specs.declared.item.Item.{Item}
use Rattle.priv_items.specs.declared.item.Item.TheVariants.{Columns}
use Rattle.priv_items.specs.declared.item.Named.{Named}
use Rattle.privilege_statements.specs.declared.statement.RawStatement.{RawStatement}
use Rattle.privilege_statements.specs.declared.statement.RawStatement.TheVariants.{Grant, Revoke}

abbrev pub privileges_of : RawStatement → Named
privileges_of (Grant privileges target accounts with_grant_option) = privileges
privileges_of (Revoke privileges target accounts) = privileges

-- a list of columns is not empty
abbrev pub has_columns : Item → Bool
has_columns (Columns privilege []) = false
has_columns _ = true

-- each list of columns has a column, and all together have no more columns than there are tokens
pub record HasColumns (named : Named) (tokens : ℕ) : Type 0 where
  pub some : IsTrue (list_all has_columns (items_in named))
  pub few : column_count (items_in named) ≤ tokens
