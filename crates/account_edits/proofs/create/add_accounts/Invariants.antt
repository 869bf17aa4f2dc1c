use Rattle.std.proofs.Common.{◌≡◌, ◌≤◌, IsTrue, length}
use Rattle.std.specs.List.{list_any}
use Rattle.acl_model.specs.Rows.{same_row}
use Rattle.acl_model.specs.declared.row.Row.{Row}
use Rattle.row_tables.specs.Rooms.{room_of}
use Rattle.row_tables.specs.Tables.{state_of}
use Rattle.account_edits.specs.Created.{HasComePartly, account_rows, with_accounts}
use Rattle.account_edits.proofs.create.add_accounts.Given as goal

-- what is left to come, and what has come
abbrev pub invariant-loop-account : goal.invariant-loop-account
invariant-loop-account l = record {
  state : with_accounts l.accounts.items (state_of l.rows) ≡ with_accounts l.fn.accounts.items (state_of l.fn.rows);
  partly : HasComePartly (account_rows l.fn.accounts.items) (state_of l.fn.rows) (state_of l.rows);
  listed : (row : Row) → IsTrue (list_any (same_row row) (account_rows l.accounts.items)) → IsTrue (list_any (same_row row) (account_rows l.fn.accounts.items));
  room : length l.accounts.items ≤ (room_of l.rows).accounts;
}

abbrev pub decreases-loop-account : goal.decreases-loop-account
decreases-loop-account l = length l.accounts.items
