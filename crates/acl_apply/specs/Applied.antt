-- What a change makes of the rows, and on which rows it was prepared.
use Rattle.std.specs.Prelude.{◌≡◌}
use Rattle.acl_apply.specs.declared.apply.Change.{Change}
use Rattle.acl_model.specs.Acceptance.{IsAccepted}
use Rattle.acl_model.specs.Effects.{after}
use Rattle.acl_rows.specs.Tables.{Tables, state_of}
use Rattle.acl_stmt.specs.declared.entry.Entry.{Entry}

-- the rows after the change; the change holds them
abbrev pub applied : Change → Tables → Tables
applied change before = change.rows

-- the change is what some statement makes of these rows, which accept it
pub record IsPreparedOn (change : Change) (rows : Tables) : Type 0 where
  pub entry : Entry
  pub accepted : IsAccepted (state_of rows) entry
  pub changed : state_of (applied change rows) ≡ after entry (state_of rows)
