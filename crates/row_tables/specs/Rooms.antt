-- How many more rows fit without memory.
use Rattle.std.specs.Prelude.{ℕ, ◌<◌, ◌≤◌, ◌+◌, min}
use Rattle.acl_model.specs.declared.row.Row.{Row}
use Rattle.acl_model.specs.declared.row.Row.TheVariants.{Account, Schema, Table, Column, Function, Procedure, Edge, Admin, Default, Restriction}
use Rattle.row_tables.specs.declared.room.Room.{Room}
use Rattle.numbered_rows.specs.Tables.{Tables}

-- the room of the tables: of each kind the least that one of its tables has
abbrev pub room_of : Tables → Room
room_of tables = record {
  accounts = min (min tables.accounts.room tables.data_room) tables.holdings.global_room;
  schemas = tables.holdings.schemas.thing_room;
  pairs = tables.holdings.schemas.record_room;
  objects = min tables.holdings.objects.record_room tables.holdings.objects.thing_room;
  edges = min (min tables.holdings.roles.room tables.holdings.defaults.record_room) tables.holdings.defaults.thing_room;
}

-- there is room for a row
abbrev pub FitsIn : Room → Row → Type 0
FitsIn room (Account a) = 0 < room.accounts
FitsIn room (Schema a s p) = (0 < room.schemas) × (0 < room.pairs)
FitsIn room (Restriction a p s) = (0 < room.schemas) × (0 < room.pairs)
FitsIn room (Table a s t p) = 0 < room.objects
FitsIn room (Column a s t c p) = 0 < room.objects
FitsIn room (Function a s f p) = 0 < room.objects
FitsIn room (Procedure a s f p) = 0 < room.objects
FitsIn room (Edge role to) = 0 < room.edges
FitsIn room (Admin role to) = 0 < room.edges
FitsIn room (Default of role) = 0 < room.edges
FitsIn room _ = Unit {0}

-- of no kind is there room for less by more than so many
pub record LosesAtMost (lost : ℕ) (old new : Room) : Type 0 where
  pub accounts : old.accounts ≤ new.accounts + lost
  pub schemas : old.schemas ≤ new.schemas + lost
  pub pairs : old.pairs ≤ new.pairs + lost
  pub objects : old.objects ≤ new.objects + lost
  pub edges : old.edges ≤ new.edges + lost

-- so many more of each kind fit
pub record HasRoomFor (asked room : Room) : Type 0 where
  pub accounts : asked.accounts ≤ room.accounts
  pub schemas : asked.schemas ≤ room.schemas
  pub pairs : asked.pairs ≤ room.pairs
  pub objects : asked.objects ≤ room.objects
  pub edges : asked.edges ≤ room.edges

-- so many rows fit, none of which is an account
pub record RowsFitIn (rows : ℕ) (room : Room) : Type 0 where
  pub schemas : rows ≤ room.schemas
  pub pairs : rows ≤ room.pairs
  pub objects : rows ≤ room.objects
  pub edges : rows ≤ room.edges
