-- Room for the rows of a list.
use Rattle.std.proofs.Common.{◌≡◌, ℕ, ◌<◌, ◌+◌, ◌-◌, false, refl, List, arith}
use Rattle.acl_model.specs.declared.row.Row.{Row}
use Rattle.acl_model.specs.declared.row.Row.TheVariants.{Account, Global, Dynamic, DynamicGrant, Schema, Table, Column, Function, Procedure, Edge, Admin, Default, Restriction}
use Rattle.acl_model.specs.State.{State}
use Rattle.row_tables.specs.Conditions.{is_account}
use Rattle.row_tables.specs.Lists.{HasBasis}
use Rattle.row_tables.specs.Rooms.{FitsIn, HasRoomFor, LosesAtMost, RowsFitIn}
use Rattle.row_tables.specs.declared.room.Room.{Room}

pub fits_start : (n : ℕ) (asked room : Room) → RowsFitIn n asked → HasRoomFor asked room → RowsFitIn (n - 0) room
fits_start n asked room fits has = record {
  schemas = omega (arith, fits.schemas, has.schemas);
  pairs = omega (arith, fits.pairs, has.pairs);
  objects = omega (arith, fits.objects, has.objects);
  edges = omega (arith, fits.edges, has.edges);
}

pub fits_next : (n i : ℕ) (old new : Room) → i < n → RowsFitIn (n - i) old → LosesAtMost 1 old new → RowsFitIn (n - (i + 1)) new
fits_next n i old new within fits lost = record {
  schemas = omega (arith, within, fits.schemas, lost.schemas);
  pairs = omega (arith, within, fits.pairs, lost.pairs);
  objects = omega (arith, within, fits.objects, lost.objects);
  edges = omega (arith, within, fits.edges, lost.edges);
}

pub fits_skip : (n i : ℕ) (room : Room) → RowsFitIn (n - i) room → RowsFitIn (n - (i + 1)) room
fits_skip n i room fits = record {
  schemas = omega (arith, fits.schemas);
  pairs = omega (arith, fits.pairs);
  objects = omega (arith, fits.objects);
  edges = omega (arith, fits.edges);
}

pub fits_one : (n i : ℕ) (room : Room) → i < n → RowsFitIn (n - i) room → (row : Row) → is_account row ≡ false → FitsIn room row
fits_one n i room within fits (Account a) other = cc
fits_one n i room within fits (Global a p) other = tt
fits_one n i room within fits (Dynamic a d) other = tt
fits_one n i room within fits (DynamicGrant a d) other = tt
fits_one n i room within fits (Schema a s p) other = (omega (arith, within, fits.schemas), omega (arith, within, fits.pairs))
fits_one n i room within fits (Restriction a p s) other = (omega (arith, within, fits.schemas), omega (arith, within, fits.pairs))
fits_one n i room within fits (Table a s t p) other = omega (arith, within, fits.objects)
fits_one n i room within fits (Column a s t c p) other = omega (arith, within, fits.objects)
fits_one n i room within fits (Function a s f p) other = omega (arith, within, fits.objects)
fits_one n i room within fits (Procedure a s f p) other = omega (arith, within, fits.objects)
fits_one n i room within fits (Edge role to) other = omega (arith, within, fits.edges)
fits_one n i room within fits (Admin role to) other = omega (arith, within, fits.edges)
fits_one n i room within fits (Default of role) other = omega (arith, within, fits.edges)

-- a row with its basis among others is no account
pub ready_is_grant : (state : State) (come : List Row) (row : Row) → HasBasis state come row → is_account row ≡ false
ready_is_grant state come (Account a) basis = absurd basis
ready_is_grant state come _ basis = refl

-- ---- where no room is lost

pub none_lost : (room : Room) → LosesAtMost 0 room room
none_lost room = record { accounts = omega arith; schemas = omega arith; pairs = omega arith; objects = omega arith; edges = omega arith }

pub none_lost_twice : (first old new : Room) → LosesAtMost 0 first old → LosesAtMost 0 old new → LosesAtMost 0 first new
none_lost_twice first old new earlier later = record {
  accounts = omega (arith, earlier.accounts, later.accounts);
  schemas = omega (arith, earlier.schemas, later.schemas);
  pairs = omega (arith, earlier.pairs, later.pairs);
  objects = omega (arith, earlier.objects, later.objects);
  edges = omega (arith, earlier.edges, later.edges);
}
