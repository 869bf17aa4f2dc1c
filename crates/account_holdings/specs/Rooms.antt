-- How much more fits without memory.
use Rattle.std.specs.Prelude.{ℕ, ◌≤◌, ◌+◌}
use Rattle.account_holdings.specs.Holdings.{Holdings}
use Rattle.account_holdings.specs.declared.room.HoldingsRoom.{HoldingsRoom}

-- no table lost room for more than so many entries
pub record LosesAtMost (lost : ℕ) (old new : Holdings) : Type 0 where
  pub accounts : old.global_room ≤ new.global_room + lost
  pub pairs : old.schemas.record_room ≤ new.schemas.record_room + lost
  pub schemas : old.schemas.thing_room ≤ new.schemas.thing_room + lost
  pub object_pairs : old.objects.record_room ≤ new.objects.record_room + lost
  pub objects : old.objects.thing_room ≤ new.objects.thing_room + lost
  pub roles : old.roles.room ≤ new.roles.room + lost
  pub default_pairs : old.defaults.record_room ≤ new.defaults.record_room + lost
  pub default_roles : old.defaults.thing_room ≤ new.defaults.thing_room + lost

-- so many more of each fit
pub record HasRoomFor (room : HoldingsRoom) (holdings : Holdings) : Type 0 where
  pub accounts : room.accounts ≤ holdings.global_room
  pub pairs : room.pairs ≤ holdings.schemas.record_room
  pub schemas : room.schemas ≤ holdings.schemas.thing_room
  pub object_pairs : room.objects ≤ holdings.objects.record_room
  pub objects : room.objects ≤ holdings.objects.thing_room
  pub roles : room.edges ≤ holdings.roles.room
  pub default_pairs : room.edges ≤ holdings.defaults.record_room
  pub default_roles : room.edges ≤ holdings.defaults.thing_room
