-- The state that a map stands for, what a change makes of it, and on which map it was prepared.
use Rattle.acl_apply.specs.Applied.{IsPreparedOn, applied}
use Rattle.acl_model.specs.State.{State}
use Rattle.acl_rows.specs.Tables.{state_of}
use Rattle.priv_map.specs.declared.map.MapChange.{MapChange}
use Rattle.priv_map.specs.declared.map.PrivMap.{PrivMap}

-- what stands
abbrev pub state_in : PrivMap → State
state_in map = state_of map.rows

-- the map after the change
abbrev pub map_after : MapChange → PrivMap → PrivMap
map_after change map = record { rows = applied change.change map.rows }

-- the change is what some statement makes of this map, which accepts it
abbrev pub IsChangeOf : MapChange → PrivMap → Type 0
IsChangeOf change map = IsPreparedOn change.change map.rows
