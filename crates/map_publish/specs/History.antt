-- What is published, and what may come next.
use Rattle.std.specs.Prelude.{Bool, ◌≡◌, ◌<◌, List, vec_len, vec_capacity}
use Rattle.acl_model.specs.Effects.{after, state_after}
use Rattle.acl_model.specs.State.{State, opening}
use Rattle.acl_stmt.specs.declared.entry.Entry.{Entry}
use Rattle.priv_map.specs.MapState.{IsChangeOf, map_after, state_in}
use Rattle.priv_map.specs.declared.map.PrivMap.{PrivMap}
use Rattle.map_publish.specs.declared.published.Next.{Next}
use Rattle.map_publish.specs.declared.published.Published.{Published}

-- the accepted statements, the oldest first
abbrev pub entries_of : Published → List Entry
entries_of published = published.entries.items

abbrev pub ended_in : Published → Bool
ended_in published = published.ended

abbrev pub map_of : Published → PrivMap
map_of published = published.map

-- what stands after these statements
abbrev pub state_of : Published → State
state_of published = state_after (entries_of published) opening

abbrev pub entry_of : Next → Entry
entry_of next = next.entry

-- the statement has room, and its change was prepared on the map and is what it makes of what stands
pub record IsNext (next : Next) (published : Published) : Type 0 where
  pub room : vec_len published.entries < vec_capacity published.entries
  pub prepared : IsChangeOf next.change published.map
  pub state : state_in (map_after next.change published.map) ≡ after next.entry (state_in published.map)
