-- What is seen of a graph: its edges with their admin options, and its spare room.
use Rattle.std.specs.Prelude.{◌≡◌, ◌<◌, ◌≤◌, ◌+◌, ◌*◌, ℕ, Bool, ◌==◌, ◌&&◌, ◌||◌, List, count_by, All}
use Rattle.std.specs.List.{list_any}
use Rattle.std.specs.List.Sorted.{IsNonDecreasingBy}
use Rattle.role_graph.specs.declared.link.Link.{Link}
use Rattle.role_graph.specs.Paths.{Granted, IsFreeOfLoops}

-- the edges, each a link from the holder to its role, and how many more fit without memory
pub record Edges : Type 0 where
  pub links : List Link
  pub room : ℕ

-- whether a link leads from one node to another
abbrev pub is_link : ℕ → ℕ → Link → Bool
is_link from to link = (link.from == from) && (link.to == to)

-- whether it does so with the admin option
abbrev pub is_admin_link : ℕ → ℕ → Link → Bool
is_admin_link from to link = is_link from to link && link.admin

-- whether a link begins or ends at a node
abbrev pub touches : ℕ → Link → Bool
touches node link = (link.from == node) || (link.to == node)

-- whether a link leads to a node
abbrev pub leads_to : ℕ → Link → Bool
leads_to to link = link.to == to

-- whether it does so with the admin option
abbrev pub leads_with_admin : ℕ → Link → Bool
leads_with_admin to link = leads_to to link && link.admin

-- whether some link leads from one node to another
abbrev pub linked : List Link → ℕ → ℕ → Bool
linked links from to = list_any (is_link from to) links

-- whether the role is granted to the holder
abbrev pub granted : Edges → Granted
granted edges role holder = linked edges.links holder role

-- whether the role is granted to the holder with the admin option
abbrev pub with_admin : Edges → Granted
with_admin edges role holder = list_any (is_admin_link holder role) edges.links

-- the place of a link in the order by its first node, then by its second
abbrev pub rank : Link → ℕ
rank link = link.from * 4096 + link.to

-- a link between nodes that there are
abbrev pub IsWithin : Link → Type 0
IsWithin link = (link.from < 4096) × (link.to < 4096)

-- links in order
pub record IsTable (links : List Link) : Type 0 where
  pub ordered : IsNonDecreasingBy rank links
  pub within : All IsWithin links

-- the edges by holder and by role: the same ones, each once, and no loop among them
pub record IsGraph (roles holders : List Link) : Type 0 where
  pub roles_table : IsTable roles
  pub holders_table : IsTable holders
  pub once : (from to : ℕ) → count_by (is_link from to) roles ≤ 1
  pub mirrored : (p : ℕ → ℕ → Bool) → count_by (λ link. p link.from link.to) roles ≡ count_by (λ link. p link.to link.from) holders
  pub free_of_loops : IsFreeOfLoops (λ role holder. linked roles holder role)
