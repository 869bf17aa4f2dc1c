use Rattle.std.proofs.Common.{◌≡◌, ℕ, Bool, ◌&&◌, not, true, take}
use Rattle.std.specs.List.{list_any}
use Rattle.role_graph.specs.Edges.{leads_to, linked}
use Rattle.role_graph.specs.Nodes.{holds}
use Rattle.role_graph.specs.Orders.{IsOrder, IsWave, done}
use Rattle.role_graph.proofs.order.place_holders.Given as goal

abbrev pub invariant-loop-link : goal.invariant-loop-link
invariant-loop-link l = record {
  order : IsOrder (λ role node. linked l.roles node role) (holds l.affected) (holds l.placed.nodes) l.into l.placed.count;
  wave : (to_look_at : ℕ → Bool) →
      IsWave (λ role node. linked l.roles node role) (holds l.affected) (holds l.initial.placed.nodes) (holds l.initial.placed.waiting) to_look_at →
      IsWave (λ role node. linked l.roles node role) (holds l.affected) (holds l.placed.nodes) (holds l.placed.waiting)
      (λ n. to_look_at n && not (list_any (leads_to n) (take l.link-index l.links)));
  done : (n : ℕ) → done (holds l.initial.placed.nodes) (holds l.initial.placed.waiting) n ≡ true →
      done (holds l.placed.nodes) (holds l.placed.waiting) n ≡ true;
}
