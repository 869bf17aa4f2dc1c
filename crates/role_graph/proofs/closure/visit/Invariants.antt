use Rattle.std.proofs.Common.{◌≡◌, ℕ, ◌||◌, ◌&&◌, not, take}
use Rattle.std.specs.List.{list_any}
use Rattle.role_graph.specs.Edges.{leads_to}
use Rattle.role_graph.specs.Nodes.{holds}
use Rattle.role_graph.proofs.closure.visit.Given as goal

abbrev pub invariant-loop-link : goal.invariant-loop-link
invariant-loop-link l = record {
  seen : (n : ℕ) → holds l.seen n ≡ (holds l.initial.seen n || list_any (leads_to n) (take l.link-index l.links));
  waiting : (n : ℕ) → holds l.waiting n ≡
      (holds l.initial.waiting n || (list_any (leads_to n) (take l.link-index l.links) && not (holds l.initial.seen n)));
}
