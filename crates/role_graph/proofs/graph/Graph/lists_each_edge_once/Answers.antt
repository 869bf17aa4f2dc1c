use Rattle.std.proofs.Common.{subst, ℕ, ◌≤◌, count_by}
use Rattle.role_graph.specs.Edges.{Edges, is_link}
use Rattle.role_graph.proofs.graph.Graph.lists_each_edge_once.Goals as goal

pub returns-clause-once : goal.returns-clause-once
returns-clause-once c = subst (λ (e : Edges). (from to : ℕ) → count_by (is_link from to) e.links ≤ 1) c.self.view_is c.self.invariant.once
