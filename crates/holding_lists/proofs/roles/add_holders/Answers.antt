use Rattle.std.specs.List.{list_any}
use Rattle.std.proofs.Common.{◌∙◌, ap, take}
use Rattle.role_graph.specs.Edges.{Edges, granted, with_admin}
use Rattle.holding_lists.specs.Additions.{holders_held}
use Rattle.holding_lists.specs.Said.{edge_says}
use Rattle.holding_lists.proofs.Additions.{adds_same}
use Rattle.holding_lists.proofs.RolesSaid.{holders_read}
use Rattle.holding_lists.proofs.roles.add_holders.Goals as goal

pub returns : goal.returns
returns c =
    let links = c.holders_of-link-items.result.now in
    let edges = c.args.holdings.now.roles in
    adds_same c.args.list.now.items c.loop-link.list.items
    (λ h. list_any (λ link. edge_says c.args.account link.to (with_admin edges c.args.account link.to) h) (take c.loop-link.link-index links)) (holders_held edges c.args.account)
    (holders_read edges c.args.account links c.loop-link.link-index c.loop-link-test.false
    (λ holder. c.holders_of-link-items.ensures.granted holder ∙ ap (λ (e : Edges). granted e c.args.account holder) c.roles.ensures))
    c.loop-link.invariant
