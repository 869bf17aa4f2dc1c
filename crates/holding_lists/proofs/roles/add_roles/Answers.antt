use Rattle.std.specs.List.{list_any}
use Rattle.std.proofs.Common.{take}
use Rattle.holding_lists.specs.Additions.{roles_held}
use Rattle.holding_lists.specs.Said.{edge_says}
use Rattle.holding_lists.proofs.Additions.{adds_same}
use Rattle.holding_lists.proofs.RolesSaid.{roles_read}
use Rattle.holding_lists.proofs.roles.add_roles.Goals as goal

pub returns : goal.returns
returns c =
    let links = c.roles_of-link-items.result.now in
    adds_same c.args.list.now.items c.loop-link.list.items
    (λ h. list_any (λ link. edge_says link.to c.args.account link.admin h) (take c.loop-link.link-index links)) (roles_held c.args.roles.now c.args.account)
    (roles_read c.args.roles.now c.args.account links c.loop-link.link-index c.loop-link-test.false c.roles_of-link-items.ensures.granted c.roles_of-link-items.ensures.admin)
    c.loop-link.invariant
