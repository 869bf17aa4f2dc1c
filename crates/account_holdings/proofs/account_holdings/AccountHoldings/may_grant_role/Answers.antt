use Rattle.std.proofs.Common.{◌∙◌, ap}
use Rattle.account_holdings.proofs.Roles.{admin_read}
use Rattle.role_graph.specs.Edges.{with_admin}
use Rattle.account_holdings.proofs.account_holdings.AccountHoldings.may_grant_role.Goals as goal

pub returns : goal.returns
returns c =
    c.unwrap_or.ensures ∙ admin_read c.self.inside.roles c.args.role c.args.to c.admin_of.result c.admin_of.ensures.stands c.admin_of.ensures.admin
    ∙ ap (λ v. with_admin v.roles c.args.role c.args.to) c.self.view_is
