use Rattle.std.proofs.Common.{◌≡◌, ◌<◌, ◌≤◌, ◌+◌, ◌∙◌, ap, subst, sym, refl, Bool, true, false, not, ◌&&◌, ◌==◌, if◌then◌else◌, ℕ, arith}
use Rattle.std.proofs.Math.Bool.{and-true}
use Rattle.account_holdings.proofs.Changes.{admin_changes}
use Rattle.account_holdings.proofs.Roles.{edge_again, gone, granted_with_admin, is_ok, no_path, option_gone}
use Rattle.account_holdings.specs.Holdings.{holds, same_holding}
use Rattle.account_holdings.specs.Rooms.{LosesAtMost}
use Rattle.account_holdings.specs.declared.holding.Holding.TheVariants.{Admin}
use Rattle.account_holdings.specs.contracts.account_holdings.AccountHoldings.{the_view}
use Rattle.role_graph.specs.Edges.{Edges, granted, with_admin}
use Rattle.role_graph.specs.declared.graph.Added.TheVariants as added
use Rattle.account_holdings.proofs.account_holdings.AccountHoldings.take_admin.Goals as goal

one_more : (stood : Bool) (old new : ℕ) → stood ≡ true → new ≡ old + (if stood then 1 else 0) → new ≡ old + 1
one_more true old new is room = room
one_more false old new is room = cc

none_more : (stands : Bool) (old new : ℕ) → stands ≡ false → new + (if stands then 0 else 1) ≡ old → new + 1 ≡ old
none_more false old new is room = room
none_more true old new is room = cc

module _ (old : Edges) (role to : ℕ) (read : Bool) (is_true : read ≡ true) (reads : read ≡ with_admin old role to) where
  pub stands : granted old role to ≡ true
  stands = granted_with_admin old role to (sym reads ∙ is_true)

pub add_edge-requires-clause-room : goal.add_edge-requires-clause-room
add_edge-requires-clause-room c =
    let reads = c.may_grant_role.ensures ∙ ap (λ v. with_admin v.roles c.args.role c.args.to) (sym c.self.view_is) in
    let there = stands c.self.inside.roles c.args.role c.args.to c.may_grant_role.result c.if-may_grant_role.true reads in
    let more = one_more c.remove_edge.result c.self.inside.roles.room c.remove_edge.new.self.room (c.remove_edge.ensures.stood ∙ there) c.remove_edge.ensures.room in
    omega (arith, more)

pub returns-then-may_grant_role-clause-without : goal.returns-then-may_grant_role-clause-without
returns-then-may_grant_role-clause-without c =
    let reads = c.may_grant_role.ensures ∙ ap (λ v. with_admin v.roles c.args.role c.args.to) (sym c.self.view_is) in
    let there = stands c.self.inside.roles c.args.role c.args.to c.may_grant_role.result c.if-may_grant_role.true reads in
    let ok = is_ok c.add_edge.result (λ loop. no_path c.self.inside.roles c.remove_edge.new.self c.args.role c.args.to there c.remove_edge.ensures.granted
    c.has_no_loops.ensures (c.add_edge.ensures.refused.0 loop)) in
    λ holding. admin_changes (λ x y. x && not y) and-true (the_view c.self.inside) c.add_edge.new.self c.args.role c.args.to
    (option_gone c.self.inside.roles c.remove_edge.new.self c.add_edge.new.self c.args.role c.args.to c.remove_edge.ensures.admin (c.add_edge.ensures.admin ok))
    (edge_again c.self.inside.roles c.remove_edge.new.self c.args.role c.args.to there c.remove_edge.ensures.granted c.add_edge.new.self (c.add_edge.ensures.granted ok)) holding
    ∙ ap (λ v. holds v holding && not (same_holding holding (Admin c.args.role c.args.to))) c.self.view_is

pub returns-then-may_grant_role-clause-room : goal.returns-then-may_grant_role-clause-room
returns-then-may_grant_role-clause-room c =
    let reads = c.may_grant_role.ensures ∙ ap (λ v. with_admin v.roles c.args.role c.args.to) (sym c.self.view_is) in
    let there = stands c.self.inside.roles c.args.role c.args.to c.may_grant_role.result c.if-may_grant_role.true reads in
    let ok = is_ok c.add_edge.result (λ loop. no_path c.self.inside.roles c.remove_edge.new.self c.args.role c.args.to there c.remove_edge.ensures.granted
    c.has_no_loops.ensures (c.add_edge.ensures.refused.0 loop)) in
    let more = one_more c.remove_edge.result c.self.inside.roles.room c.remove_edge.new.self.room (c.remove_edge.ensures.stood ∙ there) c.remove_edge.ensures.room in
    let less = none_more (granted c.remove_edge.new.self c.args.role c.args.to) c.remove_edge.new.self.room c.add_edge.new.self.room
    (gone c.self.inside.roles c.remove_edge.new.self c.args.role c.args.to there c.remove_edge.ensures.granted) (c.add_edge.ensures.room ok) in
    let same : c.self.inside.roles.room ≤ c.add_edge.new.self.room + 0 = omega (arith, more, less) in
    subst (λ v. LosesAtMost 0 v (the_view (record c.self.inside { roles = c.add_edge.new.self }))) c.self.view_is
    (record { accounts = omega arith; pairs = omega arith; schemas = omega arith; object_pairs = omega arith; objects = omega arith; roles = same; default_pairs = omega arith; default_roles = omega arith })
