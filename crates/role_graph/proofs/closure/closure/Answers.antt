use Rattle.std.proofs.Common.{ap, ◌∙◌, ◌||◌, ◌&&◌, not, ◌==◌}
use Rattle.std.specs.List.{list_any}
use Rattle.role_graph.specs.Edges.{linked, leads_to}
use Rattle.role_graph.specs.Nodes.{holds}
use Rattle.role_graph.proofs.Search.{search_begins, search_goes, search_ends, fewer_left}
use Rattle.role_graph.proofs.closure.closure.Goals as goal

pub loop-next-init : goal.loop-next-init
loop-next-init c =
    search_begins (λ to from. linked c.args.links.now from to) c.args.node (holds c.insert.new.self) (holds c.new-seen.result)
    c.new-seen.ensures c.insert.ensures

pub loop-next-smaller : goal.loop-next-smaller
loop-next-smaller c =
    let links = c.args.links.now in
    let next = c.in-Some.next in
    fewer_left (λ to from. linked links from to) c.args.node next
    (holds c.loop-next.seen) (holds c.loop-next.waiting) (holds c.visit.new.seen) (holds c.visit.new.waiting)
    c.loop-next.invariant c.in-Some.ensures.held
    (λ n. c.visit.ensures.seen n ∙ ap (λ b. holds c.loop-next.seen n || b) (c.links_of.ensures.same n))
    (λ n. c.visit.ensures.waiting n
    ∙ ap (λ b. b || (list_any (leads_to n) c.links_of.result.now && not (holds c.loop-next.seen n))) (c.in-Some.ensures.left n)
    ∙ ap (λ b. (not (next == n) && holds c.loop-next.waiting n) || (b && not (holds c.loop-next.seen n))) (c.links_of.ensures.same n))
    c.in-Some.ensures.within

pub loop-next-preserved : goal.loop-next-preserved
loop-next-preserved c =
    let links = c.args.links.now in
    let next = c.in-Some.next in
    search_goes (λ to from. linked links from to) c.args.node next
    (holds c.loop-next.seen) (holds c.loop-next.waiting) (holds c.visit.new.seen) (holds c.visit.new.waiting)
    c.loop-next.invariant c.in-Some.ensures.held
    (λ n. c.visit.ensures.seen n ∙ ap (λ b. holds c.loop-next.seen n || b) (c.links_of.ensures.same n))
    (λ n. c.visit.ensures.waiting n
    ∙ ap (λ b. b || (list_any (leads_to n) c.links_of.result.now && not (holds c.loop-next.seen n))) (c.in-Some.ensures.left n)
    ∙ ap (λ b. (not (next == n) && holds c.loop-next.waiting n) || (b && not (holds c.loop-next.seen n))) (c.links_of.ensures.same n))

pub returns : goal.returns
returns c = λ other.
    search_ends (λ to from. linked c.args.links.now from to) c.args.node (holds c.loop-next.seen) (holds c.loop-next.waiting)
    c.loop-next.invariant c.in_default.ensures.empty other
