use Rattle.acl_grammar.proofs.Loops.{list_next, list_shorter}
use Rattle.acl_grammar.proofs.repeat.list_of.Goals as goal

pub items-smaller : goal.items-smaller
items-smaller g c =
    list_shorter (g.C.Class.is c.args.mark.now) g.R.Rule.grammar g.met.R.Rule.sane c.items.rest.now c.in-Ok.behind.now _ _
    c.in-Ok.ensures c.in_ok-next.ensures

pub items-preserved : goal.items-preserved
items-preserved g c =
    rw c.in_ok-push-2.ensures.items (list_next (g.C.Class.is c.args.mark.now) g.R.Rule.grammar g.met.R.Rule.sane g.R.Rule.view _
    c.items.values.items c.in_ok-next.next.value c.items.rest.now c.in-Ok.behind.now c.in_ok-next.next.rest.now
    c.items.invariant c.in-Ok.ensures c.in_ok-next.ensures)
