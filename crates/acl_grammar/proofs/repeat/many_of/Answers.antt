use Rattle.std.proofs.Common.{sym}
use Rattle.acl_grammar.proofs.Loops.{many_next, many_shorter}
use Rattle.acl_grammar.proofs.repeat.many_of.Goals as goal

pub items-smaller : goal.items-smaller
items-smaller g c = many_shorter g.R.Rule.grammar g.met.R.Rule.sane c.requires c.items.rest.now _ _ c.in_ok-next.ensures

pub items-preserved : goal.items-preserved
items-preserved g c =
    rw c.in_ok-push.ensures.items (many_next g.R.Rule.grammar g.met.R.Rule.sane c.requires g.R.Rule.view _
    c.items.values.items c.in_ok-next.next.value c.items.rest.now c.in_ok-next.next.rest.now
    c.items.invariant (sym c.items-test.ensures) c.in_ok-next.ensures)
