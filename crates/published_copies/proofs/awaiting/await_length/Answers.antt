use Rattle.std.proofs.Common.{◌∷◌, [], ap, ◌∙◌, arith}
use Rattle.published_copies.specs.Views.{read_of, reads}
use Rattle.published_copies.proofs.Hearing.{reads_one}
use Rattle.published_copies.proofs.awaiting.await_length.Goals as goal

pub loop-now-init : goal.loop-now-init
loop-now-init g c = let e = c.in_ok-now.ensures.read in let before = c.args.view.now.heard in record {
  more = (c.in_ok-now.ensures.book, (read_of e.0 ∷ [], e.2));
  newest = (e.0, before, e.2, e.3);
  counted = ap reads e.2 ∙ reads_one e.0 before;
  some = omega arith;
  within = omega arith;
}

pub loop-now-preserved : goal.loop-now-preserved
loop-now-preserved g c = let e = c.in_ok-now-2.ensures.read in let i = c.loop-now.invariant in let before = c.loop-now.view.heard in record {
  more = (c.in_ok-now-2.ensures.book ∙ i.more.0, (read_of e.0 ∷ i.more.1.0, e.2 ∙ ap (λ l. read_of e.0 ∷ l) i.more.1.1));
  newest = (e.0, before, e.2, e.3);
  counted = omega (arith, ap reads e.2 ∙ reads_one e.0 before, i.counted);
  some = omega arith;
  within = omega arith;
}
