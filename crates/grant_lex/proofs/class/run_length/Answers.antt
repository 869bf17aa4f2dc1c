use Rattle.std.proofs.Common.{sym, ◌∙◌, arith, rules}
use Rattle.grant_lex.specs.Next.{IsOf}
use Rattle.grant_lex.proofs.Runs.{all_take_more, run_at}
use Rattle.grant_lex.proofs.class.run_length.Goals as goal

pub loop-length-preserved : goal.loop-length-preserved
loop-length-preserved c = record {
  within = omega arith;
  each = all_take_more (IsOf c.args.class) _ _ c.loop-length-test.true c.loop-length.invariant.each (sym c.class_of.ensures ∙ search (rules, c.if-eq.ensures));
}

pub returns-else-eq : goal.returns-else-eq
returns-else-eq c =
    run_at _ _ _ c.loop-length.invariant.within c.loop-length.invariant.each
    (λ lt same. search (rules, c.class_of.ensures ∙ same, c.if-eq.ensures))
