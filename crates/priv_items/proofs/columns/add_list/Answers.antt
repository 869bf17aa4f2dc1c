use Rattle.std.proofs.Common.{sym, ◌+◌, ◌∙◌, true≢false}
use Rattle.std.proofs.lemmas.Result.{on_ok_weaker}
use Rattle.std.specs.List.{list_all}
use Rattle.priv_items.proofs.InOrder.{below_more, below_push, is_below}
use Rattle.priv_items.proofs.NamedColumns.{listed_columns_of}
use Rattle.priv_items.proofs.columns.add_list.Goals as goal

pub returns-then-is_empty-clause-below : goal.returns-then-is_empty-clause-below
returns-then-is_empty-clause-below c = below_more c.args.lists.now c.args.privilege c.requires.below

pub invariant_of-push : goal.invariant_of-push
invariant_of-push c =
    record {
      listed = listed_columns_of c.args.items.now _ _ _ c.number.ensures.same c.in_ok-names.ensures c.requires.levels c.requires.few (λ none. true≢false (sym (c.is_empty.ensures.1 none) ∙ c.if-is_empty.false));
    }

pub returns-clause-below : goal.returns-clause-below
returns-clause-below c =
    on_ok_weaker c.push.result (λ pushed. (λ i. list_all (is_below (c.args.privilege + 1)) (pushed i)) ∙ below_push c.args.lists.now _ c.args.privilege c.number.ensures.same c.requires.below) c.push.ensures.ok
