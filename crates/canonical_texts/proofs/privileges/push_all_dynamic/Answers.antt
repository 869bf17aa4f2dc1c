use Rattle.priv_items.specs.Canonical.{dynamic_at}
use Rattle.canonical_texts.proofs.Members.{below_start, below_step}
use Rattle.canonical_texts.specs.Privileges.{item_text}
use Rattle.canonical_texts.proofs.privileges.push_all_dynamic.Goals as goal

pub loop-number-init : goal.loop-number-init
loop-number-init c = below_start (dynamic_at item_text c.args.dynamic) _

pub loop-number-preserved : goal.loop-number-preserved
loop-number-preserved c = below_step (dynamic_at item_text c.args.dynamic) _ _ _ _ c.in_ok-push_dynamic.ensures c.loop-number.invariant
