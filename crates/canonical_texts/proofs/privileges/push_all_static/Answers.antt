use Rattle.priv_items.specs.Canonical.{static_at}
use Rattle.canonical_texts.proofs.Members.{below_start, below_step}
use Rattle.canonical_texts.specs.Privileges.{item_text}
use Rattle.canonical_texts.proofs.privileges.push_all_static.Goals as goal

pub loop-number-init : goal.loop-number-init
loop-number-init c = below_start (static_at item_text c.args.privileges.now) _

pub loop-number-preserved : goal.loop-number-preserved
loop-number-preserved c = below_step (static_at item_text c.args.privileges.now) _ _ _ _ c.in_ok-push_static.ensures c.loop-number.invariant
