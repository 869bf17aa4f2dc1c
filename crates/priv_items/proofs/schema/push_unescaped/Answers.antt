use Rattle.priv_items.proofs.Escaping.{step_back, step_on}
use Rattle.priv_items.proofs.schema.push_unescaped.Goals as goal

pub returns-then-character-eq92 : goal.returns-then-character-eq92
returns-then-character-eq92 c = step_back c.args.held c.args.character _ _ c.if-character-eq92.true c.in_ok-push_held.ensures

pub returns : goal.returns
returns c = step_on c.args.held c.args.character _ _ _ c.if-character-eq92.false c.in_ok-push_held.ensures c.in_ok-push.ensures.bytes
