use Rattle.canonical_texts.proofs.Members.{activate_off, activate_on, pushed}
use Rattle.canonical_texts.proofs.settings.write_activate.Goals as goal

pub returns-then-on : goal.returns-then-on
returns-then-on c = pushed c.push_str.result _ _ _ _ c.push_str.ensures.bytes (activate_on c.args.on c.if-on.true)

pub returns-else-on : goal.returns-else-on
returns-else-on c = pushed c.push_str-else-on.result _ _ _ _ c.push_str-else-on.ensures.bytes (activate_off c.args.on c.if-on.false)
