use Rattle.std.proofs.Common.{◌∙◌, sym}
use Rattle.entry_fields.proofs.Tests.{last_behind}
use Rattle.entry_fields.proofs.rules.comes_behind.Goals as goal

pub returns-in-Some : goal.returns-in-Some
returns-in-Some c = c.lt.ensures ∙ sym (last_behind c.args.limits.now c.in-Some.limit.now c.args.schema.now (sym c.in-Some.ensures.value))
