use Rattle.mandatory_roles.proofs.Longest.{no_host_long}
use Rattle.mandatory_roles.proofs.read.host_of.Goals as goal

pub returns-then-text : goal.returns-then-text
returns-then-text c = no_host_long c.args.text.now c.utf8.text c.if-text.true
