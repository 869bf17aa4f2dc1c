use Rattle.std.proofs.Common.{sym, ◌∙◌}
use Rattle.mandatory_roles.proofs.Longest.{no_user_empty, no_user_long}
use Rattle.mandatory_roles.proofs.read.user_of.Goals as goal
use Rattle.mandatory_roles.proofs.read.user_of.Goals.{then-is_empty-via-then-is_empty, then-is_empty-via-else-is_empty+then-name}

pub returns-then-is_empty : goal.returns-then-is_empty
returns-then-is_empty c =
    elim c.then-is_empty.branch [
      | then-is_empty-via-then-is_empty w ↦ no_user_empty c.args.name.now (sym c.is_empty.ensures ∙ w.if-is_empty.true)
      | then-is_empty-via-else-is_empty+then-name w ↦ no_user_long c.args.name.now c.utf8.name w.if-name.true
    ]
