use Rattle.std.proofs.Common.{take}
use Rattle.acl_model.specs.Firsts.{HasNone}
use Rattle.acl_rows.specs.Tables.{state_of}
use Rattle.revoke_effects.specs.Found.{FindsNothing}
use Rattle.revoke_effects.proofs.found.first_without_grant.Given as goal

abbrev pub invariant-loop-account : goal.invariant-loop-account
invariant-loop-account l = HasNone (FindsNothing (state_of l.before) l.privileges l.target) (take l.account-index l.accounts)
