use Rattle.acl_rows.proofs.NamedPrivileges.{no_dynamic_above}
use Rattle.std.proofs.Common.{sym}
use Rattle.acl_rows.proofs.names.names_dynamic.Goals as goal

pub returns-then-number-ge20 : goal.returns-then-number-ge20
returns-then-number-ge20 c = sym (no_dynamic_above c.args.privileges.now c.args.number c.if-number-ge20.true)
