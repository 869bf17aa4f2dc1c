use Rattle.acl_rows.proofs.NamedPrivileges.{none_named_above}
use Rattle.std.proofs.Common.{sym}
use Rattle.acl_rows.proofs.names.names_static.Goals as goal

pub returns-then-number-ge31 : goal.returns-then-number-ge31
returns-then-number-ge31 c = sym (none_named_above c.args.privileges.now c.args.level c.args.number c.if-number-ge31.true)
