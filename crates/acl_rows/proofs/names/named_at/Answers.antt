use Rattle.acl_rows.proofs.NamedPrivileges.{known_of}
use Rattle.acl_rows.proofs.names.named_at.Goals as goal

pub returns-then-privileges-clause-known : goal.returns-then-privileges-clause-known
returns-then-privileges-clause-known c = c.union.ensures.known c.all_at_level.ensures.known (known_of c.args.privileges.now)

pub returns-else-privileges-clause-known : goal.returns-else-privileges-clause-known
returns-else-privileges-clause-known c = known_of c.args.privileges.now
