use Rattle.std.proofs.Common.{◌∙◌, sym}
use Rattle.acl_rows.proofs.NamedPrivileges.{named_below}
use Rattle.grant_effects.proofs.granted.grants_number.Goals as goal

pub returns-then-names_static-clause-below : goal.returns-then-names_static-clause-below
returns-then-names_static-clause-below c = λ granted. named_below c.args.grant.now.privileges.now _ c.args.number (sym c.names_static.ensures ∙ c.if-names_static.true)
