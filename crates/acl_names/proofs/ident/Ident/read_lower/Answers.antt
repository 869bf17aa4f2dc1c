use Rattle.acl_names.proofs.Lowered.{ident_fault-lowered}
use Rattle.acl_names.proofs.ident.Ident.read_lower.Goals as goal
use Rattle.acl_names.specs.Limits.{ident_limit}

pub invariant_of-name : goal.invariant_of-name
invariant_of-name c =
    rw c.lower.ensures (ident_fault-lowered ident_limit c.name.inside.text c.name.invariant)
