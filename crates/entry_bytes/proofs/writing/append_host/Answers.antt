use Rattle.entry_bytes.proofs.Names.{host_short}
use Rattle.entry_bytes.proofs.writing.append_host.Goals as goal
use Rattle.std.proofs.Common.{subst, sym}
use Rattle.acl_names.specs.Limits.{host_limit}
use Rattle.acl_names.specs.Name.{IsLowerName}

pub append_short-requires : goal.append_short-requires
append_short-requires c =
    (host_short c.as_str.result.now
    (record { utf8 = c.as_str.utf8; within = subst (IsLowerName host_limit) (sym c.as_str.ensures.value) c.as_str.ensures.host })).short
