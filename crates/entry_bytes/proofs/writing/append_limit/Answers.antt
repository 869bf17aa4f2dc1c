use Rattle.entry_bytes.proofs.Names.{schema_short}
use Rattle.entry_bytes.proofs.writing.append_limit.Goals as goal
use Rattle.std.proofs.Common.{ap, ◌∙◌}
use Rattle.acl_names.specs.Limits.{ident_limit}
use Rattle.acl_names.specs.Name.{ident_fault}

pub append_short-requires : goal.append_short-requires
append_short-requires c =
    (schema_short c.as_str.result.now (record { utf8 = c.as_str.utf8; within = ap (ident_fault ident_limit) c.as_str.ensures.value ∙ c.as_str.ensures.faultless })).short
