use Rattle.entry_bytes.proofs.Names.{user_short}
use Rattle.entry_bytes.proofs.writing.append_user.Goals as goal
use Rattle.std.proofs.Common.{ap, ◌∙◌}
use Rattle.acl_names.specs.Limits.{user_limit}
use Rattle.acl_names.specs.Name.{name_fault}

pub append_short-requires : goal.append_short-requires
append_short-requires c =
    (user_short c.as_str.result.now (record { utf8 = c.as_str.utf8; within = ap (name_fault user_limit) c.as_str.ensures.value ∙ c.as_str.ensures.faultless })).short
