use Rattle.mandatory_roles.proofs.Closings.{quoted_boundary}
use Rattle.mandatory_roles.proofs.cutting.quoted_at.Goals as goal

pub split_at-requires : goal.split_at-requires
split_at-requires c =
    let found = c.in_ok-length-in-len1-up.ensures in
    quoted_boundary _ _ _ c.utf8.text c.as_bytes.ensures.value c.in-len1-up.len_at_least found.within.0 found.within.1 found.quote
