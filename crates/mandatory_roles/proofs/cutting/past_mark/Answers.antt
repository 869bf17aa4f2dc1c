use Rattle.std.proofs.Common.{List, ℕ, arith, get_or, length, ◌<◌, ◌≤◌, subst}
use Rattle.std.proofs.lemmas.Str.{IsCharBoundary-after_ascii}
use Rattle.mandatory_roles.proofs.cutting.past_mark.Goals as goal

pub range_from-requires : goal.range_from-requires
range_from-requires c =
    let read : get_or c.as_bytes.result.now 0 0 < 128 = omega arith in
    let first = subst (λ (l : List ℕ). get_or l 0 0 < 128) c.as_bytes.ensures.value read in
    let some = subst (λ (l : List ℕ). 1 ≤ length l) c.as_bytes.ensures.value c.in-len1-up.len_at_least in
    λ _. IsCharBoundary-after_ascii c.args.text.now 0 c.utf8.text some first
