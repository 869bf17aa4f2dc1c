use Rattle.std.proofs.Common.{IsTrue}
use Rattle.acl_model.specs.declared.row.Row.TheVariants.{Global}
use Rattle.acl_rows.specs.Tables.{state_of}
use Rattle.priv_map.proofs.Masks.{IsFilledTo}
use Rattle.priv_map.proofs.levels.plain_held.Given as goal
use Rattle.priv_sets.specs.StaticSet.{holds, is_known}

abbrev pub invariant-loop-number : goal.invariant-loop-number
invariant-loop-number l = record { filled : IsFilledTo (λ q. (state_of l.rows).rows (Global l.account q)) (holds l.set) l.number; known : IsTrue (is_known l.set) }
