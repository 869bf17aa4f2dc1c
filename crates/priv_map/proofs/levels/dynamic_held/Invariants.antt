use Rattle.std.proofs.Common.{◌&&◌}
use Rattle.acl_model.specs.declared.row.Row.TheVariants.{Dynamic, DynamicGrant}
use Rattle.acl_rows.specs.Tables.{state_of}
use Rattle.priv_map.proofs.Masks.{IsFilledTo}
use Rattle.priv_map.proofs.levels.dynamic_held.Given as goal
use Rattle.priv_sets.specs.DynamicSet.{grants_dynamic, holds_dynamic}

abbrev pub invariant-loop-number : goal.invariant-loop-number
invariant-loop-number l = record {
  held : IsFilledTo (λ d. (state_of l.rows).rows (Dynamic l.account d)) (holds_dynamic l.set) l.number;
  grantable : IsFilledTo (λ d. (state_of l.rows).rows (Dynamic l.account d) && (state_of l.rows).rows (DynamicGrant l.account d)) (grants_dynamic l.set) l.number;
}
