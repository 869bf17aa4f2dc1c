use Rattle.priv_map.proofs.LimitLists.{IsGathered}
use Rattle.priv_map.proofs.restrictions.restrictions_of.Given as goal

abbrev pub invariant-loop-schema : goal.invariant-loop-schema
invariant-loop-schema l = IsGathered l.limits l.rows l.account l.plain l.schema-items l.schema-index
