use Rattle.std.specs.List.Sorted.{IsStrictlySortedBy}
use Rattle.acl_names.specs.Text.{text_cmp}
use Rattle.priv_map.proofs.LimitLists.{gathered_all, gathered_in_order, gathered_more, gathered_none}
use Rattle.priv_map.proofs.restrictions.restrictions_of.Goals as goal

pub loop-schema-init : goal.loop-schema-init
loop-schema-init c =
    let sorted : IsStrictlySortedBy text_cmp c.deref-schema-items.result.now = rw c.deref-schema-items.ensures.value c.in_ok-schemas.ensures.order in
    rw c.new-limits.ensures (gathered_none c.args.rows.now c.args.account.now c.args.plain c.deref-schema-items.result.now sorted)

pub loop-schema-preserved : goal.loop-schema-preserved
loop-schema-preserved c =
    gathered_more c.args.rows.now c.args.account.now c.args.plain c.deref-schema-items.result.now c.loop-schema.schema-index c.schema-item.result
    c.loop-schema-test.true c.schema-item.is c.loop-schema.limits c.add_limit.new.limits c.restricted_on-privileges.result
    c.in_ok-add_limit.ensures c.restricted_on-privileges.ensures.members c.loop-schema.invariant

pub returns-clause-limited : goal.returns-clause-limited
returns-clause-limited c =
    gathered_all c.loop-schema.limits c.args.rows.now c.args.account.now c.args.plain c.deref-schema-items.result.now c.loop-schema.schema-index
    c.loop-schema-test.false (λ s. rw c.deref-schema-items.ensures.value (c.in_ok-schemas.ensures.listed s)) c.loop-schema.invariant

pub returns-clause-order : goal.returns-clause-order
returns-clause-order c =
    gathered_in_order c.loop-schema.limits c.args.rows.now c.args.account.now c.args.plain c.deref-schema-items.result.now c.loop-schema.schema-index
    c.loop-schema-test.false c.loop-schema.invariant
