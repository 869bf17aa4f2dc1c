use Rattle.std.proofs.Common.{refl}
use Rattle.priv_map.specs.MapState.{state_in}
use Rattle.priv_map.proofs.ReadAt.{read_at}
use Rattle.priv_map.proofs.map.PrivMap.acting.Goals as goal

pub returns-clause-read : goal.returns-clause-read
returns-clause-read c =
    read_at _ (state_in c.args.self.now) c.args.account.now c.as_slice.result.now c.in_ok-copy.ensures refl
    c.plain_held-plain.ensures.members c.dynamic_held-dynamic.ensures.held c.dynamic_held-dynamic.ensures.grantable
    (λ r. rw c.as_slice.ensures (c.in_ok-rows.ensures.rows r)) c.in_ok-restrictions.ensures.limited
