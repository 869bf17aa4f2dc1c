use Rattle.published_copies.proofs.Rules.{admits, forks, merges}
use Rattle.published_copies.proofs.state.State.view.Goals as goal

pub reader-requires : goal.reader-requires
reader-requires g c = admits g.S.Absorb.state

pub tell-requires : goal.tell-requires
tell-requires g c = forks g.S.Absorb.state _ _

pub learn-requires-clause-rule : goal.learn-requires-clause-rule
learn-requires-clause-rule g c = merges g.S.Absorb.state _ _ _ _
