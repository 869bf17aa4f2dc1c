-- Histories that grow.
use Rattle.std.proofs.Common.{◌≡◌, List, [], ◌∷◌, ◌++◌, refl}
use Rattle.acl_model.specs.Effects.{after, state_after}
use Rattle.acl_model.specs.State.{State}
use Rattle.acl_stmt.specs.declared.entry.Entry.{Entry}

pub state_after_push : (entries : List Entry) (entry : Entry) (before : State) →
    state_after (entries ++ entry ∷ []) before ≡ after entry (state_after entries before)
unfolding state_after
state_after_push [] entry before = refl
state_after_push (first ∷ rest) entry before = state_after_push rest entry (after first before)
