-- What stands after one statement more.
use Rattle.std.proofs.Common.{◌≡◌, ◌∙◌, ap, sym, subst, refl, List, [], ◌∷◌, ◌++◌}
use Rattle.acl_apply.specs.Causes.{IsCause}
use Rattle.acl_model.specs.Acceptance.{IsRefused}
use Rattle.acl_model.specs.Effects.{after, state_after}
use Rattle.acl_model.specs.State.{State}
use Rattle.acl_stmt.specs.declared.entry.Entry.{Entry}
use Rattle.acl_stmt.specs.declared.refusal.Refusal.{Refusal}

pub after_none : (before : State) → state_after [] before ≡ before
unfolding state_after
after_none before = refl

pub after_one_more : (entries : List Entry) (entry : Entry) (before : State) → state_after (entries ++ entry ∷ []) before ≡ after entry (state_after entries before)
unfolding state_after
after_one_more [] entry before = refl
after_one_more (first ∷ entries) entry before = after_one_more entries entry (after first before)

-- the state of a map after a change is that after the longer history
pub stands_after : (made was now : State) (entries longer : List Entry) (entry : Entry) (before : State) → longer ≡ entries ++ entry ∷ [] → was ≡ state_after entries before
    → now ≡ after entry was → made ≡ now → made ≡ state_after longer before
stands_after made was now entries longer entry before one_more stood changed same =
    same ∙ changed ∙ ap (after entry) stood ∙ sym (after_one_more entries entry before) ∙ ap (λ list. state_after list before) (sym one_more)

-- what refuses a statement in a state refuses it in the same one by another name
pub refused_as : (one other : State) (entry : Entry) (e : Refusal) → one ≡ other → IsCause (IsRefused one entry) e → IsCause (IsRefused other entry) e
refused_as one other entry e same cause = subst (λ s. IsCause (IsRefused s entry) e) same cause
