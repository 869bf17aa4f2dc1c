-- Entries that issue feasible statements without limits.
use Rattle.std.proofs.Common.{◌≡◌, ◌∙◌, ap, sym, subst, refl, List, [], ◌∷◌, Option, Some, None, inl, inr}
use Rattle.acl_model.specs.Acceptance.{IsFeasible, IsRefused}
use Rattle.acl_model.specs.Effects.{after, changed, state_after}
use Rattle.acl_model.specs.State.{State}
use Rattle.acl_stmt.specs.declared.entry.Entry.{Entry}
use Rattle.acl_stmt.specs.declared.limit.Limit.{Limit}
use Rattle.acl_stmt.specs.declared.refusal.Refusal.{Refusal}
use Rattle.acl_stmt.specs.declared.refusal.Refusal.TheVariants.{AccountExists, Closed, Denied, DiskFault, Full, HistoryFull, Loop, Mandatory, NoMemory, NoSuchAccount, NoSuchGrant, NotGranted}
use Rattle.acl_stmt.specs.declared.statement.Statement.{Statement}
use Rattle.show_grants.specs.Carried.{carried}
use Rattle.shown_laws.proofs.Feasible.{AreFeasible}
use Rattle.shown_laws.specs.Again.{AreEntriesOf, AreLimitedAlone, IsFull, IsLimitedAlone}

entry_after : (entry : Entry) (s : Statement) (st : State) → entry.statement ≡ s → entry.limits ≡ [] → after entry st ≡ changed [] s st
unfolding after
entry_after entry s st is none = ap (λ (l : List Limit). changed l entry.statement st) none ∙ ap (λ (x : Statement). changed [] x st) is

pub carried_entries : (ss : List Statement) (entries : List Entry) (st : State) → AreEntriesOf ss entries → state_after entries st ≡ carried ss st
unfolding carried state_after
carried_entries [] [] st are = refl
carried_entries [] (entry ∷ entries) st are = absurd are
carried_entries (s ∷ ss) [] st are = absurd are
carried_entries (s ∷ ss) (entry ∷ entries) st are =
    carried_entries ss entries (after entry st) are.1.1 ∙ ap (carried ss) (entry_after entry s st are.0 are.1.0)

not_both : (o : Option Refusal) (r : Refusal) → o ≡ Some r → o ≡ None → ⊥
not_both o r some none = cc

refused_full : (st : State) (entry : Entry) → IsFeasible st entry.statement → (refusal : Refusal) → IsRefused st entry refusal → IsFull refusal
refused_full st entry feasible (Loop role account) is = absurd (feasible.no_loop is.1.before (role, account) is.1.rest is.1.split is.1.loops)
refused_full st entry feasible (NoSuchGrant account) (inl fault) = absurd (not_both _ _ fault feasible.no_fault)
refused_full st entry feasible (NoSuchGrant account) (inr lack) = absurd (feasible.no_lack lack.1.before account lack.1.rest lack.1.split lack.1.has)
refused_full st entry feasible (Full what) is = tt
refused_full st entry feasible (NoSuchAccount account) is = absurd (not_both _ _ is feasible.no_fault)
refused_full st entry feasible (AccountExists account) is = absurd (not_both _ _ is feasible.no_fault)
refused_full st entry feasible (Mandatory role) is = absurd (not_both _ _ is feasible.no_fault)
refused_full st entry feasible (NotGranted role account) is = absurd (not_both _ _ is feasible.no_fault)
refused_full st entry feasible Closed is = absurd (not_both _ _ is feasible.no_fault)
refused_full st entry feasible (Denied missing) is = absurd (not_both _ _ is feasible.no_fault)
refused_full st entry feasible HistoryFull is = absurd (not_both _ _ is feasible.no_fault)
refused_full st entry feasible DiskFault is = absurd (not_both _ _ is feasible.no_fault)
refused_full st entry feasible NoMemory is = absurd (not_both _ _ is feasible.no_fault)

limited_alone : (st : State) (entry : Entry) → IsFeasible st entry.statement → IsLimitedAlone st entry
limited_alone st entry feasible = record {
  only = refused_full st entry feasible;
  accepted = λ within. record { feasible = feasible; within = within };
}

pub entries_limited : (ss : List Statement) (entries : List Entry) (st : State) → AreEntriesOf ss entries → AreFeasible ss st → AreLimitedAlone entries st
entries_limited [] [] st are feasible = tt
entries_limited [] (entry ∷ entries) st are feasible = absurd are
entries_limited (s ∷ ss) [] st are feasible = absurd are
entries_limited (s ∷ ss) (entry ∷ entries) st are feasible = (
  limited_alone st entry (subst (λ (x : Statement). IsFeasible st x) (sym are.0) feasible.0),
  entries_limited ss entries (after entry st) are.1.1 (subst (λ (x : State). AreFeasible ss x) (sym (entry_after entry s st are.0 are.1.0)) feasible.1),
)
