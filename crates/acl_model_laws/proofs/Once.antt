-- What is refused is not accepted.
use Rattle.std.proofs.Common.{◌≡◌, Option, Some, None, inl, inr}
use Rattle.acl_model.specs.Acceptance.{IsAccepted, IsRefused}
use Rattle.acl_model.specs.Firsts.{HasNone, IsFirst}
use Rattle.acl_model.specs.State.{State}
use Rattle.acl_stmt.specs.declared.entry.Entry.{Entry}
use Rattle.acl_stmt.specs.declared.refusal.Refusal.{Refusal}
use Rattle.acl_stmt.specs.declared.refusal.Refusal.TheVariants.{AccountExists, Closed, Denied, DiskFault, Full, HistoryFull, Loop, Mandatory, NoMemory, NoSuchAccount, NoSuchGrant, NotGranted}
use Rattle.std.proofs.Common.{List}

not_both : {A : Type 0} (o : Option A) (a : A) → o ≡ Some a → o ≡ None → ⊥
not_both o a some none = cc

none_is_not_first : {X : Type 0} (P : X → Type 0) (items : List X) (item : X) → IsFirst P items item → HasNone P items → ⊥
none_is_not_first P items item first none = none first.before item first.rest first.split first.has

pub refused_once : (state : State) (entry : Entry) (refusal : Refusal) → IsRefused state entry refusal → IsAccepted state entry → ⊥
refused_once state entry (Loop role account) is accepted =
    accepted.feasible.no_loop is.1.before (role, account) is.1.rest is.1.split is.1.loops
refused_once state entry (NoSuchGrant account) (inl fault) accepted = not_both _ _ fault accepted.feasible.no_fault
refused_once state entry (NoSuchGrant account) (inr lack) accepted = none_is_not_first _ _ account lack.1 accepted.feasible.no_lack
refused_once state entry (Full what) is accepted = none_is_not_first _ _ what is.1 accepted.within
refused_once state entry (NoSuchAccount account) is accepted = not_both _ _ is accepted.feasible.no_fault
refused_once state entry (AccountExists account) is accepted = not_both _ _ is accepted.feasible.no_fault
refused_once state entry (Mandatory role) is accepted = not_both _ _ is accepted.feasible.no_fault
refused_once state entry (NotGranted role account) is accepted = not_both _ _ is accepted.feasible.no_fault
refused_once state entry Closed is accepted = not_both _ _ is accepted.feasible.no_fault
refused_once state entry (Denied missing) is accepted = not_both _ _ is accepted.feasible.no_fault
refused_once state entry HistoryFull is accepted = not_both _ _ is accepted.feasible.no_fault
refused_once state entry DiskFault is accepted = not_both _ _ is accepted.feasible.no_fault
refused_once state entry NoMemory is accepted = not_both _ _ is accepted.feasible.no_fault
