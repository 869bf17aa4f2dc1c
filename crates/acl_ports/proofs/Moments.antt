-- The moments of a disk in memory.
use Rattle.std.proofs.Common.{◌≡◌, ℕ, ◌+◌, ◌-◌, ◌^◌, ◌<◌, ◌≤◌, suc, min, List, [], ◌∷◌, Option, Some, Bool, true, false, nat_lt, if◌then◌else◌, Result, Ok, Err, IsErr, OnOk, OnErr, is_err, inl, inr, refl, sym, ◌∙◌, ap, subst, arith}
use Rattle.std.proofs.lemmas.Bool.Decides.{nat_tests}
use Rattle.acl_ports.specs.Crash.{BecomesDirty, BecomesSynced, Elapses, Pending, StaysPending}
use Rattle.acl_ports.specs.Faults.{next_count}
use Rattle.acl_ports.specs.MemoryDisk.{DiskState, after_disk_call, after_sync, after_write, pending_at}

-- what is pending now
pub pending_now : (disk : DiskState) → pending_at disk disk.calls.made ≡ Some disk.pending
pending_now disk =
    let at_front : min disk.calls.made disk.most_calls - disk.calls.made ≡ 0 = omega arith in
    rw at_front

kept_if : (recorded : Bool) (old new : DiskState) (next : Pending) → nat_lt old.calls.made old.most_calls ≡ recorded → old.most_calls < 2 ^ 64
    → new.calls.made ≡ next_count old.calls.made → new.most_calls ≡ old.most_calls
    → new.pending ≡ (if recorded then next else old.pending) → new.past ≡ (if recorded then old.pending ∷ old.past else old.past)
    → (moment : ℕ) → moment ≤ old.calls.made → pending_at new moment ≡ pending_at old moment
kept_if true old new next is small made most now past moment before =
    let below : old.calls.made < old.most_calls = grind (arith, nat_tests) in
    let count : new.calls.made ≡ old.calls.made + 1 = omega arith in
    let further : min new.calls.made new.most_calls - moment ≡ suc (old.calls.made - moment) = omega arith in
    let here : min old.calls.made old.most_calls - moment ≡ old.calls.made - moment = omega arith in
    rw (further, here, past)
kept_if false old new next is small made most now past moment before =
    let above : old.most_calls ≤ old.calls.made = grind (arith, nat_tests) in
    let same : min new.calls.made new.most_calls - moment ≡ min old.calls.made old.most_calls - moment = omega arith in
    rw (same, now, past)

-- one call more
pub elapses : (old new : DiskState) (next : Pending) (Step : Option Pending → Option Pending → Type 0) → old.most_calls < 2 ^ 64 → old.calls.made < 2 ^ 64
    → new.calls.made ≡ next_count old.calls.made → new.most_calls ≡ old.most_calls
    → new.pending ≡ (if nat_lt old.calls.made old.most_calls then next else old.pending)
    → new.past ≡ (if nat_lt old.calls.made old.most_calls then old.pending ∷ old.past else old.past)
    → Step (Some old.pending) (Some new.pending)
    → Elapses old.calls.made new.calls.made (pending_at old) (pending_at new) Step
elapses old new next Step small early made most now past step = record {
  tick = made;
  later = omega arith;
  kept = kept_if (nat_lt old.calls.made old.most_calls) old new next refl small made most now past;
  step = rw (pending_now old, pending_now new) step;
}

-- a call that writes nothing and syncs nothing
pub passed : {T E : Type 0} (old new : DiskState) (result : Result T E) → old.most_calls < 2 ^ 64 → old.calls.made < 2 ^ 64 → new ≡ after_disk_call old old.pending result
    → Elapses old.calls.made new.calls.made (pending_at old) (pending_at new) StaysPending
passed old new result small early is =
    elapses old new old.pending StaysPending small early (ap (λ (disk : DiskState). disk.calls.made) is) (ap (λ (disk : DiskState). disk.most_calls) is) now (ap (λ (disk : DiskState). disk.past) is) (ap Some (now ∙ same (nat_lt old.calls.made old.most_calls)))
  where
    now : new.pending ≡ (if nat_lt old.calls.made old.most_calls then old.pending else old.pending)
    now = ap (λ (disk : DiskState). disk.pending) is

    same : (recorded : Bool) → (if recorded then old.pending else old.pending) ≡ old.pending
    same true = refl
    same false = refl

-- a call that succeeded was recorded
pub recorded_if_done : {T E : Type 0} (made most : ℕ) (result : Result T E) → (most ≤ made → IsErr result) → OnOk result (nat_lt made most ≡ true)
recorded_if_done made most (Ok value) fails = grind (arith, nat_tests)
recorded_if_done made most (Err fault) fails = tt

synced_step : {T E : Type 0} (recorded : Bool) (content : List ℕ) (before : Pending) (result : Result T E) → OnOk result (recorded ≡ true)
    → BecomesSynced (Some content) result (Some before) (Some (if recorded then (if is_err result then before else record { synced = content; dirty = [] }) else before))
synced_step true content before (Ok value) done = refl
synced_step true content before (Err fault) done = refl
synced_step false content before (Ok value) done = cc
synced_step false content before (Err fault) done = refl

pub synced : {T E : Type 0} (old new : DiskState) (result : Result T E) → old.most_calls < 2 ^ 64 → old.calls.made < 2 ^ 64 → (old.most_calls ≤ old.calls.made → IsErr result)
    → new ≡ after_disk_call old (after_sync old result) result
    → Elapses old.calls.made new.calls.made (pending_at old) (pending_at new) (BecomesSynced (Some old.content) result)
synced old new result small early fails is =
    elapses old new (after_sync old result) (BecomesSynced (Some old.content) result) small early (ap (λ (disk : DiskState). disk.calls.made) is) (ap (λ (disk : DiskState). disk.most_calls) is) now (ap (λ (disk : DiskState). disk.past) is)
    (subst (λ (next : Pending). BecomesSynced (Some old.content) result (Some old.pending) (Some next)) (sym now) (synced_step (nat_lt old.calls.made old.most_calls) old.content old.pending result (recorded_if_done old.calls.made old.most_calls result fails)))
  where
    now : new.pending ≡ (if nat_lt old.calls.made old.most_calls then after_sync old result else old.pending)
    now = ap (λ (disk : DiskState). disk.pending) is

dirty_step : {T E : Type 0} (recorded : Bool) (at count : ℕ) (before : Pending) (result : Result T E) → OnOk result (recorded ≡ true)
    → BecomesDirty at count result (Some before) (Some (if recorded then after_write at count before else before))
dirty_step true at count before (Ok value) done = refl
dirty_step true at count before (Err fault) done = inr refl
dirty_step false at count before (Ok value) done = cc
dirty_step false at count before (Err fault) done = inl refl

-- a write, whatever it answers
pub written : {T E : Type 0} (old new : DiskState) (at count : ℕ) (result : Result T E) → old.most_calls < 2 ^ 64 → old.calls.made < 2 ^ 64 → (old.most_calls ≤ old.calls.made → IsErr result)
    → new.calls.made ≡ next_count old.calls.made → new.most_calls ≡ old.most_calls
    → new.pending ≡ (if nat_lt old.calls.made old.most_calls then after_write at count old.pending else old.pending)
    → new.past ≡ (if nat_lt old.calls.made old.most_calls then old.pending ∷ old.past else old.past)
    → Elapses old.calls.made new.calls.made (pending_at old) (pending_at new) (BecomesDirty at count result)
written old new at count result small early fails made most now past =
    elapses old new (after_write at count old.pending) (BecomesDirty at count result) small early made most now past
    (subst (λ (next : Pending). BecomesDirty at count result (Some old.pending) (Some next)) (sym now) (dirty_step (nat_lt old.calls.made old.most_calls) at count old.pending result (recorded_if_done old.calls.made old.most_calls result fails)))

-- one that failed
pub written_in_vain : {T E : Type 0} (old new : DiskState) (at count : ℕ) (result : Result T E) → old.most_calls < 2 ^ 64 → old.calls.made < 2 ^ 64 → IsErr result
    → OnErr result (new ≡ after_disk_call old (after_write at count old.pending) result)
    → Elapses old.calls.made new.calls.made (pending_at old) (pending_at new) (BecomesDirty at count result)
written_in_vain old new at count (Ok value) small early failed is = cc
written_in_vain {T} {E} old new at count (Err fault) small early failed is =
    written {T = T} {E = E} old new at count (Err fault) small early (λ _. refl) (ap (λ (disk : DiskState). disk.calls.made) is) (ap (λ (disk : DiskState). disk.most_calls) is) (ap (λ (disk : DiskState). disk.pending) is) (ap (λ (disk : DiskState). disk.past) is)
