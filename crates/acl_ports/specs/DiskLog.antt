-- The calls that a disk in memory has recorded, the last first, and what they tell of earlier moments.
use Rattle.std.specs.Prelude.{◌≡◌, ℕ, ◌+◌, ◌-◌, ◌<◌, ◌≤◌, List, [], ◌∷◌, ◌++◌, length, take, drop, nat_lt, Result, is_err, if◌then◌else◌}
use Rattle.acl_ports.specs.Calls.{Calls, after_call}
use Rattle.acl_ports.specs.Crash.{Pending}
use Rattle.acl_ports.specs.declared.disk_log.Call.{Call}
use Rattle.acl_ports.specs.declared.disk_log.Call.TheVariants.{Passed, Broken, Written, Synced}

-- the calls that are recorded, the last first; how many are recorded at most; and their numbers
pub record LogState : Type 0 where
  pub log : List Call
  pub most : ℕ
  pub calls : Calls

-- one call more, which is recorded where there is room
abbrev pub after_logged : {T E : Type 0} → LogState → Call → Call → Result T E → LogState
after_logged state done broken result = record state {
  log = if nat_lt state.calls.made state.most then (if is_err result then broken else done) ∷ state.log else state.log;
  calls = after_call state.calls result;
}

-- the replaced bytes before the last write, of which it replaced so many
abbrev pub replaced_before : ℕ → List ℕ → List ℕ
replaced_before over replaced = take (length replaced - over) replaced

-- the content before the last write, which wrote so many bytes there
abbrev pub content_before : ℕ → ℕ → ℕ → List ℕ → List ℕ → List ℕ
content_before at count over replaced content =
    take at content ++ drop (length replaced - over) replaced ++ drop (at + count) content

-- the content at the last sync that succeeded, or at first
abbrev pub content_synced : List Call → List ℕ → List ℕ → List ℕ
content_synced [] replaced content = content
content_synced (Passed ∷ log) replaced content = content_synced log replaced content
content_synced (Broken at count ∷ log) replaced content = content_synced log replaced content
content_synced (Written at count over ∷ log) replaced content =
    content_synced log (replaced_before over replaced) (content_before at count over replaced content)
content_synced (Synced ∷ log) replaced content = content

-- the ranges that were written since then
abbrev pub ranges_written : List Call → List (ℕ × ℕ)
ranges_written [] = []
ranges_written (Passed ∷ log) = ranges_written log
ranges_written (Broken at count ∷ log) = (at, count) ∷ ranges_written log
ranges_written (Written at count over ∷ log) = (at, count) ∷ ranges_written log
ranges_written (Synced ∷ log) = []

-- what is pending after these calls
abbrev pub pending_after : List Call → List ℕ → List ℕ → Pending
pending_after log replaced content = record { synced = content_synced log replaced content; dirty = ranges_written log }

-- what was pending before each of them, the last first
abbrev pub pending_before : List Call → List ℕ → List ℕ → List Pending
pending_before [] replaced content = []
pending_before (Passed ∷ log) replaced content = pending_after log replaced content ∷ pending_before log replaced content
pending_before (Broken at count ∷ log) replaced content = pending_after log replaced content ∷ pending_before log replaced content
pending_before (Written at count over ∷ log) replaced content =
    pending_after log (replaced_before over replaced) (content_before at count over replaced content)
    ∷ pending_before log (replaced_before over replaced) (content_before at count over replaced content)
pending_before (Synced ∷ log) replaced content = pending_after log replaced content ∷ pending_before log replaced content

-- a write of so many bytes there, of which so many replaced others, can be undone
pub record CanBeUndone (at count over : ℕ) (replaced content : List ℕ) : Type 0 where
  pub within : at + count ≤ length content
  pub fewer : over ≤ count
  pub recorded : over ≤ length replaced
  pub grown : over < count → at + count ≡ length content

-- each write since the last sync can be undone, the last first
abbrev pub CanReturn : List Call → List ℕ → List ℕ → Type 0
CanReturn [] replaced content = Unit {0}
CanReturn (Passed ∷ log) replaced content = CanReturn log replaced content
CanReturn (Broken at count ∷ log) replaced content = CanReturn log replaced content
CanReturn (Written at count over ∷ log) replaced content =
    CanBeUndone at count over replaced content
    × CanReturn log (replaced_before over replaced) (content_before at count over replaced content)
CanReturn (Synced ∷ log) replaced content = Unit {0}
