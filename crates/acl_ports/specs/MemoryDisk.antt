use Rattle.std.specs.Prelude.{ℕ, ◌+◌, ◌-◌, ◌<◌, ◌≤◌, ◌⊎◌, min, List, [], ◌∷◌, length, take, drop, get_or, nat_lt, Option, Some, Result, is_err, if◌then◌else◌}
use Rattle.acl_ports.specs.Calls.{Calls, IsListed, after_call}
use Rattle.acl_ports.specs.Crash.{Pending}
use Rattle.acl_ports.specs.Disk.{content_after_write}
use Rattle.acl_ports.specs.declared.keep.Keep.{Keep}
use Rattle.acl_ports.specs.declared.keep.Keep.TheVariants.{Synced, Written}

-- The bytes that a read gives; what is pending, and what was so before each recorded call, the last
-- first; how many bytes the writes have replaced; how many bytes the disk holds at most, and keeps at
-- most of those that were replaced; how many calls it records at most; and the calls.
pub record DiskState : Type 0 where
  pub content : List ℕ
  pub pending : Pending
  pub past : List Pending
  pub replaced : ℕ
  pub room : ℕ
  pub most_calls : ℕ
  pub calls : Calls

-- any call fails: its number is in the list, or there is no room to record it
abbrev pub FailsNextCall : DiskState → Type 0
FailsNextCall disk = IsListed disk.calls ⊎ (disk.most_calls ≤ disk.calls.made)

-- the bytes below the old end that a write of this many bytes there replaces
abbrev pub replaced_bytes : List ℕ → ℕ → ℕ → List ℕ
replaced_bytes held at count = take count (drop at held)

-- after a write of these bytes the disk would hold more, or keep more of what was replaced, than it has room for
abbrev pub IsTooLarge : DiskState → ℕ → List ℕ → Type 0
IsTooLarge disk at bytes =
    (disk.room < length (content_after_write disk.content at bytes))
    ⊎ (disk.room < disk.replaced + length (replaced_bytes disk.content at (length bytes)))

-- one call more, after which this is pending: it is recorded while there is room
abbrev pub after_disk_call : {T E : Type 0} → DiskState → Pending → Result T E → DiskState
after_disk_call disk next result = record disk {
  pending = if nat_lt disk.calls.made disk.most_calls then next else disk.pending;
  past = if nat_lt disk.calls.made disk.most_calls then disk.pending ∷ disk.past else disk.past;
  calls = after_call disk.calls result;
}

-- a write leaves its range in doubt, whether it fails or not
abbrev pub after_write : ℕ → ℕ → Pending → Pending
after_write at count pending = record pending { dirty = (at, count) ∷ pending.dirty }

-- a sync that succeeds leaves what a read gives, and nothing in doubt
abbrev pub after_sync : {T E : Type 0} → DiskState → Result T E → Pending
after_sync disk result = if is_err result then disk.pending else record { synced = disk.content; dirty = [] }

-- what was pending when so many calls had been made; the calls that are not recorded change nothing
abbrev pub pending_at : DiskState → ℕ → Option Pending
pending_at disk moment =
    Some (get_or (disk.pending ∷ disk.past) (min disk.calls.made disk.most_calls - moment) (record { synced = []; dirty = [] }))

-- the bytes that a stop leaves
abbrev pub kept_bytes : Keep → DiskState → List ℕ
kept_bytes Synced disk = disk.pending.synced
kept_bytes Written disk = disk.content
