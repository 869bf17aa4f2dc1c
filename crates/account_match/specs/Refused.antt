-- Why a host is not read.
use Rattle.std.specs.Prelude.{◌≡◌, ℕ, List, None}
use Rattle.account_match.specs.Form.{form_of}
use Rattle.account_match.specs.declared.host_pattern.HostRefusal.{HostRefusal}
use Rattle.account_match.specs.declared.host_pattern.HostRefusal.TheVariants.{BadMask, NoMemory}

-- want of memory, or else a host with a `/` that is no address with a mask
abbrev pub IsRefusal : List ℕ → HostRefusal → Type 0
IsRefusal host NoMemory = Unit {0}
IsRefusal host BadMask = form_of host ≡ None
