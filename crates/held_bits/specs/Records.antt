-- How held bits are kept: records in order, and how many of them each number has.
use Rattle.std.specs.Prelude.{◌≡◌, ℕ, Bool, false, ◌<◌, ◌≤◌, ◌+◌, ◌-◌, ◌*◌, ◌^◌, ◌==◌, ◌&&◌, List, [], ◌∷◌, ◌++◌, Option, None, Some, All, count_by, is_some, length, nat_lt, slice_index, if◌then◌else◌}
use Rattle.std.specs.List.{AllPairs}
use Rattle.numbered_names.specs.Numbered.{name_at}
use Rattle.held_bits.specs.declared.bits.Bits.{Bits}
use Rattle.held_bits.specs.declared.record.Record.{Record}
use Rattle.held_bits.specs.Bits.{no_bits, are_none, AreWithin}
use Rattle.held_bits.specs.HeldBits.{Entry}

-- the place of a record in the order by its holder, then by its number
abbrev pub rank : Record → ℕ
rank r = r.holder * 2 ^ 32 + r.thing

-- whether a record is that of a holder and a number
abbrev pub is_record : ℕ → ℕ → Record → Bool
is_record holder thing r = (holder == r.holder) && (thing == r.thing)

-- what a holder holds on the thing of a number
abbrev pub bits_in : List Record → ℕ → ℕ → Bits
bits_in [] holder thing = no_bits
bits_in (r ∷ rs) holder thing = if is_record holder thing r then r.bits else bits_in rs holder thing

-- what one holder holds on the thing of one number is this, and all else stays
abbrev pub SetsRecord : List Record → List Record → ℕ → ℕ → Bits → Type 0
SetsRecord old new holder thing bits =
    (h n : ℕ) → bits_in new h n ≡ (if (h == holder) && (n == thing) then bits else bits_in old h n)

-- whether a record is on the thing of a number
abbrev pub has_number : ℕ → Record → Bool
has_number thing r = thing == r.thing

-- how many records are on the thing of a number
abbrev pub number_uses : List Record → ℕ → ℕ
number_uses records thing = count_by (has_number thing) records

-- a record whose numbers fit in 32 bits
abbrev pub IsWithin : Record → Type 0
IsWithin r = ((r.holder < 2 ^ 32) × (r.thing < 2 ^ 32)) × AreWithin r.bits

-- records in order, each pair once, none of them empty
pub record IsTable (records : List Record) : Type 0 where
  pub ascending : AllPairs (λ one other. rank one < rank other) records
  pub some : All (λ r. are_none r.bits ≡ false) records
  pub within : All IsWithin records

-- how many records each number has
abbrev pub AreUses : List Record → List ℕ → Type 0
AreUses records uses = (thing : ℕ) → slice_index uses thing ≡ number_uses records thing

-- how many records there are at most
abbrev pub record_limit : ℕ
record_limit = 2 ^ 32 - 1

-- a table of records, whose things are those that have names
pub record IsHeld {K : Type 0} (names : List (Option K)) (records : List Record) (uses : List ℕ) : Type 0 where
  pub table : IsTable records
  pub few : length records ≤ record_limit
  pub uses_are : AreUses records uses
  pub numbers : length uses ≡ length names
  pub stands : (thing : ℕ) → is_some (name_at names thing) ≡ nat_lt 0 (slice_index uses thing)

-- a record as an entry, by the name of its number
abbrev pub entry_of : {K : Type 0} → Option K → Record → List (Entry K)
entry_of None r = []
entry_of (Some name) r = record { holder = r.holder; thing = name; bits = r.bits } ∷ []

-- the records as entries
abbrev pub entries_of : {K : Type 0} → List (Option K) → List Record → List (Entry K)
entries_of names [] = []
entries_of names (r ∷ rs) = entry_of (name_at names r.thing) r ++ entries_of names rs
