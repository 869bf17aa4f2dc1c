-- What is seen of held bits: what each holder holds on each thing, and the spare room.
use Rattle.std.specs.Prelude.{◌≡◌, refl, ℕ, Bool, true, false, ◌<◌, ◌≤◌, ◌+◌, ◌^◌, ◌==◌, ◌&&◌, List, [], ◌∷◌, Some, All, count_by, length, slice_get, if◌then◌else◌}
use Rattle.std.specs.List.{list_any, AllPairs, AllWithin, Contains, IsDistinct}
use Rattle.std.specs.List.Sorted.{IsNonDecreasingBy}
use Rattle.std.specs.Coded.{Coded, code_by, coded×, coded_ℕ, coded_list}
use Rattle.held_bits.specs.declared.bits.Bits.{Bits}
use Rattle.held_bits.specs.Bits.{no_bits, are_none, record_count, AreWithin}

-- what a holder holds on a thing
pub record Entry (K : Type 0) : Type 0 where
  pub holder : ℕ
  pub thing : K
  pub bits : Bits

-- all that is held, and how many more entries and how many more things fit without memory
pub record Held (K : Type 0) : Type 0 where
  pub entries : List (Entry K)
  pub record_room : ℕ
  pub thing_room : ℕ

-- bits are stored as a pair of numbers
abbrev pub bits_code : Coded Bits
bits_code =
    code_by (ℕ × ℕ) (coded× coded_ℕ coded_ℕ) (λ b. (b.granted, b.restricted)) (λ p. record { granted = p.0; restricted = p.1 }) (λ _. refl)

-- an entry as its parts
abbrev pub entry_code : {K : Type 0} → Coded K → Coded (Entry K)
entry_code {K} code =
    code_by (ℕ × (K × Bits)) (coded× coded_ℕ (coded× code bits_code)) (λ e. (e.holder, (e.thing, e.bits)))
    (λ p. record { holder = p.0; thing = p.1.0; bits = p.1.1 }) (λ _. refl)

-- and what is held as its entries and both rooms
abbrev pub held_code : {K : Type 0} → Coded K → Coded (Held K)
held_code {K} code =
    code_by (List (Entry K) × (ℕ × ℕ)) (coded× (coded_list (entry_code code)) (coded× coded_ℕ coded_ℕ))
    (λ h. (h.entries, (h.record_room, h.thing_room)))
    (λ p. record { entries = p.0; record_room = p.1.0; thing_room = p.1.1 }) (λ _. refl)

-- whether an entry is that of a holder and a thing
abbrev pub is_entry : {K : Type 0} → (K → K → Bool) → ℕ → K → Entry K → Bool
is_entry eq holder thing entry = (holder == entry.holder) && eq thing entry.thing

-- what a holder holds on a thing, which is nothing where no entry says it
abbrev pub bits_at : {K : Type 0} → (K → K → Bool) → List (Entry K) → ℕ → K → Bits
bits_at eq [] holder thing = no_bits
bits_at eq (entry ∷ entries) holder thing = if is_entry eq holder thing entry then entry.bits else bits_at eq entries holder thing

-- what one holder holds on one thing is this, and all else stays
abbrev pub SetsBits : {K : Type 0} → (K → K → Bool) → List (Entry K) → List (Entry K) → ℕ → K → Bits → Type 0
SetsBits {K} eq old new holder thing bits =
    (h : ℕ) (k : K) → bits_at eq new h k ≡ (if (h == holder) && eq k thing then bits else bits_at eq old h k)

-- whether an entry is one on a thing
abbrev pub is_on : {K : Type 0} → (K → K → Bool) → K → Entry K → Bool
is_on eq thing entry = eq thing entry.thing

-- how many entries are on a thing
abbrev pub uses_in : {K : Type 0} → (K → K → Bool) → List (Entry K) → K → ℕ
uses_in eq entries thing = count_by (is_on eq thing) entries

-- whether some entry is on a thing
abbrev pub has_thing : {K : Type 0} → (K → K → Bool) → List (Entry K) → K → Bool
has_thing eq entries thing = list_any (is_on eq thing) entries

-- of the entries on each thing, those of one pair alone come or go
abbrev pub CountsUses : {K : Type 0} → (K → K → Bool) → List (Entry K) → List (Entry K) → K → Bits → Bits → Type 0
CountsUses {K} eq old new thing before bits =
    (k : K) → uses_in eq new k + (if eq k thing then record_count before else 0) ≡ uses_in eq old k + (if eq k thing then record_count bits else 0)

-- how many things have entries: each counts at its last entry
abbrev pub thing_count : {K : Type 0} → (K → K → Bool) → List (Entry K) → ℕ
thing_count eq [] = 0
thing_count eq (entry ∷ entries) = (if has_thing eq entries entry.thing then 0 else 1) + thing_count eq entries

-- of the things that have entries, one alone comes or goes
abbrev pub CountsThings : {K : Type 0} → (K → K → Bool) → List (Entry K) → List (Entry K) → K → Type 0
CountsThings eq old new thing =
    thing_count eq new + (if has_thing eq old thing then 1 else 0) ≡ thing_count eq old + (if has_thing eq new thing then 1 else 0)

-- an entry whose numbers fit in 32 bits
abbrev pub IsNumbered : {K : Type 0} → Entry K → Type 0
IsNumbered entry = (entry.holder < 2 ^ 32) × AreWithin entry.bits

-- each pair has one entry at most, none is empty, and the entries of a holder stand side by side, in the order of holders
pub record IsSound {K : Type 0} (eq : K → K → Bool) (entries : List (Entry K)) : Type 0 where
  pub once : AllPairs (λ one other. is_entry eq one.holder one.thing other ≡ false) entries
  pub some : All (λ entry. are_none entry.bits ≡ false) entries
  pub ordered : IsNonDecreasingBy (λ entry. entry.holder) entries
  pub within : All IsNumbered entries

-- the entry at a place has these bits now, or is gone where they are none, and all else stays
pub record ReplacesAt {K : Type 0} (eq : K → K → Bool) (old new : List (Entry K)) (place : ℕ) (bits : Bits) : Type 0 where
  pub sets : (entry : Entry K) → slice_get old place ≡ Some entry → SetsBits eq old new entry.holder entry.thing bits
  pub uses : (entry : Entry K) → slice_get old place ≡ Some entry → CountsUses eq old new entry.thing entry.bits bits
  pub things : (entry : Entry K) → slice_get old place ≡ Some entry → CountsThings eq old new entry.thing

-- one holder holds nothing now, and all else stays
pub record ClearsHolder {K : Type 0} (eq : K → K → Bool) (old new : List (Entry K)) (holder : ℕ) : Type 0 where
  pub sets : (h : ℕ) (k : K) → bits_at eq new h k ≡ (if h == holder then no_bits else bits_at eq old h k)
  pub uses : (k : K) → uses_in eq new k + record_count (bits_at eq old holder k) ≡ uses_in eq old k
  pub things : thing_count eq new ≤ thing_count eq old

-- the entries of the holders before one stand before a place, and those of the holder and of later ones from it on
pub record IsFirstOf {K : Type 0} (entries : List (Entry K)) (holder place : ℕ) : Type 0 where
  pub inside : place ≤ length entries
  pub before : AllWithin (λ entry. entry.holder < holder) entries 0 place
  pub after : AllWithin (λ entry. holder ≤ entry.holder) entries place (length entries)

-- the things that have entries, each once
pub record AreThings {K : Type 0} (eq : K → K → Bool) (entries : List (Entry K)) (things : List K) : Type 0 where
  pub once : IsDistinct eq things
  pub used : All (λ thing. has_thing eq entries thing ≡ true) things
  pub all : All (λ entry. Contains things entry.thing) entries
