-- What reading some fields answers where they are not there.
use Rattle.std.specs.Prelude.{◌≡◌, ℕ, List, length}
use Rattle.entry_bytes.specs.Faults.{NoneBegins}
use Rattle.entry_fields.specs.declared.fields.FieldFault.{FieldFault}
use Rattle.entry_fields.specs.declared.fields.FieldFault.TheVariants as field
use Rattle.entry_reading.specs.declared.fault.Fault.{Fault}
use Rattle.entry_reading.specs.declared.fault.Fault.TheVariants.{Bad, NoMemory}
use Rattle.grant_refusal.specs.declared.ParseRefusal.{ParseRefusal}
use Rattle.grant_refusal.specs.declared.ParseRefusal.TheVariants as parse

-- want of memory, or else the bytes that are left from the first fault on are so many
abbrev pub IsFault : (List ℕ → Type 0) → Fault → Type 0
IsFault Left (Bad left) = (bad : List ℕ) × Left bad × (length bad ≡ left)
IsFault Left NoMemory = Unit {0}

-- no such field is there, and all of the bytes are left
abbrev pub IsAbsent : {A : Type 0} → (A → List ℕ) → (A → Type 0) → List ℕ → List ℕ → Type 0
IsAbsent spelling Fits bytes bad = NoneBegins spelling Fits bytes × (bad ≡ bytes)

-- the fault of a field with which so many bytes begin
abbrev pub placed : ℕ → FieldFault → Fault
placed count field.Bad = Bad count
placed count field.NoMemory = NoMemory

-- what the refusal of a text says of its field
abbrev pub text_field_fault : ParseRefusal → FieldFault
text_field_fault parse.NoMemory = field.NoMemory
text_field_fault _ = field.Bad
