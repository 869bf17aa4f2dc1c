-- What reading a field answers.
use Rattle.acl_names.specs.declared.refusal.NameRefusal.{NameRefusal}
use Rattle.acl_names.specs.declared.refusal.NameRefusal.TheVariants as name
use Rattle.entry_fields.specs.declared.fields.FieldFault.{FieldFault}
use Rattle.entry_fields.specs.declared.fields.FieldFault.TheVariants.{Bad, NoMemory}

-- want of memory, or else this fault
abbrev pub IsFieldFault : Type 0 → FieldFault → Type 0
IsFieldFault fault Bad = fault
IsFieldFault fault NoMemory = Unit {0}

-- what the refusal of a name says of its field
abbrev pub name_field_fault : NameRefusal → FieldFault
name_field_fault name.NoMemory = NoMemory
name_field_fault _ = Bad
