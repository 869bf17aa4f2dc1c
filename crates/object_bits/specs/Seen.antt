-- Objects that references name.
use Rattle.object_bits.specs.declared.object.Object.{Object}
use Rattle.object_bits.specs.declared.object.Object.TheVariants.{Table, Column, Function, Procedure}
use Rattle.object_bits.specs.declared.object_ref.ObjectRef.{ObjectRef}
use Rattle.object_bits.specs.declared.object_ref.ObjectRef.TheVariants as by_ref

-- the object that references name
abbrev pub seen : ObjectRef → Object
seen (by_ref.Table s t) = Table s.now t.now
seen (by_ref.Column s t c) = Column s.now t.now c.now
seen (by_ref.Function s f) = Function s.now f.now
seen (by_ref.Procedure s f) = Procedure s.now f.now
