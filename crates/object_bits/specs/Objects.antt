-- When two objects are one.
use Rattle.std.specs.Prelude.{Bool, false, ◌&&◌}
use Rattle.acl_names.specs.Text.{text_eq}
use Rattle.object_bits.specs.declared.object.Object.{Object}
use Rattle.object_bits.specs.declared.object.Object.TheVariants.{Table, Column, Function, Procedure}

-- the same kind of object with the same names
abbrev pub same_object : Object → Object → Bool
same_object (Table s t) (Table u v) = text_eq s u && text_eq t v
same_object (Column s t c) (Column u v d) = text_eq s u && text_eq t v && text_eq c d
same_object (Function s f) (Function u g) = text_eq s u && text_eq f g
same_object (Procedure s f) (Procedure u g) = text_eq s u && text_eq f g
same_object _ _ = false
