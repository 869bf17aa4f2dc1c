-- Objects by the numbers of their names.
use Rattle.std.specs.Prelude.{ℕ, Bool, false, ◌+◌, ◌==◌, ◌&&◌, List, [], Option, None, Some, map, sum_by, is_some}
use Rattle.acl_names.specs.Text.{text_eq}
use Rattle.held_bits.specs.HeldBits.{Entry}
use Rattle.numbered_names.specs.Numbered.{is_name, name_at}
use Rattle.object_bits.specs.Names.{one_if_same}
use Rattle.object_bits.specs.declared.key.Key.{Key}
use Rattle.object_bits.specs.declared.key.Key.TheVariants as key
use Rattle.object_bits.specs.declared.object.Object.{Object}
use Rattle.object_bits.specs.declared.object.Object.TheVariants.{Table, Column, Function, Procedure}

-- the same kind of object with the same numbers
abbrev pub same_key : Key → Key → Bool
same_key (key.Table s t) (key.Table u v) = (s == u) && (t == v)
same_key (key.Column s t c) (key.Column u v d) = (s == u) && (t == v) && (c == d)
same_key (key.Function s f) (key.Function u g) = (s == u) && (f == g)
same_key (key.Procedure s f) (key.Procedure u g) = (s == u) && (f == g)
same_key _ _ = false

-- how often a key has a number
abbrev pub key_uses : ℕ → Key → ℕ
key_uses number (key.Table s t) = one_if_same number s + one_if_same number t
key_uses number (key.Column s t c) = one_if_same number s + one_if_same number t + one_if_same number c
key_uses number (key.Function s f) = one_if_same number s + one_if_same number f
key_uses number (key.Procedure s f) = one_if_same number s + one_if_same number f

-- how often the keys of entries have a number
abbrev pub name_uses : List (Entry Key) → ℕ → ℕ
name_uses entries number = sum_by (λ entry. key_uses number entry.thing) entries

-- a name, empty where there is none
abbrev pub name_or_empty : Option (List ℕ) → List ℕ
name_or_empty None = []
name_or_empty (Some name) = name

-- the object that a key names
abbrev pub object_of : List (Option (List ℕ)) → Key → Object
object_of names (key.Table s t) = Table (name_or_empty (name_at names s)) (name_or_empty (name_at names t))
object_of names (key.Column s t c) =
    Column (name_or_empty (name_at names s)) (name_or_empty (name_at names t)) (name_or_empty (name_at names c))
object_of names (key.Function s f) = Function (name_or_empty (name_at names s)) (name_or_empty (name_at names f))
object_of names (key.Procedure s f) = Procedure (name_or_empty (name_at names s)) (name_or_empty (name_at names f))

-- whether each number of a key has a name
abbrev pub has_names : List (Option (List ℕ)) → Key → Bool
has_names names (key.Table s t) = is_some (name_at names s) && is_some (name_at names t)
has_names names (key.Column s t c) = is_some (name_at names s) && is_some (name_at names t) && is_some (name_at names c)
has_names names (key.Function s f) = is_some (name_at names s) && is_some (name_at names f)
has_names names (key.Procedure s f) = is_some (name_at names s) && is_some (name_at names f)

-- whether a key names an object, all of whose names stand
abbrev pub is_key : List (Option (List ℕ)) → Object → Key → Bool
is_key names (Table s t) (key.Table n m) = is_name text_eq s (name_at names n) && is_name text_eq t (name_at names m)
is_key names (Column s t c) (key.Column n m k) =
    is_name text_eq s (name_at names n) && is_name text_eq t (name_at names m) && is_name text_eq c (name_at names k)
is_key names (Function s f) (key.Function n m) = is_name text_eq s (name_at names n) && is_name text_eq f (name_at names m)
is_key names (Procedure s f) (key.Procedure n m) = is_name text_eq s (name_at names n) && is_name text_eq f (name_at names m)
is_key _ _ _ = false

-- an entry on a key as one on its object
abbrev pub on_object : List (Option (List ℕ)) → Entry Key → Entry Object
on_object names entry = record { holder = entry.holder; thing = object_of names entry.thing; bits = entry.bits }

-- entries on keys as entries on objects
abbrev pub on_objects : List (Option (List ℕ)) → List (Entry Key) → List (Entry Object)
on_objects names entries = map (on_object names) entries
