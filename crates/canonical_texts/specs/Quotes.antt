-- How names and strings are written.
use Rattle.std.specs.Prelude.{◌≡◌, ℕ, ◌==◌, if◌then◌else◌, List, [], ◌∷◌, ◌++◌, codes, refl}
use Rattle.std.specs.List.{flat_map}
use Rattle.acl_names.specs.Quoted.{quoted}
use Rattle.priv_items.specs.Escapes.{escaped}

-- a quote, of code 39, is doubled, and a backslash, of code 92, has one before it
abbrev pub string_byte : ℕ → List ℕ
string_byte b = if b == 39 then codes "''" else (if b == 92 then codes "\\\\" else b ∷ [])

abbrev pub string_inside : List ℕ → List ℕ
string_inside text = flat_map string_byte text

-- a string between single quotes
abbrev pub string_text : List ℕ → List ℕ
string_text text = codes "'" ++ (string_inside text ++ codes "'")

-- the name of the schema that a privilege is granted on, or revoked: its wildcards are meant as they are written
abbrev pub schema_text : List ℕ → List ℕ
schema_text schema = quoted (escaped schema)

example-string : string_text (codes "it's \\ `") ≡ codes "'it''s \\\\ `'"
example-string = refl

example-schema : schema_text (codes "a\\%b_\\\\_") ≡ codes "`a\\\\%b_\\\\\\_`"
example-schema = refl
