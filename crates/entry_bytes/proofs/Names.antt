-- Names as short texts.
use Rattle.std.proofs.Common.{◌≡◌, ℕ, ◌*◌, ◌≤◌, Bool, true, false, List, [], ◌∷◌, length, Option, Some, None, refl, ap, arith}
use Rattle.std.specs.Str.{IsUtf8, chars}
use Rattle.std.proofs.lemmas.Bool.{ltb-false}
use Rattle.std.proofs.lemmas.List.{length-append}
use Rattle.std.proofs.lemmas.Str.{encodes-chars, len_utf8_bounds, length-encode}
use Rattle.acl_names.specs.Limits.{host_limit, ident_limit, user_limit}
use Rattle.acl_names.specs.Name.{ident_fault, length_fault, control_fault, name_fault}
use Rattle.acl_names.specs.declared.refusal.NameRefusal.{NameRefusal}
use Rattle.acl_names.specs.declared.refusal.NameRefusal.TheVariants.{TooLong}
use Rattle.std.specs.Prelude.{position, nat_lt, if◌then◌else◌}
use Rattle.std.specs.Char.{is_ascii_control}
use Rattle.entry_bytes.specs.Texts.{IsShort}
use Rattle.entry_bytes.specs.Spelling.{IsHost, IsSchema, IsUser}
use lib.Utf8.{encode, encodes}

four_each : (cs : List ℕ) → length (encodes cs) ≤ 4 * length cs
four_each [] = omega arith
four_each (c ∷ cs) =
    let bounds = len_utf8_bounds c in
    omega (arith, four_each cs, bounds.1, length-encode c, length-append (encode c) (encodes cs))

characters_within : (limit : ℕ) (text : List ℕ) → length_fault limit text ≡ None → length (chars text) ≤ limit
characters_within limit text none = test (nat_lt limit (length (chars text))) refl none
  where
    test : (b : Bool) → nat_lt limit (length (chars text)) ≡ b → (if b then Some (TooLong limit) else None) ≡ None → length (chars text) ≤ limit
    test true is e = absurd (cc)
    test false is e = ltb-false _ _ is

no_length_fault : (at : Option ℕ) (other : Option NameRefusal) → control_fault at other ≡ None → other ≡ None
no_length_fault (Some offset) other e = absurd (cc)
no_length_fault None other e = e

name_short : (limit : ℕ) (text : List ℕ) → IsUtf8 text → name_fault limit text ≡ None → length text ≤ 4 * limit
name_short limit text utf8 e =
    let few = characters_within limit text (no_length_fault (position is_ascii_control text) (length_fault limit text) e) in
    omega (arith, four_each (chars text), ap length (encodes-chars text utf8), few)

pub user_short : (user : List ℕ) → IsUser user → IsShort user
user_short user is = record { utf8 = is.utf8; short = omega (arith, name_short user_limit user is.utf8 is.within) }

pub host_short : (host : List ℕ) → IsHost host → IsShort host
host_short host is = record { utf8 = is.utf8; short = omega (arith, name_short host_limit host is.utf8 is.within.faultless) }

ident_short : (text : List ℕ) → IsUtf8 text → ident_fault ident_limit text ≡ None → length text ≤ 4 * ident_limit
ident_short [] utf8 e = omega arith
ident_short (b ∷ bs) utf8 e = name_short ident_limit (b ∷ bs) utf8 e

pub schema_short : (schema : List ℕ) → IsSchema schema → IsShort schema
schema_short schema is = record { utf8 = is.utf8; short = omega (arith, ident_short schema is.utf8 is.within) }
