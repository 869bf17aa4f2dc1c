-- What one entry says of a holding.
use Rattle.std.specs.Prelude.{ℕ, Bool, false, ◌==◌, ◌&&◌, List}
use Rattle.acl_names.specs.Text.{text_eq}
use Rattle.account_holdings.specs.Bits.{has_bit}
use Rattle.account_holdings.specs.declared.holding.Holding.{Holding}
use Rattle.account_holdings.specs.declared.holding.Holding.TheVariants.{OnSchema, Restricted, OnObject, Edge, Admin, Default}
use Rattle.held_bits.specs.HeldBits.{Entry, is_entry}
use Rattle.object_bits.specs.Objects.{same_object}
use Rattle.object_bits.specs.declared.object.Object.{Object}

abbrev pub schema_says : Holding → Entry (List ℕ) → Bool
schema_says (OnSchema n s p) e = is_entry text_eq n s e && has_bit e.bits.granted p
schema_says (Restricted n s p) e = is_entry text_eq n s e && has_bit e.bits.restricted p
schema_says _ e = false

abbrev pub object_says : Holding → Entry Object → Bool
object_says (OnObject n o p) e = is_entry same_object n o e && has_bit e.bits.granted p
object_says _ e = false

abbrev pub default_says : Holding → Entry ℕ → Bool
default_says (Default of role) e = is_entry (λ one other. one == other) of role e
default_says _ e = false

-- a role that is granted, and the right to grant it
abbrev pub edge_says : ℕ → ℕ → Bool → Holding → Bool
edge_says role to admin (Edge r t) = (t == to) && (role == r)
edge_says role to admin (Admin r t) = (t == to) && ((role == r) && admin)
edge_says role to admin _ = false
