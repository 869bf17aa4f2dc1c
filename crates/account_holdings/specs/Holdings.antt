-- What numbered accounts hold, one by one, and as tables of bits.
use Rattle.std.specs.Prelude.{◌≡◌, ℕ, Bool, true, false, ◌&&◌, ◌||◌, ◌==◌, not, List}
use Rattle.acl_names.specs.Text.{text_eq}
use Rattle.account_holdings.specs.Bits.{has_bit}
use Rattle.account_holdings.specs.Globals.{bits_of_kind, global_bits, same_kind}
use Rattle.account_holdings.specs.declared.globals.GlobalBits.{GlobalBits}
use Rattle.account_holdings.specs.declared.holding.Holding.{Holding}
use Rattle.account_holdings.specs.declared.holding.Holding.TheVariants.{OnAll, OnSchema, Restricted, OnObject, Edge, Admin, Default}
use Rattle.held_bits.specs.Bits.{are_none}
use Rattle.held_bits.specs.HeldBits.{Held, bits_at}
use Rattle.object_bits.specs.Objects.{same_object}
use Rattle.object_bits.specs.declared.object.Object.{Object}
use Rattle.role_graph.specs.Edges.{Edges, granted, with_admin}

-- the same kind of holding with the same parts
abbrev pub same_holding : Holding → Holding → Bool
same_holding (OnAll kind n p) (OnAll other m q) = n == m && same_kind kind other && p == q
same_holding (OnSchema n s p) (OnSchema m t q) = n == m && text_eq s t && p == q
same_holding (Restricted n s p) (Restricted m t q) = n == m && text_eq s t && p == q
same_holding (OnObject n o p) (OnObject m w q) = n == m && same_object o w && p == q
same_holding (Edge role to) (Edge other holder) = role == other && to == holder
same_holding (Admin role to) (Admin other holder) = role == other && to == holder
same_holding (Default of role) (Default owner other) = of == owner && role == other
same_holding _ _ = false

-- whether it names the account of a number
abbrev pub names_number : ℕ → Holding → Bool
names_number number (OnAll kind n p) = n == number
names_number number (OnSchema n s p) = n == number
names_number number (Restricted n s p) = n == number
names_number number (OnObject n o p) = n == number
names_number number (Edge role to) = role == number || to == number
names_number number (Admin role to) = role == number || to == number
names_number number (Default of role) = of == number || role == number

-- the tables of all accounts, and how many accounts more fit in the first without memory
pub record Holdings : Type 0 where
  pub globals : List GlobalBits
  pub global_room : ℕ
  pub schemas : Held (List ℕ)
  pub objects : Held Object
  pub roles : Edges
  pub defaults : Held ℕ

-- whether the tables have a holding
abbrev pub holds : Holdings → Holding → Bool
holds tables (OnAll kind n p) = has_bit (bits_of_kind kind (global_bits tables.globals n)) p
holds tables (OnSchema n s p) = has_bit (bits_at text_eq tables.schemas.entries n s).granted p
holds tables (Restricted n s p) = has_bit (bits_at text_eq tables.schemas.entries n s).restricted p
holds tables (OnObject n o p) = has_bit (bits_at same_object tables.objects.entries n o).granted p
holds tables (Edge role to) = granted tables.roles role to
holds tables (Admin role to) = with_admin tables.roles role to
holds tables (Default of role) = not (are_none (bits_at (λ one other. one == other) tables.defaults.entries of role))

-- one holding more
abbrev pub IsWith : Holdings → Holdings → Holding → Type 0
IsWith old new added = (holding : Holding) → holds new holding ≡ (holds old holding || same_holding holding added)

-- one holding less
abbrev pub IsWithout : Holdings → Holdings → Holding → Type 0
IsWithout old new taken = (holding : Holding) → holds new holding ≡ (holds old holding && not (same_holding holding taken))

-- the same holdings
abbrev pub HoldAlike : Holdings → Holdings → Type 0
HoldAlike old new = (holding : Holding) → holds new holding ≡ holds old holding
