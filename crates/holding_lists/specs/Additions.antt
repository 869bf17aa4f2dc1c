-- What comes to a list of holdings, part by part.
use Rattle.std.specs.Prelude.{◌≡◌, ℕ, Bool, false, ◌==◌, ◌&&◌, ◌||◌, not, List}
use Rattle.std.specs.List.{list_any}
use Rattle.acl_names.specs.Text.{text_eq}
use Rattle.account_holdings.specs.Bits.{has_bit}
use Rattle.account_holdings.specs.Globals.{bits_of_kind, same_kind}
use Rattle.account_holdings.specs.Holdings.{same_holding}
use Rattle.account_holdings.specs.declared.globals.GlobalBits.{GlobalBits}
use Rattle.account_holdings.specs.declared.globals.GlobalKind.{GlobalKind}
use Rattle.account_holdings.specs.declared.holding.Holding.{Holding}
use Rattle.account_holdings.specs.declared.holding.Holding.TheVariants.{OnAll, OnSchema, Restricted, OnObject, Edge, Admin, Default}
use Rattle.held_bits.specs.Bits.{are_none}
use Rattle.held_bits.specs.HeldBits.{Entry, bits_at}
use Rattle.object_bits.specs.Objects.{same_object}
use Rattle.object_bits.specs.declared.object.Object.{Object}
use Rattle.role_graph.specs.Edges.{Edges, granted, with_admin}

-- the holdings that pass a test come to a list
abbrev pub Adds : List Holding → List Holding → (Holding → Bool) → Type 0
Adds old new test = (h : Holding) → list_any (same_holding h) new ≡ (list_any (same_holding h) old || test h)

-- ---- what one account holds, by the table that says it

abbrev pub held_on_all : GlobalBits → ℕ → Holding → Bool
held_on_all bits account (OnAll kind n p) = (n == account) && has_bit (bits_of_kind kind bits) p
held_on_all bits account _ = false

abbrev pub held_on_schemas : List (Entry (List ℕ)) → ℕ → Holding → Bool
held_on_schemas entries account (OnSchema n s p) = (n == account) && has_bit (bits_at text_eq entries n s).granted p
held_on_schemas entries account (Restricted n s p) = (n == account) && has_bit (bits_at text_eq entries n s).restricted p
held_on_schemas entries account _ = false

abbrev pub held_on_objects : List (Entry Object) → ℕ → Holding → Bool
held_on_objects entries account (OnObject n o p) = (n == account) && has_bit (bits_at same_object entries n o).granted p
held_on_objects entries account _ = false

abbrev pub roles_held : Edges → ℕ → Holding → Bool
roles_held edges account (Edge role to) = (to == account) && granted edges role account
roles_held edges account (Admin role to) = (to == account) && with_admin edges role account
roles_held edges account _ = false

abbrev pub defaults_held : List (Entry ℕ) → ℕ → Holding → Bool
defaults_held entries account (Default of role) = (of == account) && not (are_none (bits_at (λ one other. one == other) entries of role))
defaults_held entries account _ = false

-- ---- what names an account as a role

abbrev pub holders_held : Edges → ℕ → Holding → Bool
holders_held edges account (Edge role to) = (role == account) && granted edges account to
holders_held edges account (Admin role to) = (role == account) && with_admin edges account to
holders_held edges account _ = false

abbrev pub default_of : List (Entry ℕ) → ℕ → Holding → Bool
default_of entries account (Default of role) = (role == account) && not (are_none (bits_at (λ one other. one == other) entries of role))
default_of entries account _ = false

-- ---- privileges of one kind, whose numbers are bits

-- the number of its privilege, for a kind that has one
abbrev pub privilege_of : Holding → ℕ
privilege_of (OnAll kind n p) = p
privilege_of (OnSchema n s p) = p
privilege_of (Restricted n s p) = p
privilege_of (OnObject n o p) = p
privilege_of _ = 0

abbrev pub is_on_all : GlobalKind → ℕ → Holding → Bool
is_on_all kind account (OnAll other n p) = (n == account) && same_kind other kind
is_on_all kind account _ = false

abbrev pub is_on_schema : ℕ → List ℕ → Holding → Bool
is_on_schema account schema (OnSchema n s p) = (n == account) && text_eq s schema
is_on_schema account schema _ = false

abbrev pub is_restricted : ℕ → List ℕ → Holding → Bool
is_restricted account schema (Restricted n s p) = (n == account) && text_eq s schema
is_restricted account schema _ = false

abbrev pub is_on_object : ℕ → Object → Holding → Bool
is_on_object account object (OnObject n o p) = (n == account) && same_object o object
is_on_object account object _ = false

-- of some holdings, those whose bit is set
abbrev pub with_bit : (Holding → Bool) → ℕ → Holding → Bool
with_bit rest set h = rest h && has_bit set (privilege_of h)
