-- What the host of an account is made of. MySQL 8.0 Reference Manual, "Specifying Account Names".
use Rattle.std.specs.Prelude.{◌≡◌, ℕ, ◌+◌, Bool, ◌==◌, ◌||◌, List, [], ◌∷◌, Option, Some, None, take, drop, position, if◌then◌else◌, codes, refl}
use Rattle.std.specs.Net.Reader.{read_ipv4, read_number, read_octet}
use Rattle.account_match.specs.Address.{address_of, is_mask, mask_length, mask_of}
use Rattle.account_match.specs.declared.form.Form.{Form}
use Rattle.account_match.specs.declared.form.Form.TheVariants.{Exact, Cidr, Masked, Wildcards, AnyText, Empty}

-- 37 is `%` and 95 is `_`
abbrev pub is_wildcard : ℕ → Bool
is_wildcard byte = byte == 37 || byte == 95

-- the place of the first `/`
abbrev pub first_slash : List ℕ → Option ℕ
first_slash host = position (λ byte. byte == 47) host

-- by the place of the first wildcard
abbrev pub wildcards_at : Option ℕ → Form
wildcards_at (Some before) = Wildcards before
wildcards_at None = Exact

abbrev pub some_text : List ℕ → Form
some_text host = wildcards_at (position is_wildcard host)

-- a host without a `/`
abbrev pub plain_form : List ℕ → Form
plain_form [] = Empty
plain_form (byte ∷ []) = if byte == 37 then AnyText else some_text (byte ∷ [])
plain_form (byte ∷ second ∷ rest) = some_text (byte ∷ second ∷ rest)

-- what stands behind the `/` is read as a length, and else as a mask
abbrev pub network : Option ℕ → Option ℕ → Option ℕ → Option Form
network None length mask = None
network (Some address) (Some length) mask = Some (Cidr address (mask_of length))
network (Some address) None None = None
network (Some address) None (Some mask) = if is_mask mask then Some (Masked address mask) else None

abbrev pub form_by : Option ℕ → List ℕ → Option Form
form_by None host = Some (plain_form host)
form_by (Some at) host = network (address_of (take at host)) (mask_length (drop (at + 1) host)) (address_of (drop (at + 1) host))

-- none for a host with a `/` that is no address with a mask
unfoldable pub form_of : List ℕ → Option Form
form_of host = form_by (first_slash host) host

example-wildcards : form_of (codes "h1.ex%") ≡ Some (Wildcards 5)
unfolding form_of
example-wildcards = refl

example-network : form_of (codes "10.0.0.0/8") ≡ Some (Cidr 167772160 4278190080)
unfolding form_of address_of mask_of read_ipv4 read_octet read_number
example-network = refl

-- the class in the order of accounts
abbrev pub class_of : Form → ℕ
class_of Exact = 0
class_of (Cidr address mask) = 1
class_of (Masked address mask) = 2
class_of (Wildcards before) = 3
class_of AnyText = 4
class_of Empty = 5

-- a longer mask is a greater number; of patterns, the bytes before the first wildcard
abbrev pub reach_of : Form → ℕ
reach_of (Cidr address mask) = mask
reach_of (Masked address mask) = mask
reach_of (Wildcards before) = before
reach_of Exact = 0
reach_of AnyText = 0
reach_of Empty = 0

abbrev pub address_in : Form → ℕ
address_in (Cidr address mask) = address
address_in (Masked address mask) = address
address_in (Wildcards before) = 0
address_in Exact = 0
address_in AnyText = 0
address_in Empty = 0
