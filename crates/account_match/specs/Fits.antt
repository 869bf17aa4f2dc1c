-- Which clients a host lets in. MySQL 8.0 Reference Manual, "Access Control, Stage 1: Connection Verification".
use Rattle.std.specs.Prelude.{ℕ, Bool, true, false, ◌==◌, ◌&&◌, ◌||◌, List, Option, Some, None, bit_and, codes}
use Rattle.account_match.specs.Address.{address_of}
use Rattle.account_match.specs.Form.{form_of}
use Rattle.account_match.specs.Like.{is_like}
use Rattle.account_match.specs.Permitted.{is_permitted}
use Rattle.account_match.specs.declared.client.Client.{Client}
use Rattle.account_match.specs.declared.client.Client.TheVariants.{Local, Tcp}
use Rattle.account_match.specs.declared.form.Form.{Form}
use Rattle.account_match.specs.declared.form.Form.TheVariants.{Exact, Cidr, Masked, Wildcards, AnyText, Empty}

-- the bits of the address, where it is an IPv4 text
abbrev pub client_bits : Client → Option ℕ
client_bits Local = None
client_bits (Tcp address name) = address_of address

-- there is an address, and its bits under the mask are those of the network
abbrev pub are_in_network : ℕ → ℕ → Option ℕ → Bool
are_in_network network mask None = false
are_in_network network mask (Some bits) = bit_and bits mask == network

abbrev pub is_in_network : ℕ → ℕ → Client → Bool
is_in_network network mask client = are_in_network network mask (client_bits client)

-- the address, or a name that is permitted, is like the pattern; a local client has no address
abbrev pub like_client : List ℕ → Client → Bool
like_client host Local = is_like host (codes "localhost")
like_client host (Tcp address name) = is_like host address || (is_permitted name && is_like host name)

abbrev pub form_fits : Option Form → List ℕ → Client → Bool
form_fits (Some (Cidr address mask)) host client = is_in_network (bit_and address mask) mask client
form_fits (Some (Masked address mask)) host client = is_in_network address mask client
form_fits (Some Empty) host client = true
form_fits (Some Exact) host client = like_client host client
form_fits (Some (Wildcards before)) host client = like_client host client
form_fits (Some AnyText) host client = like_client host client
form_fits None host client = false

-- by cases on the form of the host
unfoldable pub fits : List ℕ → Client → Bool
fits host client = form_fits (form_of host) host client
