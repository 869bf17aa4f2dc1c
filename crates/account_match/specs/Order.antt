-- The order in which accounts are tried. MySQL 8.0 Reference Manual, "Access Control, Stage 1: Connection Verification".
use Rattle.std.specs.Prelude.{ℕ, Bool, ◌==◌, List, length, Option, Some, None}
use Rattle.std.specs.declared.cmp.Ordering.{Ordering}
use Rattle.std.specs.Ordering.{bool_cmp, flip_args, nat_cmp, on, then_cmp}
use Rattle.acl_names.specs.Text.{text_cmp}
use Rattle.acl_names.specs.declared.auth.AuthId.{AuthId}
use Rattle.account_match.specs.Form.{address_in, class_of, form_of, reach_of}
use Rattle.account_match.specs.declared.form.Form.{Form}
use Rattle.account_match.specs.declared.form.Form.TheVariants.{Exact}

-- a host that is refused has no form, and stands nowhere
abbrev pub form_or_exact : Option Form → Form
form_or_exact (Some form) = form
form_or_exact None = Exact

unfoldable pub form_in : List ℕ → Form
form_in host = form_or_exact (form_of host)

-- by the class; then the longer mask, or the more bytes before the first wildcard; then the smaller address; then the bytes
abbrev pub host_order : List ℕ → List ℕ → Ordering
host_order =
    then_cmp (then_cmp (then_cmp (on (λ host. class_of (form_in host)) nat_cmp)
    (flip_args (on (λ host. reach_of (form_in host)) nat_cmp)))
    (on (λ host. address_in (form_in host)) nat_cmp))
    text_cmp

-- the blank user has the empty name
abbrev pub is_blank : List ℕ → Bool
is_blank user = length user == 0

-- a named user before the blank one, and named ones by their bytes
abbrev pub user_order : List ℕ → List ℕ → Ordering
user_order = then_cmp (on is_blank bool_cmp) text_cmp

-- by the host, and at one host by the user
abbrev pub account_order : AuthId → AuthId → Ordering
account_order = then_cmp (on (λ account. account.host) host_order) (on (λ account. account.user) user_order)
