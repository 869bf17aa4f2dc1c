-- Refused hosts, and accounts that stand at one place in the order.
use Rattle.std.proofs.Common.{◌≡◌, ℕ, List, Option, Some, None, refl, ◌∙◌}
use Rattle.std.specs.Prelude.{IsSome}
use Rattle.std.specs.Cmp.{Equal-is}
use Rattle.std.specs.Cmp.Lexicographic.{texts_ties}
use Rattle.std.specs.Ordering.{ordering_then}
use Rattle.std.specs.declared.cmp.Ordering.{Ordering}
use Rattle.std.specs.declared.cmp.Ordering.TheVariants.{Less, Equal, Greater}
use Rattle.acl_names.proofs.SameAuth.{equal_from_text_eq}
use Rattle.acl_names.specs.Text.{text_cmp}
use Rattle.acl_names.specs.declared.auth.AuthId.{AuthId}
use Rattle.account_match.specs.Form.{first_slash, form_by, form_of}
use Rattle.account_match.specs.Order.{account_order, user_order, host_order}

slash_by : (slash : Option ℕ) (host : List ℕ) → form_by slash host ≡ None → IsSome slash
slash_by None host is = absurd (cc)
slash_by (Some at) host is = refl

pub refused_has_slash : (host : List ℕ) → form_of host ≡ None → IsSome (first_slash host)
unfolding form_of
refused_has_slash host is = slash_by (first_slash host) host is

first_equal : (r s : Ordering) → ordering_then r s ≡ Equal → r ≡ Equal
first_equal Less s e = e
first_equal Equal s e = refl
first_equal Greater s e = e

second_equal : (r s : Ordering) → ordering_then r s ≡ Equal → s ≡ Equal
second_equal Less s e = absurd (cc)
second_equal Equal s e = e
second_equal Greater s e = absurd (cc)

same_text : (x y : List ℕ) → text_cmp x y ≡ Equal → x ≡ y
same_text x y e = equal_from_text_eq x y (texts_ties x y ∙ (Equal-is (text_cmp x y)).1 e)

pub never_tied : (a b : AuthId) → account_order a b ≡ Equal → a ≡ b
never_tied a b e =
    let host : a.host ≡ b.host = same_text a.host b.host (second_equal _ (text_cmp a.host b.host) (first_equal (host_order a.host b.host) (user_order a.user b.user) e)) in
    let user : a.user ≡ b.user = same_text a.user b.user (second_equal _ (text_cmp a.user b.user) (second_equal (host_order a.host b.host) (user_order a.user b.user) e)) in
    λ i. record { user = user i; host = host i }
