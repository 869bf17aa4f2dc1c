-- What a host fits and where it stands, by its form.
use Rattle.std.proofs.Common.{◌≡◌, ℕ, Bool, List, Some, inl, inr, refl, sym, ◌∙◌, ap, subst}
use Rattle.std.specs.Prelude.{◌⊎◌}
use Rattle.std.specs.declared.cmp.Ordering.{Ordering}
use Rattle.std.specs.Ordering.{nat_cmp, ordering_then}
use Rattle.acl_names.specs.Text.{text_cmp}
use Rattle.account_match.specs.Fits.{fits, form_fits, like_client}
use Rattle.account_match.specs.Form.{address_in, class_of, form_of, reach_of}
use Rattle.account_match.specs.Order.{form_in, form_or_exact, host_order}
use Rattle.account_match.specs.declared.client.Client.{Client}
use Rattle.account_match.specs.declared.form.Form.{Form}
use Rattle.account_match.specs.declared.form.Form.TheVariants.{Exact, Wildcards, AnyText}

pub fits_by : (inside host : List ℕ) (form other : Form) (client : Client) (result : Bool) → inside ≡ host → form_of inside ≡ Some form → form ≡ other →
    result ≡ form_fits (Some other) host client → result ≡ fits host client
unfolding fits
fits_by inside host form other client result same is is_other fitting =
    fitting ∙ sym (ap (λ f. form_fits f host client) (subst (λ (h : List ℕ). form_of h ≡ Some form) same is ∙ ap Some is_other))

-- a host that is compared as a text
pub fits_as_text : (inside host : List ℕ) (form : Form) (client : Client) (result : Bool) → inside ≡ host → form_of inside ≡ Some form →
    (form ≡ Exact) ⊎ (((before : ℕ) × (form ≡ Wildcards before)) ⊎ (form ≡ AnyText)) → result ≡ like_client inside client → result ≡ fits host client
fits_as_text inside host form client result same is (inl exact) liking =
    fits_by inside host form Exact client result same is exact (liking ∙ ap (λ h. like_client h client) same)
fits_as_text inside host form client result same is (inr (inl wildcards)) liking =
    fits_by inside host form (Wildcards wildcards.0) client result same is wildcards.1 (liking ∙ ap (λ h. like_client h client) same)
fits_as_text inside host form client result same is (inr (inr any)) liking =
    fits_by inside host form AnyText client result same is any (liking ∙ ap (λ h. like_client h client) same)

pub form_is : (inside host : List ℕ) (form : Form) → inside ≡ host → form_of inside ≡ Some form → form ≡ form_in host
unfolding form_in
form_is inside host form same is = sym (ap form_or_exact (subst (λ (h : List ℕ). form_of h ≡ Some form) same is))

-- the order of two hosts from what is stored of them
pub ordered_by : (a b : List ℕ) (f g : Form) (result : Ordering) → f ≡ form_in a → g ≡ form_in b →
    result ≡ ordering_then (ordering_then (ordering_then (nat_cmp (class_of f) (class_of g)) (nat_cmp (reach_of g) (reach_of f)))
    (nat_cmp (address_in f) (address_in g))) (text_cmp a b) →
    result ≡ host_order a b
ordered_by a b f g result f_is g_is is = is ∙ rw (f_is, g_is) refl
