-- A set of dynamic privileges is its two numbers.
use Rattle.std.proofs.Common.{◌≡◌, ◌∙◌, ap, subst, ℕ, ◌<◌, ◌^◌, bit_and}
use Rattle.std.proofs.Props.{props}
use Rattle.priv_sets.specs.declared.dynamic_set.DynSet.{DynSet}

abbrev set_of : (held grantable : ℕ) → held < 2 ^ 20 → bit_and grantable held ≡ grantable → DynSet
set_of h g b i = record { held = h; grantable = g; below = b; inside = i }

same_proofs : (h g : ℕ) (b b' : h < 2 ^ 20) (i i' : bit_and g h ≡ g) → set_of h g b i ≡ set_of h g b' i'
same_proofs h g b b' i i' =
    let one_below : IsProp (h < 2 ^ 20) = hlevel props in
    let one_inside : IsProp (bit_and g h ≡ g) = hlevel props in
    ap (λ b. set_of h g b i) (one_below b b') ∙ ap (λ i. set_of h g b' i) (one_inside i i')

same_held : (h h' g : ℕ) → h ≡ h' → (b : h < 2 ^ 20) (b' : h' < 2 ^ 20) (i : bit_and g h ≡ g) (i' : bit_and g h' ≡ g) → set_of h g b i ≡ set_of h' g b' i'
same_held h h' g same =
    let P : ℕ → Type 0 = λ n. (b : h < 2 ^ 20) (b' : n < 2 ^ 20) (i : bit_and g h ≡ g) (i' : bit_and g n ≡ g) → set_of h g b i ≡ set_of n g b' i' in
    subst P same (same_proofs h g)

same_both : (h h' g g' : ℕ) → h ≡ h' → g ≡ g' → (b : h < 2 ^ 20) (b' : h' < 2 ^ 20) (i : bit_and g h ≡ g) (i' : bit_and g' h' ≡ g') → set_of h g b i ≡ set_of h' g' b' i'
same_both h h' g g' same_h same_g =
    let P : ℕ → Type 0 = λ n. (b : h < 2 ^ 20) (b' : h' < 2 ^ 20) (i : bit_and g h ≡ g) (i' : bit_and n h' ≡ n) → set_of h g b i ≡ set_of h' n b' i' in
    subst P same_g (same_held h h' g same_h)

pub same_set : (x y : DynSet) → x.held ≡ y.held → x.grantable ≡ y.grantable → x ≡ y
same_set x y held grantable = same_both x.held y.held x.grantable y.grantable held grantable x.below y.below x.inside y.inside
