-- Keys are the same exactly where they are equal.
use Rattle.std.proofs.Common.{◌≡◌, ◌∙◌, ◌&&◌, ◌==◌, Bool, true, false, ℕ, refl, ap, eq-eqb}
use Rattle.std.proofs.lemmas.Bool.{and_parts, eqb-true}
use Rattle.object_bits.specs.Keys.{same_key}
use Rattle.object_bits.specs.contracts.key.KeyPartialEq.TheImpl.{eq-value}
use Rattle.object_bits.specs.declared.key.Key.{Key}
use Rattle.object_bits.specs.declared.key.Key.TheVariants.{Table, Column, Function, Procedure}

pub same_key_itself : (key : Key) → same_key key key ≡ true
same_key_itself (Table s t) = rw (eq-eqb s s refl, eq-eqb t t refl) refl
same_key_itself (Column s t c) = rw (eq-eqb s s refl, eq-eqb t t refl, eq-eqb c c refl) refl
same_key_itself (Function s f) = rw (eq-eqb s s refl, eq-eqb f f refl) refl
same_key_itself (Procedure s f) = rw (eq-eqb s s refl, eq-eqb f f refl) refl

two_numbers : (key : ℕ → ℕ → Key) (s u t v : ℕ) → ((s == u) && (t == v)) ≡ true → key s t ≡ key u v
two_numbers key s u t v same =
    let parts = and_parts (s == u) (t == v) same in
    ap (λ (x : ℕ). key x t) (eqb-true s u parts.0) ∙ ap (key u) (eqb-true t v parts.1)

-- keys that are the same are equal
pub equal_from_same_key : (a b : Key) → same_key a b ≡ true → a ≡ b
equal_from_same_key (Table s t) (Table u v) same = two_numbers Table s u t v same
equal_from_same_key (Column s t c) (Column u v d) same =
    let parts = and_parts ((s == u) && (t == v)) (c == d) same in
    two_numbers (λ x y. Column x y c) s u t v parts.0 ∙ ap (Column u v) (eqb-true c d parts.1)
equal_from_same_key (Function s f) (Function u g) same = two_numbers Function s u f g same
equal_from_same_key (Procedure s f) (Procedure u g) same = two_numbers Procedure s u f g same
equal_from_same_key _ _ same = cc

regrouped : (a b c : Bool) → (a && (b && c)) ≡ ((a && b) && c)
regrouped true b c = refl
regrouped false b c = refl

derived_at : (a b : Key) → eq-value.it a b ≡ same_key a b
derived_at (Table s t) (Table u v) = refl
derived_at (Column s t c) (Column u v d) = regrouped (s == u) (t == v) (c == d)
derived_at (Function s f) (Function u g) = refl
derived_at (Procedure s f) (Procedure u g) = refl
derived_at _ _ = refl

-- keys are compared part by part
pub derived_is : eq-value.it ≡ same_key
derived_is = λ i a b. derived_at a b i
