-- Privileges of a limit, by their bits.
use Rattle.std.proofs.Common.{◌≡◌, ◌<◌, ◌^◌, ℕ, true, false, List, ◌++◌, sym, ap, subst, ◌∙◌, arith}
use Rattle.std.proofs.lemmas.Bool.{and_parts, ltb-true}
use Rattle.acl_stmt.specs.Limits.{is_limit}
use Rattle.entry_bytes.proofs.Once.{number_once}
use Rattle.entry_bytes.specs.Faults.{NoneBegins, Restricts}
use Rattle.entry_bytes.specs.Spelling.{IsNumber, number_bytes, privileges_bytes}
use Rattle.priv_sets.specs.StaticSet.{bits_of, is_known}
use Rattle.priv_sets.specs.declared.static_set.Static.{Static}

bits_below : (privileges : Static) → Restricts privileges → bits_of privileges < 2 ^ 31
unfolding is_limit
bits_below privileges is =
    let known : is_known privileges ≡ true = (and_parts (is_known privileges) _ (and_parts _ _ is).0).0 in
    omega (arith, ltb-true _ _ known)

bits_fit : (privileges : Static) → Restricts privileges → IsNumber (bits_of privileges)
bits_fit privileges is = omega (arith, bits_below privileges is)

pub no_bits : (bytes : List ℕ) → NoneBegins number_bytes IsNumber bytes → NoneBegins privileges_bytes Restricts bytes
no_bits bytes none value rest fits e = none (bits_of value) rest (bits_fit value fits) e

-- bits of no privileges that may be restricted
pub other_bits : (bytes behind : List ℕ) (bits : ℕ) → IsNumber bits → bytes ≡ number_bytes bits ++ behind
    → ((value : Static) → Restricts value → bits ≡ bits_of value → ⊥) → NoneBegins privileges_bytes Restricts bytes
other_bits bytes behind bits fits found none value rest is e =
    none value is (number_once bits (bits_of value) behind rest fits (bits_fit value is) (sym found ∙ e)).0

pub unknown_bits : (bits : ℕ) → (bits < 2 ^ 31 → ⊥) → (value : Static) → Restricts value → bits ≡ bits_of value → ⊥
unknown_bits bits over value is same = over (omega (arith, bits_below value is, same))

same_set : (a b : Static) → bits_of a ≡ bits_of b → a ≡ b
same_set a b same = ap (λ (bits : ℕ). let made : Static = record { 0 = bits } in made) same

pub not_limit : (privileges : Static) (bits : ℕ) → bits_of privileges ≡ bits → is_limit privileges ≡ false → (value : Static) → Restricts value → bits ≡ bits_of value → ⊥
not_limit privileges bits same none value is e =
    let one : privileges ≡ value = same_set privileges value (same ∙ e) in
    let holds : is_limit privileges ≡ true = subst (λ p. is_limit p ≡ true) (sym one) is in
    absurd (cc)
