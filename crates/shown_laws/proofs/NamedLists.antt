-- What the lists of privileges name that are made of tests.
use Rattle.std.proofs.Common.{◌≡◌, ◌∙◌, ap, sym, refl, ℕ, ◌<◌, ◌==◌, Bool, true, false, not, ◌&&◌, ◌||◌, List}
use Rattle.std.proofs.lemmas.Bool.{and_parts, eqb-true}
use Rattle.std.proofs.lemmas.Nat.Bits.{bit_at-zero}
use Rattle.acl_model.specs.Words.{is_dynamic_alone, names_dynamic, names_static}
use Rattle.listed_privileges.proofs.Bits.{bits_are, some_bits}
use Rattle.listed_privileges.specs.Sets.{bits_below, but_option, some_below}
use Rattle.priv_sets.specs.Levels.{grant_option}
use Rattle.priv_sets.specs.StaticSet.{holds}
use Rattle.priv_sets.specs.declared.level.Level.{Level}
use Rattle.show_grants.specs.Lines.{column_privileges, dynamic_list, plain_list}
use Rattle.shown_laws.proofs.Steps.{named_static}

-- the privileges but GRANT OPTION, and it by the option
option_apart : (T : ℕ → Bool) (p : ℕ) (e : Bool) → (p == grant_option) ≡ e → ((T p && not e) || (T grant_option && e && true)) ≡ T p
option_apart T p false other = kept (T p) (T grant_option)
  where
    kept : (x y : Bool) → ((x && true) || (y && false && true)) ≡ x
    kept true y = refl
    kept false true = refl
    kept false false = refl
option_apart T p true same = ap (λ t. (t && false) || (T grant_option && true && true)) (ap T (eqb-true p grant_option same)) ∙ doubled (T grant_option) ∙ sym (ap T (eqb-true p grant_option same))
  where
    doubled : (x : Bool) → ((x && false) || (x && true && true)) ≡ x
    doubled true = refl
    doubled false = refl

but_bounded : (T : ℕ → Bool) (p : ℕ) → (T p ≡ true → p < 31) → but_option T p ≡ true → p < 31
but_bounded T p bounded both = bounded (and_parts (T p) (not (p == grant_option)) both).0

-- a static set that its test bounds
pub plain_named : (T : ℕ → Bool) (at : Level) (p : ℕ) → (T p ≡ true → p < 31) → names_static (plain_list T) at p ≡ T p
unfolding holds
plain_named T at p bounded = bits_are 31 p T bounded

-- with GRANT OPTION by the option
pub granted_named : (T : ℕ → Bool) (at : Level) (p : ℕ) → (T p ≡ true → p < 31) → named_static (plain_list (but_option T)) at (T grant_option) true p ≡ T p
unfolding holds
granted_named T at p bounded =
    ap (λ t. t || (T grant_option && p == grant_option && true)) (bits_are 31 p (but_option T) (but_bounded T p bounded)) ∙ option_apart T p (p == grant_option) refl

pub columns_granted_named : (T : ℕ → Bool) (names : ℕ → List (List ℕ)) (at : Level) (p : ℕ) → (T p ≡ true → p < 31)
    → named_static (column_privileges (but_option T) names) at (T grant_option) true p ≡ T p
unfolding holds
columns_granted_named T names at p bounded =
    ap (λ t. t || (T grant_option && p == grant_option && true)) (bits_are 31 p (but_option T) (but_bounded T p bounded)) ∙ option_apart T p (p == grant_option) refl

-- a static set names no dynamic privilege, and is not one of dynamic privileges alone
pub plain_not_dynamic : (T : ℕ → Bool) (d : ℕ) → names_dynamic (plain_list T) d ≡ false
plain_not_dynamic T d = ap (λ bit. bit == 1) (bit_at-zero d)

pub plain_static : (T : ℕ → Bool) → not (is_dynamic_alone (plain_list T)) ≡ true
plain_static T = ap not (never_both (bits_below 31 T == 0))
  where
    never_both : (x : Bool) → (x && false) ≡ false
    never_both true = refl
    never_both false = refl

-- a dynamic set
pub dynamic_named : (T : ℕ → Bool) (d : ℕ) → (T d ≡ true → d < 20) → names_dynamic (dynamic_list T) d ≡ T d
dynamic_named T d bounded = bits_are 20 d T bounded

pub dynamic_not_static : (T : ℕ → Bool) (at : Level) (option : Bool) (p : ℕ) → some_below 20 T ≡ true
    → named_static (dynamic_list T) at option (not (is_dynamic_alone (dynamic_list T))) p ≡ false
unfolding holds
dynamic_not_static T at option p some =
    ap (λ t. t || (option && p == grant_option && not (not (bits_below 20 T == 0)))) (ap (λ bit. bit == 1) (bit_at-zero p))
    ∙ ap (λ t. option && p == grant_option && not (not t)) (some_bits 20 T some) ∙ never_both (option && p == grant_option)
  where
    never_both : (x : Bool) → (x && false) ≡ false
    never_both true = refl
    never_both false = refl
