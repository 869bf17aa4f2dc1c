-- What entries say of each kind of holding is what the account holds.
use Rattle.std.proofs.Common.{◌≡◌, ◌∙◌, refl, ap, ℕ, Bool, true, false, ◌==◌, ◌&&◌, ◌||◌, List}
use Rattle.std.proofs.Math.Bool.{or-false}
use Rattle.acl_names.proofs.SameAuth.{equal_from_text_eq}
use Rattle.acl_names.specs.Text.{text_eq}
use Rattle.account_holdings.specs.Bits.{has_bit}
use Rattle.account_holdings.specs.declared.globals.GlobalBits.{GlobalBits}
use Rattle.account_holdings.specs.declared.globals.GlobalKind.TheVariants.{Static, Dynamic, Grantable}
use Rattle.account_holdings.specs.declared.holding.Holding.{Holding}
use Rattle.account_holdings.specs.declared.holding.Holding.TheVariants.{OnAll, OnSchema, Restricted, OnObject}
use Rattle.held_bits.specs.HeldBits.{Entry, IsSound}
use Rattle.held_bits.specs.declared.bits.Bits.{Bits}
use Rattle.object_bits.proofs.SameObjects.{equal_from_same_object}
use Rattle.object_bits.specs.Kept.{only_granted}
use Rattle.object_bits.specs.Objects.{same_object}
use Rattle.object_bits.specs.declared.object.Object.{Object}
use Rattle.priv_sets.proofs.Bits.{zero_bits}
use Rattle.holding_lists.specs.Additions.{held_on_all, held_on_objects, held_on_schemas, is_on_all, is_on_object, is_on_schema, is_restricted, with_bit}
use Rattle.holding_lists.specs.Said.{object_says, schema_says}
use Rattle.holding_lists.proofs.Entries.{any_of_holder, bits_said, said, says_nothing}

-- the three kinds of privileges on all
pub kinds_together : (bits : GlobalBits) (account : ℕ) (h : Holding)
    → ((with_bit (is_on_all Static account) bits.fixed h || with_bit (is_on_all Dynamic account) bits.dynamic h) || with_bit (is_on_all Grantable account) bits.grantable h) ≡ held_on_all bits account h
kinds_together bits account (OnAll Static n p) = first (n == account) (has_bit bits.fixed p)
  where
    first : (b x : Bool) → ((((b && true) && x) || ((b && false) && has_bit bits.dynamic p)) || ((b && false) && has_bit bits.grantable p)) ≡ (b && x)
    first false x = refl
    first true x = or-false (x || false) ∙ or-false x
kinds_together bits account (OnAll Dynamic n p) = second (n == account) (has_bit bits.dynamic p)
  where
    second : (b x : Bool) → ((((b && false) && has_bit bits.fixed p) || ((b && true) && x)) || ((b && false) && has_bit bits.grantable p)) ≡ (b && x)
    second false x = refl
    second true x = or-false x
kinds_together bits account (OnAll Grantable n p) = third (n == account) (has_bit bits.grantable p)
  where
    third : (b x : Bool) → ((((b && false) && has_bit bits.fixed p) || ((b && false) && has_bit bits.dynamic p)) || ((b && true) && x)) ≡ (b && x)
    third false x = refl
    third true x = refl
kinds_together bits account _ = refl

-- what is granted on a schema, and what is kept from it
pub schema_together : (bits : Bits) (account : ℕ) (schema : List ℕ) (h : Holding)
    → (with_bit (is_on_schema account schema) bits.granted h || with_bit (is_restricted account schema) bits.restricted h) ≡ schema_says h (record { holder = account; thing = schema; bits = bits })
schema_together bits account schema (OnSchema n s p) = or-false (with_bit (is_on_schema account schema) bits.granted (OnSchema n s p))
schema_together bits account schema (Restricted n s p) = refl
schema_together bits account schema _ = refl

pub schemas_read : (es : List (Entry (List ℕ))) → IsSound text_eq es → (account : ℕ) (h : Holding) → said schema_says account es h ≡ held_on_schemas es account h
schemas_read es sound account (OnSchema n s p) =
    any_of_holder text_eq es account n s (λ b. has_bit b.granted p)
    ∙ ap (λ b. (n == account) && b) (bits_said text_eq n s equal_from_text_eq (λ b. has_bit b.granted p) (zero_bits p) es sound.once)
schemas_read es sound account (Restricted n s p) =
    any_of_holder text_eq es account n s (λ b. has_bit b.restricted p)
    ∙ ap (λ b. (n == account) && b) (bits_said text_eq n s equal_from_text_eq (λ b. has_bit b.restricted p) (zero_bits p) es sound.once)
schemas_read es sound account _ = says_nothing es account

-- what is granted on an object
pub object_together : (granted : ℕ) (account : ℕ) (object : Object) (h : Holding)
    → with_bit (is_on_object account object) granted h ≡ object_says h (record { holder = account; thing = object; bits = only_granted granted })
object_together granted account object (OnObject n o p) = refl
object_together granted account object _ = refl

pub objects_read : (es : List (Entry Object)) → IsSound same_object es → (account : ℕ) (h : Holding) → said object_says account es h ≡ held_on_objects es account h
objects_read es sound account (OnObject n o p) =
    any_of_holder same_object es account n o (λ b. has_bit b.granted p)
    ∙ ap (λ b. (n == account) && b) (bits_said same_object n o equal_from_same_object (λ b. has_bit b.granted p) (zero_bits p) es sound.once)
objects_read es sound account _ = says_nothing es account
