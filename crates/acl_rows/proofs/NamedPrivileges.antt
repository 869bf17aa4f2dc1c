-- The privileges that a list names have numbers below 31, or below 20 where they are dynamic.
use Rattle.std.proofs.Common.{◌≡◌, ap, ℕ, ◌<◌, ◌≤◌, ◌^◌, ◌==◌, nat_lt, Bool, true, false, ◌&&◌, ◌||◌, not, refl, inl, inr}
use Rattle.std.proofs.lemmas.Bool.{and_parts, cases_lt, le-ltb, ltb-true}
use Rattle.std.proofs.lemmas.Nat.Bits.{bit_at_above}
use Rattle.std.specs.Int.{bit_at}
use Rattle.acl_model.specs.Words.{names_dynamic, names_static}
use Rattle.acl_stmt.specs.Lists.{is_some_list}
use Rattle.acl_stmt.specs.Privileges.{are_in_order, is_priv_list}
use Rattle.acl_stmt.specs.declared.privileges.PrivList.{PrivList}
use Rattle.priv_sets.proofs.LevelLemmas.{no_level_above}
use Rattle.priv_sets.specs.Levels.{grant_option, has_level}
use Rattle.priv_sets.specs.StaticSet.{bits_of, holds, is_known}
use Rattle.priv_sets.specs.declared.level.Level.{Level}
use Rattle.priv_sets.specs.declared.static_set.Static.{Static}

first_two : (a b c d : Bool) → (a && b && c && d) ≡ true → (a ≡ true) × (b ≡ true)
first_two a b c d all = and_parts a b (and_parts (a && b) c (and_parts (a && b && c) d all).0).0

rules : (privileges : PrivList) → (is_known privileges.plain ≡ true) × (privileges.dynamic < 2 ^ 20)
unfolding is_priv_list
rules privileges =
    let parts = first_two (is_known privileges.plain) (nat_lt privileges.dynamic (2 ^ 20)) (are_in_order privileges.columns)
    (not privileges.all || bits_of privileges.plain == 0 && not (is_some_list privileges.columns) && privileges.dynamic == 0) privileges.listed in
    (parts.0, ltb-true privileges.dynamic (2 ^ 20) parts.1)

pub known_of : (privileges : PrivList) → is_known privileges.plain ≡ true
known_of privileges = (rules privileges).0

none_above : (set : Static) (q : ℕ) → is_known set ≡ true → 31 ≤ q → holds set q ≡ false
unfolding holds
none_above set q known above =
    ap (λ bit. bit == 1) (bit_at_above (bits_of set) 31 q (ltb-true (bits_of set) (2 ^ 31) known) above)

neither : (all level other held : Bool) → level ≡ false → held ≡ false → ((all && level && other) || held) ≡ false
neither true level other held off none = rw (off, none) refl
neither false level other held off none = none

-- no privilege has a number from 31 on
pub none_named_above : (privileges : PrivList) (level : Level) (q : ℕ) → 31 ≤ q → names_static privileges level q ≡ false
none_named_above privileges level q above =
    neither privileges.all (has_level level q) (not (q == grant_option)) (holds privileges.plain q) (no_level_above level q above)
    (none_above privileges.plain q (known_of privileges) above)

pub named_below : (privileges : PrivList) (level : Level) (q : ℕ) → names_static privileges level q ≡ true → q < 31
named_below privileges level q named =
    elim (cases_lt q 31) [
      | inl below ↦ below
      | inr above ↦ let none : names_static privileges level q ≡ false = none_named_above privileges level q above in cc
    ]

-- a privilege of a set has a number below 31
pub held_below : (set : Static) (q : ℕ) → is_known set ≡ true → holds set q ≡ true → q < 31
held_below set q known held =
    elim (cases_lt q 31) [
      | inl below ↦ below
      | inr above ↦ let none : holds set q ≡ false = none_above set q known above in cc
    ]

-- no dynamic privilege has a number from 20 on
pub no_dynamic_above : (privileges : PrivList) (d : ℕ) → 20 ≤ d → names_dynamic privileges d ≡ false
no_dynamic_above privileges d above =
    neither_dynamic privileges.all (nat_lt d 20) (bit_at privileges.dynamic d == 1) (le-ltb d 20 above)
    (ap (λ bit. bit == 1) (bit_at_above privileges.dynamic 20 d (rules privileges).1 above))
  where
    neither_dynamic : (all low held : Bool) → low ≡ false → held ≡ false → ((all && low) || held) ≡ false
    neither_dynamic true low held off none = rw (off, none) refl
    neither_dynamic false low held off none = none

pub dynamic_below : (privileges : PrivList) (d : ℕ) → names_dynamic privileges d ≡ true → d < 20
dynamic_below privileges d named =
    elim (cases_lt d 20) [
      | inl below ↦ below
      | inr above ↦ let none : names_dynamic privileges d ≡ false = no_dynamic_above privileges d above in cc
    ]
