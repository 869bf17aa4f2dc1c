-- When a list of privileges keeps its rules.
use Rattle.std.proofs.Common.{◌≡◌, ◌∙◌, refl, ap, ℕ, ◌<◌, ◌^◌, ◌==◌, Bool, true, false, not, ◌&&◌, ◌||◌, List, []}
use Rattle.std.proofs.lemmas.Bool.{and_from, and_parts, and_right, eq-eqb, eqb-true, lt-ltb}
use Rattle.std.specs.Int.{bit_at}
use Rattle.std.specs.Prelude.{nat_lt}
use Rattle.acl_stmt.specs.Lists.{is_some_list}
use Rattle.acl_stmt.specs.Privileges.{are_in_order, is_priv_list}
use Rattle.acl_stmt.specs.declared.columns.ColumnPriv.{ColumnPriv}
use Rattle.priv_sets.proofs.Bits.{empty_from_none, zero_bits}
use Rattle.priv_sets.specs.Levels.{grant_option}
use Rattle.priv_sets.specs.StaticSet.{bits_of, holds, is_known}
use Rattle.priv_sets.specs.declared.static_set.Static.{Static}

from_parts : (all : Bool) (plain : Static) (columns : List ColumnPriv) (dynamic : ℕ) → is_known plain ≡ true → nat_lt dynamic (2 ^ 20) ≡ true → are_in_order columns ≡ true
    → (not all || bits_of plain == 0 && not (is_some_list columns) && dynamic == 0) ≡ true → is_priv_list all plain columns dynamic ≡ true
unfolding is_priv_list
from_parts all plain columns dynamic known below order alone =
    and_from (is_known plain && nat_lt dynamic (2 ^ 20) && are_in_order columns) (not all || bits_of plain == 0 && not (is_some_list columns) && dynamic == 0)
    (and_from (is_known plain && nat_lt dynamic (2 ^ 20)) (are_in_order columns) (and_from (is_known plain) (nat_lt dynamic (2 ^ 20)) known below) order) alone

-- a set that holds nothing has no bit
pub empty_bits : (plain : Static) → ((q : ℕ) → holds plain q ≡ false) → bits_of plain ≡ 0
unfolding holds
empty_bits plain none = empty_from_none plain.0 none

pub no_bits : (plain : Static) (q : ℕ) → bits_of plain ≡ 0 → holds plain q ≡ false
unfolding holds
no_bits plain q none = ap (λ bits. bit_at bits q == 1) none ∙ zero_bits q

-- privileges that are listed
pub listed : (plain : Static) (columns : List ColumnPriv) (dynamic : ℕ) → is_known plain ≡ true → dynamic < 2 ^ 20 → are_in_order columns ≡ true → is_priv_list false plain columns dynamic ≡ true
listed plain columns dynamic known below order = from_parts false plain columns dynamic known (lt-ltb dynamic (2 ^ 20) below) order refl

-- ALL
pub all_alone : (plain : Static) → is_known plain ≡ true → ((q : ℕ) → holds plain q ≡ false) → is_priv_list true plain [] 0 ≡ true
all_alone plain known none =
    from_parts true plain [] 0 known refl refl (and_from (bits_of plain == 0 && true) true (and_from (bits_of plain == 0) true (eq-eqb (bits_of plain) 0 (empty_bits plain none)) refl) refl)

-- the same list with a set of fewer privileges
still_alone : (all : Bool) (plain less : Static) (columns : List ColumnPriv) (dynamic : ℕ) → ((q : ℕ) → holds less q ≡ (not (q == grant_option) && holds plain q))
    → (not all || bits_of plain == 0 && not (is_some_list columns) && dynamic == 0) ≡ true → (not all || bits_of less == 0 && not (is_some_list columns) && dynamic == 0) ≡ true
still_alone false plain less columns dynamic fewer alone = refl
still_alone true plain less columns dynamic fewer alone =
    let outer = and_parts (bits_of plain == 0 && not (is_some_list columns)) (dynamic == 0) alone in
    let inner = and_parts (bits_of plain == 0) (not (is_some_list columns)) outer.0 in
    let none : (q : ℕ) → holds less q ≡ false = λ q. fewer q ∙ and_right (not (q == grant_option)) (holds plain q) (no_bits plain q (eqb-true (bits_of plain) 0 inner.0)) in
    and_from (bits_of less == 0 && not (is_some_list columns)) (dynamic == 0) (and_from (bits_of less == 0) (not (is_some_list columns)) (eq-eqb (bits_of less) 0 (empty_bits less none)) inner.1) outer.1

-- what the rules say
pub record Rules (all : Bool) (plain : Static) (columns : List ColumnPriv) (dynamic : ℕ) : Type 0 where
  pub known : is_known plain ≡ true
  pub below : nat_lt dynamic (2 ^ 20) ≡ true
  pub order : are_in_order columns ≡ true
  pub alone : (not all || bits_of plain == 0 && not (is_some_list columns) && dynamic == 0) ≡ true

pub rules_of : (all : Bool) (plain : Static) (columns : List ColumnPriv) (dynamic : ℕ) → is_priv_list all plain columns dynamic ≡ true → Rules all plain columns dynamic
unfolding is_priv_list
rules_of all plain columns dynamic rules =
    let outer = and_parts (is_known plain && nat_lt dynamic (2 ^ 20) && are_in_order columns) (not all || bits_of plain == 0 && not (is_some_list columns) && dynamic == 0) rules in
    let middle = and_parts (is_known plain && nat_lt dynamic (2 ^ 20)) (are_in_order columns) outer.0 in
    let inner = and_parts (is_known plain) (nat_lt dynamic (2 ^ 20)) middle.0 in
    record { known = inner.0; below = inner.1; order = middle.1; alone = outer.1 }

pub listed_without : (all : Bool) (plain less : Static) (columns : List ColumnPriv) (dynamic : ℕ) → is_priv_list all plain columns dynamic ≡ true → (is_known plain ≡ true → is_known less ≡ true)
    → ((q : ℕ) → holds less q ≡ (not (q == grant_option) && holds plain q)) → is_priv_list all less columns dynamic ≡ true
listed_without all plain less columns dynamic rules known fewer =
    let parts = rules_of all plain columns dynamic rules in
    from_parts all less columns dynamic (known parts.known) parts.below parts.order (still_alone all plain less columns dynamic fewer parts.alone)
