-- Privileges are held at their levels, before each change and after it.
use Rattle.std.proofs.Common.{◌≡◌, ◌∙◌, refl, sym, ap, ℕ, Bool, true, false, not, ◌||◌, Option, None, Some, IsTrue}
use Rattle.std.proofs.Math.Bool.{or-false}
use Rattle.std.proofs.lemmas.Bool.{and_parts}
use Rattle.account_holdings.proofs.SameHoldings.{equal_from_same_holding}
use Rattle.account_holdings.specs.Holdings.{HoldAlike, Holdings, IsWith, IsWithout, holds, same_holding}
use Rattle.account_holdings.specs.declared.globals.GlobalKind.TheVariants as kind
use Rattle.account_holdings.specs.declared.holding.Holding.{Holding}
use Rattle.account_holdings.specs.declared.holding.Holding.TheVariants as held
use Rattle.acl_model.specs.declared.row.Row.{Row}
use Rattle.acl_model.specs.declared.row.Row.TheVariants.{Account, Global, Dynamic, DynamicGrant, Schema, Table, Column, Function, Procedure, Edge, Admin, Default, Restriction}
use Rattle.numbered_rows.proofs.Numbers.{Names}
use Rattle.numbered_rows.proofs.States.{has_row-holding}
use Rattle.numbered_rows.specs.Conditions.{has_its_level, is_account}
use Rattle.numbered_rows.specs.Levels.{is_at_its_level}
use Rattle.numbered_rows.specs.Numbering.{holding_of, holds_some, number_of, one_number, two_numbers}
use Rattle.numbered_rows.specs.Tables.{HaveLevels, Tables, has_row}
use Rattle.object_bits.specs.declared.object.Object.TheVariants as object

pub levels_alike : (old new : Holdings) → HoldAlike old new → HaveLevels old → HaveLevels new
levels_alike old new alike levels h there = levels h (sym (alike h) ∙ there)

pub levels_go : (old new : Holdings) (taken : Holding) → IsWithout old new taken → HaveLevels old → HaveLevels new
levels_go old new taken goes levels h there = levels h (and_parts (holds old h) (not (same_holding h taken)) (sym (goes h) ∙ there)).0

pub levels_come : (old new : Holdings) (added : Holding) → IsTrue (is_at_its_level added) → IsWith old new added → HaveLevels old → HaveLevels new
levels_come old new added level comes levels h there = by (same_holding h added) refl
  where
    by : (t : Bool) → same_holding h added ≡ t → is_at_its_level h ≡ true
    by true same = ap is_at_its_level (equal_from_same_holding h added same) ∙ level
    by false differs = levels h (sym (or-false (holds old h)) ∙ ap (λ t. holds old h || t) (sym differs) ∙ sym (comes h) ∙ there)

-- ---- a row has its level where its holding has it

one_level : (holding : ℕ → Holding) (t : Bool) → ((n : ℕ) → is_at_its_level (holding n) ≡ t) → (o : Option ℕ) (h : Holding) → one_number holding o ≡ Some h → is_at_its_level h ≡ t
one_level holding t at None h is = cc
one_level holding t at (Some n) h is = let same : h ≡ holding n = cc in ap is_at_its_level same ∙ at n

two_level : (holding : ℕ → ℕ → Holding) (t : Bool) → ((m n : ℕ) → is_at_its_level (holding m n) ≡ t) → (o u : Option ℕ) (h : Holding) → two_numbers holding o u ≡ Some h → is_at_its_level h ≡ t
two_level holding t at None u h is = cc
two_level holding t at (Some m) None h is = cc
two_level holding t at (Some m) (Some n) h is = let same : h ≡ holding m n = cc in ap is_at_its_level same ∙ at m n

module _ (names : Names) where
  pub level_of_row : (row : Row) (h : Holding) → holding_of names row ≡ Some h → is_at_its_level h ≡ has_its_level row
  level_of_row (Account a) h is = cc
  level_of_row (Edge role to) h is = two_level held.Edge true (λ m n. refl) (number_of names role) (number_of names to) h is
  level_of_row (Admin role to) h is = two_level held.Admin true (λ m n. refl) (number_of names role) (number_of names to) h is
  level_of_row (Default of role) h is = two_level held.Default true (λ m n. refl) (number_of names of) (number_of names role) h is
  level_of_row (Global a p) h is = one_level (λ n. held.OnAll kind.Static n p) (has_its_level (Global a p)) (λ n. refl) (number_of names a) h is
  level_of_row (Dynamic a d) h is = one_level (λ n. held.OnAll kind.Dynamic n d) (has_its_level (Dynamic a d)) (λ n. refl) (number_of names a) h is
  level_of_row (DynamicGrant a d) h is = one_level (λ n. held.OnAll kind.Grantable n d) (has_its_level (DynamicGrant a d)) (λ n. refl) (number_of names a) h is
  level_of_row (Schema a s p) h is = one_level (λ n. held.OnSchema n s p) (has_its_level (Schema a s p)) (λ n. refl) (number_of names a) h is
  level_of_row (Table a s t p) h is = one_level (λ n. held.OnObject n (object.Table s t) p) (has_its_level (Table a s t p)) (λ n. refl) (number_of names a) h is
  level_of_row (Column a s t c p) h is = one_level (λ n. held.OnObject n (object.Column s t c) p) (has_its_level (Column a s t c p)) (λ n. refl) (number_of names a) h is
  level_of_row (Function a s f p) h is = one_level (λ n. held.OnObject n (object.Function s f) p) (has_its_level (Function a s f p)) (λ n. refl) (number_of names a) h is
  level_of_row (Procedure a s f p) h is = one_level (λ n. held.OnObject n (object.Procedure s f) p) (has_its_level (Procedure a s f p)) (λ n. refl) (number_of names a) h is
  level_of_row (Restriction a p s) h is = one_level (λ n. held.Restricted n s p) (has_its_level (Restriction a p s)) (λ n. refl) (number_of names a) h is

-- each row that stands has its level
pub row_level : (tables : Tables) → HaveLevels tables.holdings → (row : Row) → has_row tables row ≡ true → has_its_level row ≡ true
row_level tables levels row there = by_account (is_account row) refl
  where
    by_holding : (o : Option Holding) → holding_of tables.accounts.names row ≡ o → holds_some tables.holdings o ≡ true → has_its_level row ≡ true
    by_holding None is held = cc
    by_holding (Some h) is held = sym (level_of_row tables.accounts.names row h is) ∙ levels h held

    account_level : (r : Row) → is_account r ≡ true → has_its_level r ≡ true
    account_level (Account a) is = refl
    account_level _ is = cc

    by_account : (t : Bool) → is_account row ≡ t → has_its_level row ≡ true
    by_account true is = account_level row is
    by_account false is = by_holding (holding_of tables.accounts.names row) refl (sym (has_row-holding tables row is) ∙ there)
