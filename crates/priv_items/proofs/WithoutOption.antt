-- A list without GRANT OPTION.
use Rattle.std.proofs.Common.{◌≡◌, ◌∙◌, refl, sym, ap, ℕ, ◌==◌, Bool, true, false, cond, not, ◌&&◌, ◌||◌, List, [], ◌∷◌, ◌++◌, true≢false}
use Rattle.std.proofs.lemmas.Bool.{and_right, eq-eqb, eqb-true}
use Rattle.std.specs.Int.{bit_at}
use Rattle.std.specs.List.{filter}
use Rattle.std.specs.Prelude.{None}
use Rattle.acl_stmt.specs.declared.privileges.PrivList.{PrivList}
use Rattle.acl_stmt.specs.declared.target.Target.{Target}
use Rattle.priv_sets.specs.Levels.{grant_option}
use Rattle.priv_sets.specs.StaticSet.{holds}
use Rattle.priv_items.proofs.Fits.{filter_fits}
use Rattle.priv_items.specs.Grants.{without_grant_option}
use Rattle.priv_items.specs.LevelRefusals.{wrong_level}
use Rattle.priv_items.specs.Meaning.{IsMeant, columns_on, each_once}
use Rattle.priv_items.specs.Naming.{columns_in, columns_of, is_plain, names_dynamic, names_plain}
use Rattle.priv_items.specs.declared.item.Item.{Item}
use Rattle.priv_items.specs.declared.item.Item.TheVariants.{Plain, Columns, Dynamic, Usage}
use Rattle.priv_items.specs.declared.item.Named.{Named}
use Rattle.priv_items.specs.declared.item.Named.TheVariants.{All, Listed}

abbrev is_kept : Item → Bool
is_kept item = not (is_plain grant_option item)

plain_other : (q : ℕ) (item : Item) (more : Bool) → (not (q == grant_option) && (is_plain q item || more)) ≡ cond (is_kept item) (is_plain q item || (not (q == grant_option) && more)) (not (q == grant_option) && more)
plain_other q (Plain privilege) more = by (grant_option == privilege) (q == privilege) (q == grant_option) refl refl refl
  where
    by : (option same other : Bool) → (grant_option == privilege) ≡ option → (q == privilege) ≡ same → (q == grant_option) ≡ other
        → (not other && (same || more)) ≡ cond (not option) (same || (not other && more)) (not other && more)
    by true same true p r s = refl
    by true false false p r s = refl
    by true true false p r s = absurd (true≢false (sym (eq-eqb q grant_option (eqb-true q privilege r ∙ sym (eqb-true grant_option privilege p))) ∙ s))
    by false same false p r s = refl
    by false false true p r s = refl
    by false true true p r s = absurd (true≢false (sym (eq-eqb grant_option privilege (sym (eqb-true q grant_option s) ∙ eqb-true q privilege r)) ∙ p))
plain_other q (Columns privilege columns) more = refl
plain_other q (Dynamic privilege) more = refl
plain_other q Usage more = refl

-- GRANT OPTION is named no longer, and what else is named still is
plain-without : (items : List Item) (q : ℕ) → names_plain (filter is_kept items) q ≡ (not (q == grant_option) && names_plain items q)
plain-without [] q = sym (and_right (not (q == grant_option)) false refl)
plain-without (item ∷ items) q =
    elim (is_kept item) as (λ t. names_plain (cond t (item ∷ filter is_kept items) (filter is_kept items)) q ≡ cond t (is_plain q item || (not (q == grant_option) && names_plain items q)) (not (q == grant_option) && names_plain items q)) [
      | true ↦ ap (λ more. is_plain q item || more) (plain-without items q)
      | false ↦ plain-without items q
    ]
    ∙ sym (plain_other q item (names_plain items q))

dynamic-without : (items : List Item) (q : ℕ) → names_dynamic (filter is_kept items) q ≡ names_dynamic items q
dynamic-without [] q = refl
dynamic-without (Plain privilege ∷ items) q =
    elim (is_kept (Plain privilege)) as (λ t. names_dynamic (cond t (Plain privilege ∷ filter is_kept items) (filter is_kept items)) q ≡ names_dynamic items q) [ true ↦ dynamic-without items q | false ↦ dynamic-without items q ]
dynamic-without (Columns privilege columns ∷ items) q = dynamic-without items q
dynamic-without (Dynamic privilege ∷ items) q = ap (λ more. q == privilege || more) (dynamic-without items q)
dynamic-without (Usage ∷ items) q = dynamic-without items q

columns-without : (items : List Item) (q : ℕ) → columns_of (filter is_kept items) q ≡ columns_of items q
columns-without [] q = refl
columns-without (Plain privilege ∷ items) q =
    elim (is_kept (Plain privilege)) as (λ t. columns_of (cond t (Plain privilege ∷ filter is_kept items) (filter is_kept items)) q ≡ columns_of items q) [ true ↦ columns-without items q | false ↦ columns-without items q ]
columns-without (Columns privilege columns ∷ items) q = ap (λ more. columns_in q (Columns privilege columns) ++ more) (columns-without items q)
columns-without (Dynamic privilege ∷ items) q = columns-without items q
columns-without (Usage ∷ items) q = columns-without items q

pub meant_without : (named : Named) (list made : PrivList) → IsMeant named list → made.all ≡ list.all → ((q : ℕ) → holds made.plain q ≡ (not (q == grant_option) && holds list.plain q))
    → made.columns ≡ list.columns → made.dynamic ≡ list.dynamic → IsMeant (without_grant_option named) made
meant_without All list made meant all plain columns dynamic =
    record {
      all = all ∙ meant.all;
      plain = λ q. plain q ∙ and_right (not (q == grant_option)) (holds list.plain q) (meant.plain q);
      columns = λ q. ap (λ lists. columns_on lists q) columns ∙ meant.columns q;
      dynamic = λ q. ap (λ bits. bit_at bits q == 1) dynamic ∙ meant.dynamic q;
    }
meant_without (Listed items) list made meant all plain columns dynamic =
    record {
      all = all ∙ meant.all;
      plain = λ q. plain q ∙ ap (λ held. not (q == grant_option) && held) (meant.plain q) ∙ sym (plain-without items q);
      columns = λ q. ap (λ lists. columns_on lists q) columns ∙ meant.columns q ∙ ap each_once (sym (columns-without items q));
      dynamic = λ q. ap (λ bits. bit_at bits q == 1) dynamic ∙ meant.dynamic q ∙ sym (dynamic-without items q);
    }

pub wrong_level-without : (named : Named) (target : Target) → wrong_level named target ≡ None → wrong_level (without_grant_option named) target ≡ None
wrong_level-without All target none = none
wrong_level-without (Listed items) target none = filter_fits target is_kept items none

-- a list that never had it
pub meant_as_granted : (named : Named) (list : PrivList) → IsMeant named list → holds list.plain grant_option ≡ false → IsMeant (without_grant_option named) list
meant_as_granted named list meant none = meant_without named list list meant refl (λ q. by q (q == grant_option) refl) refl refl
  where
    by : (q : ℕ) (option : Bool) → (q == grant_option) ≡ option → holds list.plain q ≡ (not option && holds list.plain q)
    by q true same = ap (holds list.plain) (eqb-true q grant_option same) ∙ none
    by q false other = refl
