-- What is read of the rows is what the state says.
use Rattle.std.proofs.Common.{◌≡◌, ◌∙◌, ap, sym, subst, refl, ℕ, ◌<◌, Bool, true, false, ◌&&◌, ◌||◌, cond, not, List, Option, None, inl, inr}
use Rattle.std.proofs.Math.Bool.{or-false}
use Rattle.std.proofs.lemmas.Bool.{cases_lt}
use Rattle.std.specs.List.{list_any}
use Rattle.acl_names.proofs.SameAuth.{same_auth_itself}
use Rattle.acl_names.specs.AuthId.{same_auth}
use Rattle.acl_names.specs.declared.auth.AuthId.{AuthId}
use Rattle.acl_model.specs.Rows.{holder, same_row}
use Rattle.acl_model.specs.State.{State}
use Rattle.acl_model.specs.Verdict.{Reading}
use Rattle.acl_model.specs.Words.{limited}
use Rattle.acl_model.specs.declared.row.Row.{Row}
use Rattle.acl_model.specs.declared.row.Row.TheVariants.{Dynamic as DynamicRow, DynamicGrant, Global, Restriction}
use Rattle.priv_map.specs.Readings.{IsCurrentRead, IsReadAt, reading_of}
use Rattle.priv_map.specs.Restricted.{lists_restriction, restricts}
use Rattle.priv_map.specs.declared.acting.Acting.{Acting}
use Rattle.priv_map.specs.declared.schema_held.SchemaHeld.{SchemaHeld}
use Rattle.priv_sets.proofs.LevelLemmas.{no_level_above}
use Rattle.priv_sets.specs.DynamicSet.{grants_dynamic, holds_dynamic}
use Rattle.priv_sets.specs.Levels.{has_level}
use Rattle.priv_sets.specs.StaticSet.{holds}
use Rattle.priv_sets.specs.declared.level.Level.TheVariants.{Schema}

level_below : (p : ℕ) → has_level Schema p ≡ true → p < 31
level_below p h = elim (cases_lt p 31) [
  | inl below ↦ below
  | inr above ↦
      let none : has_level Schema p ≡ false = no_level_above Schema p above in
      absurd (let Q : Bool → Type 0 = λ b. cond b ⊥ (Unit {0}) in subst Q (sym none ∙ h) tt)
]

-- what the account's rows list of it is what stands
own_row : (rows : List Row) (stands : Row → Bool) (account : AuthId) (row : Row) → holder row ≡ account
    → ((r : Row) → list_any (same_row r) rows ≡ (stands r && same_auth (holder r) account)) → list_any (same_row row) rows ≡ stands row
own_row rows stands account row own listed = listed row ∙ ap (λ b. stands row && b) (ap (λ a. same_auth a account) own ∙ same_auth_itself account) ∙ and_true (stands row)
  where
    and_true : (b : Bool) → (b && true) ≡ b
    and_true true = refl
    and_true false = refl

-- one account that holds the privilege on `*.*` is restricted where it has the restriction
one_source : (g r : Bool) → (g && r) ≡ ((g || false) && ((not g || r) && true))
one_source true true = refl
one_source true false = refl
one_source false r = refl

level_holds : (plain level r : Bool) → level ≡ true → ((plain && level) && r) ≡ (plain && r)
level_holds true level r h = ap (λ b. b && r) h
level_holds false level r h = refl

no_current : (o : Option SchemaHeld) → o ≡ None → (used : Reading) → IsCurrentRead o used
no_current o none used = subst (λ x. IsCurrentRead x used) (sym none) tt

pub read_at : (acting : Acting) (state : State) (account : AuthId) (rows : List Row) → acting.account ≡ account → acting.current ≡ None
    → ((q : ℕ) → q < 31 → holds acting.held.plain q ≡ state.rows (Global account q))
    → ((d : ℕ) → d < 20 → holds_dynamic acting.held.dynamic d ≡ state.rows (DynamicRow account d))
    → ((d : ℕ) → d < 20 → grants_dynamic acting.held.dynamic d ≡ (state.rows (DynamicRow account d) && state.rows (DynamicGrant account d)))
    → ((r : Row) → list_any (same_row r) rows ≡ (state.rows r && same_auth (holder r) account))
    → ((schema : List ℕ) (p : ℕ) → p < 31 → limited acting.held.restrictions schema p ≡ restricts rows account acting.held.plain schema p)
    → (used : Reading) → IsReadAt acting (reading_of state acting) used
read_at acting state account rows same none plain dynamic grantable listed restricted used = record {
  plain = λ p below. plain p below ∙ ap (λ a. state.rows (Global a p)) (sym same) ∙ sym (or-false (state.rows (Global acting.account p)));
  dynamic = λ d below. dynamic d below ∙ ap (λ a. state.rows (DynamicRow a d)) (sym same) ∙ sym (or-false (state.rows (DynamicRow acting.account d)));
  grantable = λ d below.
      grantable d below ∙ ap (λ a. state.rows (DynamicRow a d) && state.rows (DynamicGrant a d)) (sym same)
      ∙ ap (λ b. b && state.rows (DynamicGrant acting.account d)) (sym (or-false (state.rows (DynamicRow acting.account d))))
      ∙ ap (λ b. (state.rows (DynamicRow acting.account d) || false) && b) (sym (or-false (state.rows (DynamicGrant acting.account d))));
  restricted = λ schema p level.
      restricted schema p (level_below p level)
      ∙ level_holds (holds acting.held.plain p) (has_level Schema p) (lists_restriction rows account schema p) level
      ∙ ap (λ b. b && lists_restriction rows account schema p) (plain p (level_below p level))
      ∙ ap (λ b. state.rows (Global account p) && b) (own_row rows state.rows account (Restriction account p schema) refl listed)
      ∙ ap (λ a. state.rows (Global a p) && state.rows (Restriction a p schema)) (sym same)
      ∙ one_source (state.rows (Global acting.account p)) (state.rows (Restriction acting.account p schema));
  current = no_current acting.current none used;
}
