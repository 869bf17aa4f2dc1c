-- What an account holds by itself, in a state whose rows are sound and listed.
use Rattle.std.proofs.Common.{◌≡◌, ◌∙◌, ap, sym, subst, refl, ℕ, ◌<◌, ◌^◌, Bool, true, false, not, ◌&&◌, ◌||◌, List, [], ◌∷◌, length, filter}
use Rattle.std.proofs.Math.Bool.{or-false}
use Rattle.std.proofs.lemmas.Bool.{and_parts, ltb-true, not-true, or_left}
use Rattle.std.specs.List.{flat_map, list_any}
use Rattle.acl_names.proofs.SameAuth.{equal_from_same_auth, equal_from_text_eq, same_auth_itself, text_eq_itself}
use Rattle.acl_names.specs.AuthId.{same_auth}
use Rattle.acl_names.specs.Text.{is_lower, text_eq}
use Rattle.acl_names.specs.declared.auth.AuthId.{AuthId}
use Rattle.accepted_lists.specs.Sound.{IsSound}
use Rattle.accepted_lists.specs.Listed.{is_account}
use Rattle.acl_model.specs.Rows.{holder, same_row}
use Rattle.acl_model.specs.State.{State}
use Rattle.acl_model.specs.declared.row.Row.{Row}
use Rattle.acl_model.specs.declared.row.Row.TheVariants.{Account, Global, Dynamic, DynamicGrant, Schema, Table, Column, Function, Procedure, Edge, Admin, Default, Restriction}
use Rattle.acl_stmt.specs.Statements.{is_named}
use Rattle.priv_sets.specs.Levels.{has_level}
use Rattle.priv_sets.specs.declared.level.Level.TheVariants as level
use Rattle.show_grants.specs.Keys.{auth_less, pair_less, same_pair, text_less}
use Rattle.show_grants.specs.Listing.{column_at, function_at, listing_of, procedure_at, role_at, schema_at, table_at}
use Rattle.show_grants.specs.Rights.{held_by}
use Rattle.shown_laws.proofs.Found.{equal_from_same_pair, same_pair_itself}
use Rattle.shown_laws.proofs.Holders.{held_row}
use Rattle.shown_laws.proofs.InOrder.{in_order_differ, listed_in_order}
use Rattle.shown_laws.proofs.Orderly.{IsListed, IsOrderly}
use Rattle.shown_laws.specs.Known.{Covers, is_default}

-- one account holds what its rows say
pub alone : (x : Bool) → (x || false) ≡ true → x ≡ true
alone true is = refl
alone false is = is

restricted_alone_by : (g r : Bool) → (r ≡ true → g ≡ true) → ((g || false) && ((not g || r) && true)) ≡ r
restricted_alone_by true true held = refl
restricted_alone_by true false held = refl
restricted_alone_by false true held = held refl
restricted_alone_by false false held = refl

module _ (st : State) (a : AuthId) (sound : IsSound st) where
  beside_parts : (s : List ℕ) (p : ℕ) → st.rows (Restriction a p s) ≡ true → (st.rows (Global a p) ≡ true) × (not (st.rows (Schema a s p)) ≡ true)
  beside_parts s p is = and_parts (st.rows (Global a p)) (not (st.rows (Schema a s p))) (sound.beside (Restriction a p s) is)

  restricted_row : (s : List ℕ) (p : ℕ) → (held_by st (a ∷ []) a).restricted s p ≡ st.rows (Restriction a p s)
  restricted_row s p = restricted_alone_by (st.rows (Global a p)) (st.rows (Restriction a p s)) (λ is. (beside_parts s p is).0)

  pub is_restriction : (s : List ℕ) (p : ℕ) → (held_by st (a ∷ []) a).restricted s p ≡ true → st.rows (Restriction a p s) ≡ true
  is_restriction s p is = sym (restricted_row s p) ∙ is

  -- what is held is what the rows say
  as_row : (row : AuthId → Row) (b : Bool) → b ≡ st.rows (row a) → (x : AuthId) → same_auth x a ≡ true → b ≡ st.rows (row x)
  as_row row b is x same = is ∙ ap (λ (y : AuthId). st.rows (row y)) (sym (equal_from_same_auth x a same))

  one_row : (row : AuthId → Row) (x : AuthId) → same_auth x a ≡ true → (st.rows (row a) || false) ≡ st.rows (row x)
  one_row row x same = as_row row (st.rows (row a) || false) (or-false (st.rows (row a))) x same

  pub own_rows : (row : Row) → same_auth (holder row) a ≡ true → is_default row ≡ false → is_account row ≡ false → held_row (held_by st (a ∷ []) a) row ≡ st.rows row
  own_rows (Account x) same other kind = cc
  own_rows (Global x p) same other kind = one_row (λ y. Global y p) x same
  own_rows (Dynamic x d) same other kind = one_row (λ y. Dynamic y d) x same
  own_rows (DynamicGrant x d) same other kind = one_row (λ y. DynamicGrant y d) x same
  own_rows (Schema x s p) same other kind = one_row (λ y. Schema y s p) x same
  own_rows (Table x s t p) same other kind = one_row (λ y. Table y s t p) x same
  own_rows (Column x s t c p) same other kind = one_row (λ y. Column y s t c p) x same
  own_rows (Function x s f p) same other kind = one_row (λ y. Function y s f p) x same
  own_rows (Procedure x s f p) same other kind = one_row (λ y. Procedure y s f p) x same
  own_rows (Edge r x) same other kind = as_row (Edge r) (st.rows (Edge r a)) refl x same
  own_rows (Admin r x) same other kind = as_row (Admin r) (st.rows (Admin r a)) refl x same
  own_rows (Default x r) same other kind = cc
  own_rows (Restriction x p s) same other kind = as_row (λ y. Restriction y p s) ((held_by st (a ∷ []) a).restricted s p) (restricted_row s p) x same

  pub own_orderly : IsOrderly (held_by st (a ∷ []) a) a
  own_orderly = record {
    plain_below = λ p is. ltb-true p 31 (sound.rules (Global a p) (alone (st.rows (Global a p)) is));
    dynamic_below = λ d is. ltb-true d 20 (sound.rules (Dynamic a d) (alone (st.rows (Dynamic a d)) is));
    grantable_held = λ d is. or_left (st.rows (Dynamic a d)) false (sound.beside (DynamicGrant a d) (alone (st.rows (DynamicGrant a d)) is));
    restricted_held = λ s p is. or_left (st.rows (Global a p)) false (beside_parts s p (is_restriction s p is)).0;
    restricted_alone = λ s p is. or-false (st.rows (Schema a s p)) ∙ not-true (st.rows (Schema a s p)) (beside_parts s p (is_restriction s p is)).1;
    restricted_level = λ s p is. sound.rules (Restriction a p s) (is_restriction s p is);
    schema_level = λ s p is. sound.rules (Schema a s p) (alone (st.rows (Schema a s p)) is);
    table_level = λ s t p is. sound.rules (Table a s t p) (alone (st.rows (Table a s t p)) is);
    column_level = λ s t c p is. (and_parts (has_level level.Column p) (is_lower c) (sound.rules (Column a s t c p) (alone (st.rows (Column a s t c p)) is))).0;
    column_lower = λ s t c p is. (and_parts (has_level level.Column p) (is_lower c) (sound.rules (Column a s t c p) (alone (st.rows (Column a s t c p)) is))).1;
    function_level = λ s f p is. (and_parts (has_level level.Routine p) (is_lower f) (sound.rules (Function a s f p) (alone (st.rows (Function a s f p)) is))).0;
    function_lower = λ s f p is. (and_parts (has_level level.Routine p) (is_lower f) (sound.rules (Function a s f p) (alone (st.rows (Function a s f p)) is))).1;
    procedure_level = λ s f p is. (and_parts (has_level level.Routine p) (is_lower f) (sound.rules (Procedure a s f p) (alone (st.rows (Procedure a s f p)) is))).0;
    procedure_lower = λ s f p is. (and_parts (has_level level.Routine p) (is_lower f) (sound.rules (Procedure a s f p) (alone (st.rows (Procedure a s f p)) is))).1;
    role_named = λ r is. (and_parts (is_named r) (not (same_auth r a)) (sound.rules (Edge r a) is)).0;
    role_other = λ r is. not-true (same_auth r a) (and_parts (is_named r) (not (same_auth r a)) (sound.rules (Edge r a) is)).1;
    admin_held = λ r is. sound.beside (Admin r a) is;
  }

  module _ (rows : List Row) (covers : Covers rows st a) where
    has : (row : Row) → is_account row ≡ false → same_auth (holder row) a ≡ true → st.rows row ≡ true → list_any (same_row row) rows ≡ true
    has row other same is = covers.each row other same is

    first_text : (s : List ℕ) → (text_eq s s || false) ≡ true
    first_text s = or_left (text_eq s s) false (text_eq_itself s)

    first_pair : (s t : List ℕ) → (same_pair (s, t) (s, t) || false) ≡ true
    first_pair s t = or_left (same_pair (s, t) (s, t)) false (same_pair_itself (s, t))

    pub own_listed : IsListed (held_by st (a ∷ []) a) (listing_of rows)
    own_listed = record {
      restricted = λ s p is.
          listed_in_order text_less text_eq equal_from_text_eq text_eq_itself schema_at (Restriction a p s) s rows (first_text s) (has (Restriction a p s) refl (same_auth_itself a) (is_restriction s p is));
      schema = λ s p is.
          listed_in_order text_less text_eq equal_from_text_eq text_eq_itself schema_at (Schema a s p) s rows (first_text s) (has (Schema a s p) refl (same_auth_itself a) (alone (st.rows (Schema a s p)) is));
      table = λ s t p is.
          listed_in_order pair_less same_pair equal_from_same_pair same_pair_itself table_at (Table a s t p) (s, t) rows (first_pair s t) (has (Table a s t p) refl (same_auth_itself a) (alone (st.rows (Table a s t p)) is));
      column_table = λ s t c p is.
          listed_in_order pair_less same_pair equal_from_same_pair same_pair_itself table_at (Column a s t c p) (s, t) rows (first_pair s t) (has (Column a s t c p) refl (same_auth_itself a) (alone (st.rows (Column a s t c p)) is));
      column = λ s t c p is.
          listed_in_order text_less text_eq equal_from_text_eq text_eq_itself column_at (Column a s t c p) c rows (first_text c) (has (Column a s t c p) refl (same_auth_itself a) (alone (st.rows (Column a s t c p)) is));
      function = λ s f p is.
          listed_in_order pair_less same_pair equal_from_same_pair same_pair_itself function_at (Function a s f p) (s, f) rows (first_pair s f) (has (Function a s f p) refl (same_auth_itself a) (alone (st.rows (Function a s f p)) is));
      procedure = λ s f p is.
          listed_in_order pair_less same_pair equal_from_same_pair same_pair_itself procedure_at (Procedure a s f p) (s, f) rows (first_pair s f) (has (Procedure a s f p) refl (same_auth_itself a) (alone (st.rows (Procedure a s f p)) is));
      role = λ r is.
          listed_in_order auth_less same_auth equal_from_same_auth same_auth_itself role_at (Edge r a) r rows (or_left (same_auth r r) false (same_auth_itself r)) (has (Edge r a) refl (same_auth_itself a) is);
      columns_differ = in_order_differ text_less text_eq equal_from_text_eq text_eq_itself (flat_map column_at rows);
      few = λ s t p.
          subst (λ (test : List ℕ → Bool). length (filter test (listing_of rows).columns) < 2 ^ 32) (λ i c. sym (or-false (st.rows (Column a s t c p))) i) (covers.few s t p);
    }
