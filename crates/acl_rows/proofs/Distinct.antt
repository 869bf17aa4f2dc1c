-- The distinct items that rows use, and the limits on them.
use Rattle.std.proofs.Common.{◌≡◌, ◌∙◌, ap, sym, subst, ℕ, Bool, true, false, cond, not, ◌||◌, List, [], ◌∷◌, ◌++◌, Option, Some, None, length, fold, refl, IsTrue, ◌↔◌, inl, inr, MatchBool, nat_lt}
use Rattle.std.proofs.Math.Bool.{or-false, or-true}
use Rattle.std.proofs.lemmas.Bool.{and_from, and_parts, not_from_false, not-true, or_from, or_parts}
use Rattle.std.proofs.lemmas.List.Folds.{list_any-append}
use Rattle.std.specs.List.{list_any}
use Rattle.acl_names.proofs.SameAuth.{equal_from_same_auth, equal_from_text_eq, same_auth_itself, text_eq_itself}
use Rattle.acl_names.specs.AuthId.{same_auth}
use Rattle.acl_names.specs.Text.{text_eq}
use Rattle.acl_names.specs.declared.auth.AuthId.{AuthId}
use Rattle.acl_model.proofs.SameRows.{equal_from_same_row, same_row_from_equal, same_row_itself}
use Rattle.acl_model.specs.Counts.{HasMoreThan, IsEdgeInUse, IsObjectInUse, IsPairInUse, IsSchemaInUse, ListsEachOnce, same_pair}
use Rattle.acl_model.specs.Rows.{same_row}
use Rattle.acl_model.specs.declared.row.Row.{Row}
use Rattle.acl_model.specs.declared.row.Row.TheVariants.{Schema, Table, Column, Function, Procedure, Edge, Default, Restriction}
use Rattle.acl_rows.specs.Tables.{Tables, state_of}
use Rattle.acl_rows.proofs.Counting.{is_over_limit}
use Rattle.acl_rows.proofs.RowLists.{passing_row, some_row}
use Rattle.acl_rows.specs.Uses.{distinct, edge_of, noted, object_of, pair_of, schema_of}
use Rattle.acl_stmt.specs.Lists.{all_differ_by}

abbrev is_key : {X : Type 0} → (X → X → Bool) → Option X → X → Bool
is_key same None k = false
is_key same (Some x) k = same k x

or_or : (a b c : Bool) → ((a || b) || c) ≡ (a || (b || c))
or_or true b c = refl
or_or false b c = refl

module _ {X : Type 0} (same : X → X → Bool) (equal : (a b : X) → same a b ≡ true → a ≡ b) (itself : (a : X) → same a a ≡ true) (key : Row → Option X) where
  other_way : (a b : X) → same a b ≡ false → (t : Bool) → same b a ≡ t → t ≡ false
  other_way a b differ false is = refl
  other_way a b differ true is =
      let here : same a b ≡ true = ap (same a) (equal b a is) ∙ itself a in
      cc

  seen_already : (k x : X) (seen : List X) → list_any (same x) seen ≡ true → (t : Bool) → same k x ≡ t → list_any (same k) seen ≡ (list_any (same k) seen || t)
  seen_already k x seen there true is = ap (λ y. list_any (same y) seen) (equal k x is) ∙ there ∙ sym (or-true (list_any (same k) seen))
  seen_already k x seen there false is = sym (or-false (list_any (same k) seen))

  pub noted_has : (seen : List X) (o : Option X) (k : X) → list_any (same k) (noted same seen o) ≡ (list_any (same k) seen || is_key same o k)
  noted_has seen None k = sym (or-false (list_any (same k) seen))
  noted_has seen (Some x) k = at (list_any (same x) seen) refl
    where
      at : (t : Bool) → list_any (same x) seen ≡ t → list_any (same k) (cond t seen (seen ++ x ∷ [])) ≡ (list_any (same k) seen || same k x)
      at true there = seen_already k x seen there (same k x) refl
      at false gone = list_any-append (same k) seen (x ∷ []) ∙ ap (λ t. list_any (same k) seen || t) (or-false (same k x))

  not_there : (y x : X) (seen : List X) → list_any (same y) seen ≡ false → same y x ≡ false → list_any (same y) (seen ++ x ∷ []) ≡ false
  not_there y x seen gone differ = list_any-append (same y) seen (x ∷ []) ∙ or_from (list_any (same y) seen) (same y x || false) gone (or-false (same y x) ∙ differ)

  pub once_more : (seen : List X) (x : X) → all_differ_by same seen ≡ true → list_any (same x) seen ≡ false → all_differ_by same (seen ++ x ∷ []) ≡ true
  once_more [] x once gone = refl
  once_more (y ∷ seen) x once gone =
      let parts = and_parts (not (list_any (same y) seen)) (all_differ_by same seen) once in
      let apart = or_parts (same x y) (list_any (same x) seen) gone in
      let first : list_any (same y) (seen ++ x ∷ []) ≡ false = not_there y x seen (not-true (list_any (same y) seen) parts.0) (other_way x y apart.0 (same y x) refl) in
      and_from (not (list_any (same y) (seen ++ x ∷ []))) (all_differ_by same (seen ++ x ∷ [])) (not_from_false (list_any (same y) (seen ++ x ∷ [])) first) (once_more seen x parts.1 apart.1)

  pub noted_once : (seen : List X) (o : Option X) → all_differ_by same seen ≡ true → all_differ_by same (noted same seen o) ≡ true
  noted_once seen None once = once
  noted_once seen (Some x) once = at (list_any (same x) seen) refl
    where
      at : (t : Bool) → list_any (same x) seen ≡ t → all_differ_by same (cond t seen (seen ++ x ∷ [])) ≡ true
      at true there = once
      at false gone = once_more seen x once gone

  all_noted : List X → List Row → List X
  all_noted seen rows = fold (λ seen row. noted same seen (key row)) seen rows

  fold_has : (rows : List Row) (seen : List X) (k : X)
      → list_any (same k) (fold (λ seen row. noted same seen (key row)) seen rows) ≡ (list_any (same k) seen || list_any (λ row. is_key same (key row) k) rows)
  fold_has [] seen k = sym (or-false (list_any (same k) seen))
  fold_has (row ∷ rows) seen k =
      fold_has rows (noted same seen (key row)) k
      ∙ ap (λ t. t || list_any (λ row. is_key same (key row) k) rows) (noted_has seen (key row) k)
      ∙ or_or (list_any (same k) seen) (is_key same (key row) k) (list_any (λ row. is_key same (key row) k) rows)

  fold_once : (rows : List Row) (seen : List X) → all_differ_by same seen ≡ true → all_differ_by same (fold (λ seen row. noted same seen (key row)) seen rows) ≡ true
  fold_once [] seen once = once
  fold_once (row ∷ rows) seen once = fold_once rows (noted same seen (key row)) (noted_once seen (key row) once)

  -- each item that rows use is listed once
  pub distinct_lists : (rows : List Row) (P : X → Type 0) → ((k : X) → IsTrue (list_any (λ row. is_key same (key row) k) rows) ↔ P k) → ListsEachOnce same P (distinct same key rows)
  distinct_lists rows P used = record {
    once = fold_once rows [] refl;
    just_these = λ k. (λ any. (used k).0 (sym (fold_has rows [] k) ∙ any), λ holds. fold_has rows [] k ∙ (used k).1 holds);
  }

-- ---- schemas

schema_from : (tables : Tables) (s : List ℕ) (row : Row) → list_any (same_row row) tables.grants ≡ true → is_key text_eq (schema_of row) s ≡ true → IsSchemaInUse (state_of tables) s
unfolding state_of
schema_from tables s (Schema a t p) stands is = (a, (p, inl (ap (λ u. list_any (same_row (Schema a u p)) tables.grants) (equal_from_text_eq s t is) ∙ stands)))
schema_from tables s (Restriction a p t) stands is = (a, (p, inr (ap (λ u. list_any (same_row (Restriction a p u)) tables.grants) (equal_from_text_eq s t is) ∙ stands)))
schema_from tables s _ stands is = cc

schema_to : (tables : Tables) (s : List ℕ) → IsSchemaInUse (state_of tables) s → list_any (λ row. is_key text_eq (schema_of row) s) tables.grants ≡ true
unfolding state_of
schema_to tables s (a, (p, inl stands)) = passing_row (λ row. is_key text_eq (schema_of row) s) tables.grants (Schema a s p) stands (text_eq_itself s)
schema_to tables s (a, (p, inr stands)) = passing_row (λ row. is_key text_eq (schema_of row) s) tables.grants (Restriction a p s) stands (text_eq_itself s)

pub schemas_once : (tables : Tables) → ListsEachOnce text_eq (IsSchemaInUse (state_of tables)) (distinct text_eq schema_of tables.grants)
schemas_once tables = distinct_lists text_eq equal_from_text_eq text_eq_itself schema_of tables.grants (IsSchemaInUse (state_of tables))
    (λ s. (λ any. let found = some_row (λ row. is_key text_eq (schema_of row) s) tables.grants any in schema_from tables s found.0 found.1 found.2, schema_to tables s))

-- ---- pairs

pub equal_from_same_pair : (one other : AuthId × List ℕ) → same_pair one other ≡ true → one ≡ other
equal_from_same_pair one other same =
    let parts = and_parts (same_auth one.0 other.0) (text_eq one.1 other.1) same in
    let first : one.0 ≡ other.0 = equal_from_same_auth one.0 other.0 parts.0 in
    let second : one.1 ≡ other.1 = equal_from_text_eq one.1 other.1 parts.1 in
    λ i. (first i, second i)

pub same_pair_itself : (pair : AuthId × List ℕ) → same_pair pair pair ≡ true
same_pair_itself pair = and_from (same_auth pair.0 pair.0) (text_eq pair.1 pair.1) (same_auth_itself pair.0) (text_eq_itself pair.1)

pair_from : (tables : Tables) (k : AuthId × List ℕ) (row : Row) → list_any (same_row row) tables.grants ≡ true → is_key same_pair (pair_of row) k ≡ true → IsPairInUse (state_of tables) k
unfolding state_of
pair_from tables k (Schema a t p) stands is =
    (p, inl (ap (λ (w : AuthId × List ℕ). list_any (same_row (Schema w.0 w.1 p)) tables.grants) (equal_from_same_pair k (a, t) is) ∙ stands))
pair_from tables k (Restriction a p t) stands is =
    (p, inr (ap (λ (w : AuthId × List ℕ). list_any (same_row (Restriction w.0 p w.1)) tables.grants) (equal_from_same_pair k (a, t) is) ∙ stands))
pair_from tables k _ stands is = cc

pair_to : (tables : Tables) (k : AuthId × List ℕ) → IsPairInUse (state_of tables) k → list_any (λ row. is_key same_pair (pair_of row) k) tables.grants ≡ true
unfolding state_of
pair_to tables k (p, inl stands) = passing_row (λ row. is_key same_pair (pair_of row) k) tables.grants (Schema k.0 k.1 p) stands (same_pair_itself k)
pair_to tables k (p, inr stands) = passing_row (λ row. is_key same_pair (pair_of row) k) tables.grants (Restriction k.0 p k.1) stands (same_pair_itself k)

pub pairs_once : (tables : Tables) → ListsEachOnce same_pair (IsPairInUse (state_of tables)) (distinct same_pair pair_of tables.grants)
pairs_once tables = distinct_lists same_pair equal_from_same_pair same_pair_itself pair_of tables.grants (IsPairInUse (state_of tables))
    (λ k. (λ any. let found = some_row (λ row. is_key same_pair (pair_of row) k) tables.grants any in pair_from tables k found.0 found.1 found.2, pair_to tables k))

-- ---- objects

object_from : (tables : Tables) (k row : Row) → list_any (same_row row) tables.grants ≡ true → is_key same_row (object_of row) k ≡ true → IsObjectInUse (state_of tables) k
unfolding state_of
object_from tables k (Table a s t p) stands is =
    subst (λ (r : Row). IsObjectInUse (state_of tables) r) (sym (equal_from_same_row k (Table a s t 0) is)) (refl, (p, stands))
object_from tables k (Column a s t c p) stands is =
    subst (λ (r : Row). IsObjectInUse (state_of tables) r) (sym (equal_from_same_row k (Column a s t c 0) is)) (refl, (p, stands))
object_from tables k (Function a s f p) stands is =
    subst (λ (r : Row). IsObjectInUse (state_of tables) r) (sym (equal_from_same_row k (Function a s f 0) is)) (refl, (p, stands))
object_from tables k (Procedure a s f p) stands is =
    subst (λ (r : Row). IsObjectInUse (state_of tables) r) (sym (equal_from_same_row k (Procedure a s f 0) is)) (refl, (p, stands))
object_from tables k _ stands is = cc

object_to : (tables : Tables) (k : Row) → IsObjectInUse (state_of tables) k → list_any (λ row. is_key same_row (object_of row) k) tables.grants ≡ true
unfolding state_of
object_to tables (Table a s t q) (zeroed, (p, stands)) =
    passing_row (λ row. is_key same_row (object_of row) (Table a s t q)) tables.grants (Table a s t p) stands (same_row_from_equal (Table a s t q) (Table a s t 0) (ap (Table a s t) zeroed))
object_to tables (Column a s t c q) (zeroed, (p, stands)) =
    passing_row (λ row. is_key same_row (object_of row) (Column a s t c q)) tables.grants (Column a s t c p) stands (same_row_from_equal (Column a s t c q) (Column a s t c 0) (ap (Column a s t c) zeroed))
object_to tables (Function a s f q) (zeroed, (p, stands)) =
    passing_row (λ row. is_key same_row (object_of row) (Function a s f q)) tables.grants (Function a s f p) stands (same_row_from_equal (Function a s f q) (Function a s f 0) (ap (Function a s f) zeroed))
object_to tables (Procedure a s f q) (zeroed, (p, stands)) =
    passing_row (λ row. is_key same_row (object_of row) (Procedure a s f q)) tables.grants (Procedure a s f p) stands (same_row_from_equal (Procedure a s f q) (Procedure a s f 0) (ap (Procedure a s f) zeroed))
object_to tables _ used = absurd used

pub objects_once : (tables : Tables) → ListsEachOnce same_row (IsObjectInUse (state_of tables)) (distinct same_row object_of tables.grants)
objects_once tables = distinct_lists same_row equal_from_same_row same_row_itself object_of tables.grants (IsObjectInUse (state_of tables))
    (λ k. (λ any. let found = some_row (λ row. is_key same_row (object_of row) k) tables.grants any in object_from tables k found.0 found.1 found.2, object_to tables k))

-- ---- edges

edge_from : (tables : Tables) (k row : Row) → list_any (same_row row) tables.grants ≡ true → is_key same_row (edge_of row) k ≡ true → IsEdgeInUse (state_of tables) k
unfolding state_of
edge_from tables k (Edge role to) stands is = subst (λ (r : Row). IsEdgeInUse (state_of tables) r) (sym (equal_from_same_row k (Edge role to) is)) stands
edge_from tables k (Default of role) stands is = subst (λ (r : Row). IsEdgeInUse (state_of tables) r) (sym (equal_from_same_row k (Default of role) is)) stands
edge_from tables k _ stands is = cc

edge_to : (tables : Tables) (k : Row) → IsEdgeInUse (state_of tables) k → list_any (λ row. is_key same_row (edge_of row) k) tables.grants ≡ true
unfolding state_of
edge_to tables (Edge role to) used = passing_row (λ row. is_key same_row (edge_of row) (Edge role to)) tables.grants (Edge role to) used (same_row_itself (Edge role to))
edge_to tables (Default of role) used = passing_row (λ row. is_key same_row (edge_of row) (Default of role)) tables.grants (Default of role) used (same_row_itself (Default of role))
edge_to tables _ used = absurd used

pub edges_once : (tables : Tables) → ListsEachOnce same_row (IsEdgeInUse (state_of tables)) (distinct same_row edge_of tables.grants)
edges_once tables = distinct_lists same_row equal_from_same_row same_row_itself edge_of tables.grants (IsEdgeInUse (state_of tables))
    (λ k. (λ any. let found = some_row (λ row. is_key same_row (edge_of row) k) tables.grants any in edge_from tables k found.0 found.1 found.2, edge_to tables k))

-- ---- the limits

pub over_schemas : (tables : Tables) (n : ℕ) → n ≡ length (distinct text_eq schema_of tables.grants)
    → MatchBool (nat_lt 4096 n) (HasMoreThan text_eq (IsSchemaInUse (state_of tables)) 4096) (HasMoreThan text_eq (IsSchemaInUse (state_of tables)) 4096 → ⊥)
over_schemas tables n is = rw is (is_over_limit text_eq equal_from_text_eq text_eq_itself _ _ (schemas_once tables) 4096 (nat_lt 4096 (length (distinct text_eq schema_of tables.grants))) refl)

pub over_pairs : (tables : Tables) (n : ℕ) → n ≡ length (distinct same_pair pair_of tables.grants)
    → MatchBool (nat_lt 262144 n) (HasMoreThan same_pair (IsPairInUse (state_of tables)) 262144) (HasMoreThan same_pair (IsPairInUse (state_of tables)) 262144 → ⊥)
over_pairs tables n is = rw is (is_over_limit same_pair equal_from_same_pair same_pair_itself _ _ (pairs_once tables) 262144 (nat_lt 262144 (length (distinct same_pair pair_of tables.grants))) refl)

pub over_objects : (tables : Tables) (n : ℕ) → n ≡ length (distinct same_row object_of tables.grants)
    → MatchBool (nat_lt 65536 n) (HasMoreThan same_row (IsObjectInUse (state_of tables)) 65536) (HasMoreThan same_row (IsObjectInUse (state_of tables)) 65536 → ⊥)
over_objects tables n is = rw is (is_over_limit same_row equal_from_same_row same_row_itself _ _ (objects_once tables) 65536 (nat_lt 65536 (length (distinct same_row object_of tables.grants))) refl)

pub over_edges : (tables : Tables) (n : ℕ) → n ≡ length (distinct same_row edge_of tables.grants)
    → MatchBool (nat_lt 65536 n) (HasMoreThan same_row (IsEdgeInUse (state_of tables)) 65536) (HasMoreThan same_row (IsEdgeInUse (state_of tables)) 65536 → ⊥)
over_edges tables n is = rw is (is_over_limit same_row equal_from_same_row same_row_itself _ _ (edges_once tables) 65536 (nat_lt 65536 (length (distinct same_row edge_of tables.grants))) refl)
