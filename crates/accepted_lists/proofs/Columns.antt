-- A privilege is held on few columns of a table, since the objects are few.
use Rattle.std.proofs.Common.{◌≡◌, ◌∙◌, ap, sym, subst, refl, ℕ, suc, ◌≤◌, Bool, true, false, cond, not, ◌&&◌, ◌||◌, List, [], ◌∷◌, length, filter, map, inl, inr, arith}
use Rattle.std.proofs.lemmas.Bool.{and_from, and_parts, cases_lt, not-true, not_from_false, or_cases, or_from, or_left, or_parts, or_right}
use Rattle.std.proofs.lemmas.List.Folds.{list_any-append}
use Rattle.std.specs.List.{flat_map, list_any}
use Rattle.acl_names.proofs.SameAuth.{same_auth_itself, text_eq_itself}
use Rattle.acl_names.specs.Text.{text_eq}
use Rattle.acl_names.specs.declared.auth.AuthId.{AuthId}
use Rattle.accepted_lists.proofs.Longest.{not_longer, once, once_differ, once_has}
use Rattle.accepted_lists.proofs.Named.{never}
use Rattle.accepted_lists.specs.Listed.{ListsRows}
use Rattle.acl_model.proofs.SameRows.{equal_from_same_row, same_row_itself}
use Rattle.acl_model.specs.Counts.{HasMoreThan, IsObjectInUse, ListsEachOnce}
use Rattle.acl_model.specs.Rows.{same_row}
use Rattle.acl_model.specs.State.{State}
use Rattle.acl_model.specs.declared.row.Row.{Row}
use Rattle.acl_model.specs.declared.row.Row.TheVariants.{Column, Function, Procedure, Table}
use Rattle.acl_stmt.specs.Lists.{all_differ_by}

-- the object of a row, as a row of the privilege 0
object_of : Row → List Row
object_of (Table a s t p) = Table a s t 0 ∷ []
object_of (Column a s t c p) = Column a s t c 0 ∷ []
object_of (Function a s f p) = Function a s f 0 ∷ []
object_of (Procedure a s f p) = Procedure a s f 0 ∷ []
object_of _ = []

-- ---- objects of a list of rows

one_alone : (k row : Row) → (same_row k row || false) ≡ true → k ≡ row
one_alone k row is = elim (or_cases (same_row k row) false is) [ inl same ↦ equal_from_same_row k row same | inr none ↦ never none ]

module _ (rows : List Row) (state : State) (listed : ListsRows rows state) where
  used_at : (k row : Row) → list_any (same_row k) (object_of row) ≡ true → list_any (same_row row) rows ≡ true → IsObjectInUse state k
  unfolding object_of
  used_at k (Table a s t p) is there =
      subst (λ (r : Row). IsObjectInUse state r) (sym (one_alone k (Table a s t 0) is)) (refl, (p, sym (listed.just (Table a s t p) refl) ∙ there))
  used_at k (Column a s t c p) is there =
      subst (λ (r : Row). IsObjectInUse state r) (sym (one_alone k (Column a s t c 0) is)) (refl, (p, sym (listed.just (Column a s t c p) refl) ∙ there))
  used_at k (Function a s f p) is there =
      subst (λ (r : Row). IsObjectInUse state r) (sym (one_alone k (Function a s f 0) is)) (refl, (p, sym (listed.just (Function a s f p) refl) ∙ there))
  used_at k (Procedure a s f p) is there =
      subst (λ (r : Row). IsObjectInUse state r) (sym (one_alone k (Procedure a s f 0) is)) (refl, (p, sym (listed.just (Procedure a s f p) refl) ∙ there))
  used_at k row is there = never is

  -- an object of some of the rows is in use
  used_from : (k : Row) (some : List Row) → ((row : Row) → list_any (same_row row) some ≡ true → list_any (same_row row) rows ≡ true)
      → list_any (same_row k) (flat_map object_of some) ≡ true → IsObjectInUse state k
  used_from k [] among is = never is
  used_from k (row ∷ some) among is =
      elim (or_cases (list_any (same_row k) (object_of row)) (list_any (same_row k) (flat_map object_of some)) (sym (list_any-append (same_row k) (object_of row) (flat_map object_of some)) ∙ is)) [
        | inl here ↦ used_at k row here (among row (or_left (same_row row row) (list_any (same_row row) some) (same_row_itself row)))
        | inr later ↦ used_from k some (λ r there. among r (or_right (same_row r row) (list_any (same_row r) some) there)) later
      ]

  -- the object of a row that stands is among them
  object_there : (row k : Row) (some : List Row) → list_any (same_row k) (object_of row) ≡ true → list_any (same_row row) some ≡ true → list_any (same_row k) (flat_map object_of some) ≡ true
  object_there row k [] is there = never there
  object_there row k (first ∷ some) is there =
      list_any-append (same_row k) (object_of first) (flat_map object_of some)
      ∙ elim (or_cases (same_row row first) (list_any (same_row row) some) there) [
        | inl here ↦
            or_left (list_any (same_row k) (object_of first)) (list_any (same_row k) (flat_map object_of some))
            (ap (λ (r : Row). list_any (same_row k) (object_of r)) (sym (equal_from_same_row row first here)) ∙ is)
        | inr later ↦ or_right (list_any (same_row k) (object_of first)) (list_any (same_row k) (flat_map object_of some)) (object_there row k some is later)
      ]

  itself_there : (row : Row) → (same_row row row || false) ≡ true
  itself_there row = or_left (same_row row row) false (same_row_itself row)

  used_there : (k : Row) → IsObjectInUse state k → list_any (same_row k) (flat_map object_of rows) ≡ true
  unfolding object_of
  used_there (Table a s t q) used =
      object_there (Table a s t used.1.0) (Table a s t q) rows (ap (λ n. same_row (Table a s t q) (Table a s t n) || false) (sym used.0) ∙ itself_there (Table a s t q)) (listed.just (Table a s t used.1.0) refl ∙ used.1.1)
  used_there (Column a s t c q) used =
      object_there (Column a s t c used.1.0) (Column a s t c q) rows (ap (λ n. same_row (Column a s t c q) (Column a s t c n) || false) (sym used.0) ∙ itself_there (Column a s t c q)) (listed.just (Column a s t c used.1.0) refl ∙ used.1.1)
  used_there (Function a s f q) used =
      object_there (Function a s f used.1.0) (Function a s f q) rows (ap (λ n. same_row (Function a s f q) (Function a s f n) || false) (sym used.0) ∙ itself_there (Function a s f q)) (listed.just (Function a s f used.1.0) refl ∙ used.1.1)
  used_there (Procedure a s f q) used =
      object_there (Procedure a s f used.1.0) (Procedure a s f q) rows (ap (λ n. same_row (Procedure a s f q) (Procedure a s f n) || false) (sym used.0) ∙ itself_there (Procedure a s f q)) (listed.just (Procedure a s f used.1.0) refl ∙ used.1.1)
  used_there k used = absurd used

  objects : List Row
  objects = once same_row (flat_map object_of rows)

  objects_once : ListsEachOnce same_row (IsObjectInUse state) objects
  unfolding objects
  objects_once = record {
    once = once_differ same_row equal_from_same_row same_row_itself (flat_map object_of rows);
    just_these = λ k. (
      λ is. used_from k rows (λ row there. there) (sym (once_has same_row equal_from_same_row same_row_itself k (flat_map object_of rows)) ∙ is),
      λ used. once_has same_row equal_from_same_row same_row_itself k (flat_map object_of rows) ∙ used_there k used,
    );
  }

  objects_few : (HasMoreThan same_row (IsObjectInUse state) 65536 → ⊥) → length objects ≤ 65536
  objects_few few =
      elim (cases_lt 65536 (length objects)) [
        | inl over ↦ absurd (few (record { items = objects; all = objects_once; more = over }))
        | inr within ↦ within
      ]

  -- ---- columns

  module _ (a : AuthId) (s t : List ℕ) (p : ℕ) where
    column_row : List ℕ → Row
    column_row c = Column a s t c 0

    column_same : (c d : List ℕ) → same_row (column_row c) (column_row d) ≡ text_eq c d
    unfolding column_row
    column_same c d = rw (same_auth_itself a, text_eq_itself s, text_eq_itself t) (and_true (text_eq c d))
      where
        and_true : (x : Bool) → (x && true) ≡ x
        and_true true = refl
        and_true false = refl

    listed_as_row : (c : List ℕ) (cs : List (List ℕ)) → list_any (same_row (column_row c)) (map column_row cs) ≡ list_any (text_eq c) cs
    listed_as_row c [] = refl
    listed_as_row c (d ∷ cs) = ap (λ x. x || list_any (same_row (column_row c)) (map column_row cs)) (column_same c d) ∙ ap (λ x. text_eq c d || x) (listed_as_row c cs)

    rows_differ : (cs : List (List ℕ)) → all_differ_by text_eq cs ≡ true → all_differ_by same_row (map column_row cs) ≡ true
    rows_differ [] differ = refl
    rows_differ (c ∷ cs) differ =
        let parts = and_parts (not (list_any (text_eq c) cs)) (all_differ_by text_eq cs) differ in
        and_from (not (list_any (same_row (column_row c)) (map column_row cs))) (all_differ_by same_row (map column_row cs)) (ap not (listed_as_row c cs) ∙ parts.0) (rows_differ cs parts.1)

    -- each column that is held is an object
    among_objects : (cs : List (List ℕ)) (k : Row) → list_any (same_row k) (map column_row (filter (λ c. state.rows (Column a s t c p)) cs)) ≡ true → list_any (same_row k) objects ≡ true
    unfolding objects column_row object_of
    among_objects [] k is = never is
    among_objects (c ∷ cs) k is = by (state.rows (Column a s t c p)) refl is (among_objects cs k)
      where
        here : state.rows (Column a s t c p) ≡ true → same_row k (column_row c) ≡ true → list_any (same_row k) objects ≡ true
        here held same =
            ap (λ (r : Row). list_any (same_row r) objects) (equal_from_same_row k (column_row c) same)
            ∙ once_has same_row equal_from_same_row same_row_itself (column_row c) (flat_map object_of rows)
            ∙ object_there (Column a s t c p) (column_row c) rows (itself_there (column_row c)) (listed.just (Column a s t c p) refl ∙ held)

        by : (x : Bool) → state.rows (Column a s t c p) ≡ x
            → list_any (same_row k) (map column_row (cond x (c ∷ filter (λ d. state.rows (Column a s t d p)) cs) (filter (λ d. state.rows (Column a s t d p)) cs))) ≡ true
            → (list_any (same_row k) (map column_row (filter (λ d. state.rows (Column a s t d p)) cs)) ≡ true → list_any (same_row k) objects ≡ true) → list_any (same_row k) objects ≡ true
        by true held there rest =
            elim (or_cases (same_row k (column_row c)) (list_any (same_row k) (map column_row (filter (λ d. state.rows (Column a s t d p)) cs))) there) [
              | inl same ↦ here held same
              | inr later ↦ rest later
            ]
        by false held there rest = rest there

    differ-filter : (passes : List ℕ → Bool) (xs : List (List ℕ)) → all_differ_by text_eq xs ≡ true → all_differ_by text_eq (filter passes xs) ≡ true
    differ-filter passes [] differ = refl
    differ-filter passes (x ∷ xs) differ =
        let parts = and_parts (not (list_any (text_eq x) xs)) (all_differ_by text_eq xs) differ in
        by (passes x) (absent xs (not-true (list_any (text_eq x) xs) parts.0)) (differ-filter passes xs parts.1)
      where
        absent : (ys : List (List ℕ)) → list_any (text_eq x) ys ≡ false → list_any (text_eq x) (filter passes ys) ≡ false
        absent [] none = refl
        absent (y ∷ ys) none = let parts = or_parts (text_eq x y) (list_any (text_eq x) ys) none in past (passes y) parts.0 (absent ys parts.1)
          where
            past : (u : Bool) → text_eq x y ≡ false → list_any (text_eq x) (filter passes ys) ≡ false → list_any (text_eq x) (cond u (y ∷ filter passes ys) (filter passes ys)) ≡ false
            past true other rest = or_from (text_eq x y) (list_any (text_eq x) (filter passes ys)) other rest
            past false other rest = rest

        by : (u : Bool) → list_any (text_eq x) (filter passes xs) ≡ false → all_differ_by text_eq (filter passes xs) ≡ true → all_differ_by text_eq (cond u (x ∷ filter passes xs) (filter passes xs)) ≡ true
        by true new rest = and_from (not (list_any (text_eq x) (filter passes xs))) (all_differ_by text_eq (filter passes xs)) (not_from_false (list_any (text_eq x) (filter passes xs)) new) rest
        by false new rest = rest

    length-map : (cs : List (List ℕ)) → length (map column_row cs) ≡ length cs
    length-map [] = refl
    length-map (c ∷ cs) = ap suc (length-map cs)

    -- of any list of columns without repeats
    pub few_columns : (HasMoreThan same_row (IsObjectInUse state) 65536 → ⊥) → (cs : List (List ℕ)) → all_differ_by text_eq cs ≡ true
        → length (filter (λ c. state.rows (Column a s t c p)) cs) ≤ 65536
    few_columns few cs differ =
        let held : List (List ℕ) = filter (λ c. state.rows (Column a s t c p)) cs in
        let most : length objects ≤ 65536 = objects_few few in
        let least : length (map column_row held) ≤ length objects =
        not_longer same_row equal_from_same_row same_row_itself (map column_row held) objects (rows_differ held (differ-filter (λ c. state.rows (Column a s t c p)) cs differ)) (among_objects cs) in
        let same : length (map column_row held) ≡ length held = length-map held in
        omega arith
