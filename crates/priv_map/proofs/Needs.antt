-- The first need that is not met, list after list.
use Rattle.std.proofs.Common.{◌≡◌, ◌∙◌, ap, sym, subst, refl, ℕ, ◌^◌, zero, suc, ◌+◌, ◌<◌, Bool, true, false, ◌&&◌, cond, not, List, [], ◌∷◌, ◌++◌, Option, Some, None, length, take, drop, get_or, arith, inl, inr, add-one, append_assoc}
use Rattle.std.proofs.lemmas.Bool.{and_parts, cases_eq, ltb-true, ne_eqb}
use Rattle.std.proofs.lemmas.List.{take-append-drop, take_more}
use Rattle.std.proofs.lemmas.List.Concat.{flat_map-append}
use Rattle.std.proofs.lemmas.List.Folds.{find-append}
use Rattle.std.specs.List.{find}
use Rattle.std.specs.Option.{option_map, option_or}
use Rattle.acl_model.specs.State.{State}
use Rattle.acl_model.specs.Verdict.{Need, columns_from, dynamic_needs, needs_below, static_needs}
use Rattle.acl_model.specs.Words.{names_static}
use Rattle.acl_stmt.specs.Columns.{is_column_list}
use Rattle.acl_stmt.specs.Targets.{level_of}
use Rattle.acl_stmt.specs.declared.columns.ColumnPriv.{ColumnPriv}
use Rattle.acl_stmt.specs.declared.privileges.PrivList.{PrivList}
use Rattle.acl_stmt.specs.declared.refusal.Missing.{Missing}
use Rattle.acl_stmt.specs.declared.target.Target.{Target}
use Rattle.acl_stmt.specs.declared.target.Target.TheVariants as on
use Rattle.priv_map.specs.Copies.{asks_dynamic, column_needs, columns_needs, first_missing, is_met_by_copies, is_there, missing_at, missing_by_copies}
use Rattle.priv_map.specs.declared.acting.Acting.{Acting}
use Rattle.priv_sets.specs.DynamicSet.{holds_dynamic}
use Rattle.priv_sets.specs.declared.privilege.Privilege.TheVariants.{Plain, Dynamic}

map_or : {A B : Type 0} (f : A → B) (x y : Option A) → option_map f (option_or x y) ≡ option_or (option_map f x) (option_map f y)
map_or f None y = refl
map_or f (Some x) y = refl

module _ (acting : Acting) (now : State) (target : Target) where
  abbrev first : List Need → Option Missing
  first needs = first_missing acting now target needs

  pub first_none : first [] ≡ None
  unfolding first_missing
  first_none = refl

  -- the first of two lists, and else of the second
  pub first_append : (xs ys : List Need) → first (xs ++ ys) ≡ option_or (first xs) (first ys)
  unfolding first_missing
  first_append xs ys =
      ap (option_map (missing_by_copies acting target)) (find-append (λ need. not (is_met_by_copies acting now target need)) xs ys)
      ∙ map_or (missing_by_copies acting target) (find (λ need. not (is_met_by_copies acting now target need)) xs) (find (λ need. not (is_met_by_copies acting now target need)) ys)

  pub none_then : (xs ys : List Need) → first xs ≡ None → first (xs ++ ys) ≡ first ys
  none_then xs ys none = first_append xs ys ∙ ap (λ o. option_or o (first ys)) none

  pub some_then : (xs ys : List Need) (m : Missing) → first xs ≡ Some m → first (xs ++ ys) ≡ Some m
  some_then xs ys m some = first_append xs ys ∙ ap (λ o. option_or o (first ys)) some

  alone : (need : Need) (met : Bool) → is_met_by_copies acting now target need ≡ met → first (need ∷ []) ≡ cond (not met) (Some (missing_by_copies acting target need)) None
  unfolding first_missing
  alone need true is = rw is refl
  alone need false is = rw is refl

  -- a need that is there or not
  pub first_of_one : (asks : Bool) (need : Need) → first (cond asks (need ∷ []) []) ≡ cond (asks && not (is_met_by_copies acting now target need)) (Some (missing_by_copies acting target need)) None
  first_of_one true need = alone need (is_met_by_copies acting now target need) refl
  first_of_one false need = first_none

  -- the needs of the numbers below a limit
  pub none_below_more : (needs : ℕ → List Need) (n : ℕ) → first (needs_below needs n) ≡ None → first (needs n) ≡ None → first (needs_below needs (n + 1)) ≡ None
  none_below_more needs n before here = rw (add-one n) (none_then (needs_below needs n) (needs n) before ∙ here)

  pub some_below : (needs : ℕ → List Need) (n : ℕ) (m : Missing) (limit : ℕ) → first (needs_below needs n) ≡ None → first (needs n) ≡ Some m → n < limit → first (needs_below needs limit) ≡ Some m
  some_below needs n m zero before here within = absurd (omega arith)
  some_below needs n m (suc limit) before here within =
      elim (cases_eq n limit) [
        | inl same ↦
            let none : first (needs_below needs limit) ≡ None = ap (λ k. first (needs_below needs k)) (sym same) ∙ before in
            none_then (needs_below needs limit) (needs limit) none ∙ ap (λ k. first (needs k)) (sym same) ∙ here
        | inr other ↦ some_then (needs_below needs limit) (needs limit) m (some_below needs n m limit before here (omega arith))
      ]

  -- the needs of lists of columns
  pub none_in_lists : (p : ℕ) (lists read : List ColumnPriv) → read ≡ lists → (i : ℕ) (list : ColumnPriv) → i < length read → list ≡ get_or read i list
      → first (columns_needs p (take i lists)) ≡ None → first (column_needs p list) ≡ None → first (columns_needs p (take (i + 1) lists)) ≡ None
  none_in_lists p lists read same i list within is before here =
      let within' : i < length lists = subst (λ l. i < length l) same within in
      let is' : list ≡ get_or lists i list = subst (λ l. list ≡ get_or l i list) same is in
      ap (λ some. first (columns_needs p some)) (take_more lists i list within' ∙ ap (λ x. take i lists ++ x ∷ []) (sym is'))
      ∙ ap first (flat_map-append (column_needs p) (take i lists) (list ∷ []))
      ∙ none_then (columns_needs p (take i lists)) (columns_needs p (list ∷ [])) before
      ∙ first_append (column_needs p list) []
      ∙ ap (λ o. option_or o (first [])) here
      ∙ first_none

  pub some_in_lists : (p : ℕ) (lists read : List ColumnPriv) → read ≡ lists → (i : ℕ) (list : ColumnPriv) (m : Missing) → i < length read → list ≡ get_or read i list
      → first (columns_needs p (take i lists)) ≡ None → first (column_needs p list) ≡ Some m → first (columns_needs p lists) ≡ Some m
  some_in_lists p lists read same i list m within is before here =
      let within' : i < length lists = subst (λ l. i < length l) same within in
      let is' : list ≡ get_or lists i list = subst (λ l. list ≡ get_or l i list) same is in
      let front : take (i + 1) lists ≡ take i lists ++ list ∷ [] = take_more lists i list within' ∙ ap (λ x. take i lists ++ x ∷ []) (sym is') in
      ap (λ all. first (columns_needs p all)) (sym (take-append-drop (i + 1) lists) ∙ ap (λ some. some ++ drop (i + 1) lists) front ∙ append_assoc (take i lists) (list ∷ []) (drop (i + 1) lists))
      ∙ ap first (flat_map-append (column_needs p) (take i lists) (list ∷ drop (i + 1) lists))
      ∙ none_then (columns_needs p (take i lists)) (column_needs p list ++ columns_needs p (drop (i + 1) lists)) before
      ∙ some_then (column_needs p list) (columns_needs p (drop (i + 1) lists)) m here

  pub other_list : (p : ℕ) (list : ColumnPriv) → (list.privilege ≡ p → ⊥) → first (column_needs p list) ≡ None
  other_list p list other = ap (λ b. first (cond b (columns_from p 0 list.names) [])) (ne_eqb list.privilege p other) ∙ first_none

  -- the needs of the columns of one list
  columns_append : (p k : ℕ) (xs ys : List (List ℕ)) → columns_from p k (xs ++ ys) ≡ columns_from p k xs ++ columns_from p (k + length xs) ys
  columns_append p k [] ys = ap (λ n. columns_from p n ys) (omega arith)
  columns_append p k (x ∷ xs) ys =
      ap (λ rest. record { privilege = Plain p; column = Some (k, x) } ∷ rest)
      (columns_append p (suc k) xs ys ∙ ap (λ n. columns_from p (suc k) xs ++ columns_from p n ys) (omega arith))

  abbrev need_on : ℕ → ℕ → List ℕ → Need
  need_on p place name = record { privilege = Plain p; column = Some (place, name) }

  length_front : (i : ℕ) (names : List (List ℕ)) (d : List ℕ) → i < length names → length (take i names) ≡ i
  length_front zero names d within = refl
  length_front (suc i) [] d within = absurd (omega arith)
  length_front (suc i) (x ∷ names) d within = ap suc (length_front i names d (omega arith))

  pub none_in_columns : (p : ℕ) (names : List (List ℕ)) (i : ℕ) (name : List ℕ) → i < length names → name ≡ get_or names i name
      → first (columns_from p 0 (take i names)) ≡ None → is_met_by_copies acting now target (need_on p i name) ≡ true → first (columns_from p 0 (take (i + 1) names)) ≡ None
  none_in_columns p names i name within is before met =
      ap (λ some. first (columns_from p 0 some)) (take_more names i name within ∙ ap (λ x. take i names ++ x ∷ []) (sym is))
      ∙ ap first (columns_append p 0 (take i names) (name ∷ []))
      ∙ none_then (columns_from p 0 (take i names)) (columns_from p (0 + length (take i names)) (name ∷ [])) before
      ∙ ap (λ k. first (columns_from p k (name ∷ []))) (ap (λ k. 0 + k) (length_front i names name within) ∙ omega arith)
      ∙ alone (need_on p i name) true met

  pub some_in_columns : (p : ℕ) (names : List (List ℕ)) (i : ℕ) (name : List ℕ) → i < length names → name ≡ get_or names i name
      → first (columns_from p 0 (take i names)) ≡ None → is_met_by_copies acting now target (need_on p i name) ≡ false
      → first (columns_from p 0 names) ≡ Some (missing_by_copies acting target (need_on p i name))
  some_in_columns p names i name within is before unmet =
      let front : take (i + 1) names ≡ take i names ++ name ∷ [] = take_more names i name within ∙ ap (λ x. take i names ++ x ∷ []) (sym is) in
      ap (λ all. first (columns_from p 0 all)) (sym (take-append-drop (i + 1) names) ∙ ap (λ some. some ++ drop (i + 1) names) front ∙ append_assoc (take i names) (name ∷ []) (drop (i + 1) names))
      ∙ ap first (columns_append p 0 (take i names) (name ∷ drop (i + 1) names))
      ∙ none_then (columns_from p 0 (take i names)) (columns_from p (0 + length (take i names)) (name ∷ drop (i + 1) names)) before
      ∙ ap (λ k. first (columns_from p k (name ∷ drop (i + 1) names))) (ap (λ k. 0 + k) (length_front i names name within) ∙ omega arith)
      ∙ some_then (need_on p i name ∷ []) (columns_from p (suc i) (drop (i + 1) names)) (missing_by_copies acting target (need_on p i name)) (alone (need_on p i name) false unmet)

  -- where a column stands in its list counts for nothing but the denial
  place_is_free : (here : Target) (p i j : ℕ) (name : List ℕ) → is_there acting now here (Plain p) (Some (i, name)) ≡ is_there acting now here (Plain p) (Some (j, name))
  place_is_free on.Global p i j name = refl
  place_is_free (on.Schema schema) p i j name = refl
  place_is_free (on.Table schema table) p i j name = refl
  place_is_free (on.Function schema f) p i j name = refl
  place_is_free (on.Procedure schema f) p i j name = refl

  pub met_on_column : (p i : ℕ) (name : List ℕ) (met : Bool) → met ≡ is_there acting now target (Plain p) (Some (0, name)) → is_met_by_copies acting now target (need_on p i name) ≡ met
  unfolding is_met_by_copies
  met_on_column p i name met is = place_is_free target p i 0 name ∙ sym is

  -- a dynamic privilege is one need or none
  dynamic_is_one : (privileges : PrivList) (here : Target) (d : ℕ) → dynamic_needs privileges here d ≡ cond (asks_dynamic privileges here d) (record { privilege = Dynamic d; column = None } ∷ []) []
  dynamic_is_one privileges on.Global d = refl
  dynamic_is_one privileges (on.Schema schema) d = refl
  dynamic_is_one privileges (on.Table schema table) d = refl
  dynamic_is_one privileges (on.Function schema f) d = refl
  dynamic_is_one privileges (on.Procedure schema f) d = refl

  -- a dynamic privilege that is asked for and not there, and another one
  pub dynamic_lacking : (privileges : PrivList) (d : ℕ) (lacks : Bool) → lacks ≡ (asks_dynamic privileges target d && not (holds_dynamic acting.held.dynamic d)) → lacks ≡ true
      → first (dynamic_needs privileges target d) ≡ Some (missing_at acting target (Dynamic d) None)
  unfolding is_met_by_copies
  dynamic_lacking privileges d lacks is there =
      ap first (dynamic_is_one privileges target d) ∙ first_of_one (asks_dynamic privileges target d) (record { privilege = Dynamic d; column = None })
      ∙ ap (λ b. cond b (Some (missing_at acting target (Dynamic d) None)) None) (sym is ∙ there)

  pub dynamic_there : (privileges : PrivList) (d : ℕ) (lacks : Bool) → lacks ≡ (asks_dynamic privileges target d && not (holds_dynamic acting.held.dynamic d)) → lacks ≡ false
      → first (dynamic_needs privileges target d) ≡ None
  unfolding is_met_by_copies
  dynamic_there privileges d lacks is there =
      ap first (dynamic_is_one privileges target d) ∙ first_of_one (asks_dynamic privileges target d) (record { privilege = Dynamic d; column = None })
      ∙ ap (λ b. cond b (Some (missing_at acting target (Dynamic d) None)) None) (sym is ∙ there)

  -- the same of a static privilege, which may be asked for on columns besides
  first_static : (privileges : PrivList) (p : ℕ) (lacks : Bool) → lacks ≡ (names_static privileges (level_of target) p && not (is_there acting now target (Plain p) None))
      → first (static_needs privileges target p) ≡ option_or (cond lacks (Some (missing_at acting target (Plain p) None)) None) (first (columns_needs p privileges.columns))
  unfolding is_met_by_copies
  first_static privileges p lacks is =
      first_append (cond (names_static privileges (level_of target) p) (record { privilege = Plain p; column = None } ∷ []) []) (columns_needs p privileges.columns)
      ∙ ap (λ o. option_or o (first (columns_needs p privileges.columns)))
      (first_of_one (names_static privileges (level_of target) p) (record { privilege = Plain p; column = None })
      ∙ ap (λ b. cond b (Some (missing_at acting target (Plain p) None)) None) (sym is))

  pub static_lacking : (privileges : PrivList) (p : ℕ) (lacks : Bool) → lacks ≡ (names_static privileges (level_of target) p && not (is_there acting now target (Plain p) None)) → lacks ≡ true
      → first (static_needs privileges target p) ≡ Some (missing_at acting target (Plain p) None)
  static_lacking privileges p lacks is there =
      first_static privileges p lacks is ∙ ap (λ b. option_or (cond b (Some (missing_at acting target (Plain p) None)) None) (first (columns_needs p privileges.columns))) there

  pub static_there : (privileges : PrivList) (p : ℕ) (lacks : Bool) → lacks ≡ (names_static privileges (level_of target) p && not (is_there acting now target (Plain p) None)) → lacks ≡ false
      → first (static_needs privileges target p) ≡ first (columns_needs p privileges.columns)
  static_there privileges p lacks is there =
      first_static privileges p lacks is ∙ ap (λ b. option_or (cond b (Some (missing_at acting target (Plain p) None)) None) (first (columns_needs p privileges.columns))) there

-- a list of columns is short enough to count by 32 bits
pub names_fit : (c : ColumnPriv) (read : List (List ℕ)) → read ≡ c.names → length read < 2 ^ 32
unfolding is_column_list
names_fit c read same =
    let fits : length c.names < 2 ^ 32 = ltb-true (length c.names) (2 ^ 32) (and_parts _ _ (and_parts _ _ (and_parts _ _ c.listed).0).0).1 in
    subst (λ l. length l < 2 ^ 32) (sym same) fits
