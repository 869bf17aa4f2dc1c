-- Limits that are gathered schema by schema.
use Rattle.std.proofs.Common.{◌≡◌, ◌∙◌, ap, sym, subst, refl, ℕ, zero, suc, ◌+◌, ◌<◌, ◌≤◌, ◌==◌, Bool, true, false, ◌&&◌, ◌||◌, not, List, [], ◌∷◌, ◌++◌, map, length, take, drop, get_or, arith, add-one, append_assoc, append-nil, drop-cons, drop_of_length-le}
use Rattle.std.proofs.Math.Bool.{or-false}
use Rattle.std.proofs.lemmas.Bool.{and_from, and_parts, eqb-true, not_from_false, or_left, or_right}
use Rattle.std.proofs.lemmas.List.{map-append}
use Rattle.std.proofs.lemmas.List.Folds.{list_any-append, list_any_more}
use Rattle.std.specs.List.{AllByRecursion, list_any}
use Rattle.std.specs.List.Sorted.{IsStrictlySortedBy}
use Rattle.std.specs.Ordering.{is_lt}
use Rattle.std.specs.declared.cmp.Ordering.{Ordering}
use Rattle.std.specs.declared.cmp.Ordering.TheVariants.{Less}
use Rattle.acl_names.proofs.SameAuth.{equal_from_text_eq}
use Rattle.acl_names.specs.AuthId.{same_auth}
use Rattle.acl_names.specs.Text.{text_cmp, text_eq}
use Rattle.acl_names.specs.declared.auth.AuthId.{AuthId}
use Rattle.acl_model.specs.Rows.{same_row}
use Rattle.acl_model.specs.Words.{limited}
use Rattle.acl_model.specs.declared.row.Row.{Row}
use Rattle.acl_model.specs.declared.row.Row.TheVariants.{Restriction}
use Rattle.acl_stmt.specs.Entries.{are_limits_in_order}
use Rattle.acl_stmt.specs.Limits.{is_limit}
use Rattle.acl_stmt.specs.Requests.{all_below}
use Rattle.acl_stmt.specs.declared.limit.Limit.{Limit}
use Rattle.priv_map.specs.Restricted.{AddsLimit, is_restriction_on, lists_restriction, restricts}
use Rattle.priv_map.specs.Restricted.AddsLimit.{Adds, PassesOver}
use Rattle.priv_sets.proofs.Bits.{zero_bits}
use Rattle.priv_sets.specs.Levels.{has_level}
use Rattle.priv_sets.specs.StaticSet.{bits_of, holds, is_known}
use Rattle.priv_sets.specs.declared.level.Level.TheVariants as level
use Rattle.priv_sets.specs.declared.static_set.Static.{Static}

abbrev pub schemas_of : List Limit → List (List ℕ)
schemas_of limits = map (λ limit. limit.schema) limits

-- the limits are those of the first schemas, and stand in order before the others
pub record IsGathered (limits : List Limit) (rows : List Row) (account : AuthId) (plain : Static) (schemas : List (List ℕ)) (i : ℕ) : Type 0 where
  pub limited_to : (schema : List ℕ) (p : ℕ) → p < 31 → limited limits schema p ≡ (list_any (text_eq schema) (take i schemas) && restricts rows account plain schema p)
  pub ascending : IsStrictlySortedBy text_cmp (schemas_of limits ++ drop i schemas)

pub gathered_none : (rows : List Row) (account : AuthId) (plain : Static) (schemas : List (List ℕ)) → IsStrictlySortedBy text_cmp schemas → IsGathered [] rows account plain schemas 0
gathered_none rows account plain schemas sorted = record { limited_to = λ s p h. refl; ascending = sorted }

limited_more : (old new : List Limit) (t : List ℕ) (privileges : Static) → AddsLimit old new t privileges → (s : List ℕ) (p : ℕ) → limited new s p ≡ (limited old s p || (text_eq s t && holds privileges p))
limited_more old new t privileges (PassesOver same none) s p =
    ap (λ limits. limited limits s p) same ∙ sym (or-false (limited old s p))
    ∙ ap (λ b. limited old s p || b) (sym (ap (λ b. text_eq s t && b) (none p) ∙ and_false (text_eq s t)))
  where
    and_false : (a : Bool) → (a && false) ≡ false
    and_false true = refl
    and_false false = refl
limited_more old new t privileges (Adds limit schema same added) s p =
    ap (λ limits. limited limits s p) added
    ∙ list_any-append (λ limit. text_eq s limit.schema && holds limit.privileges p) old (limit ∷ [])
    ∙ ap (λ b. limited old s p || b) (or-false (text_eq s limit.schema && holds limit.privileges p) ∙ ap (λ u. text_eq s u && holds limit.privileges p) schema ∙ ap (λ set. text_eq s t && holds set p) same)

gather : (a e r r' : Bool) → (e ≡ true → r' ≡ r) → ((a && r) || (e && r')) ≡ ((a || e) && r)
gather true true true r' h = refl
gather true true false r' h = h refl
gather true false true r' h = refl
gather true false false r' h = refl
gather false true r r' h = h refl
gather false false r r' h = refl

without_all : {X : Type 0} (P : X → Type 0) (xs ys : List X) (t : X) → AllByRecursion P (xs ++ t ∷ ys) → AllByRecursion P (xs ++ ys)
without_all P [] ys t all = all.1
without_all P (x ∷ xs) ys t all = (all.0, without_all P xs ys t all.1)

without : {X : Type 0} (c : X → X → Ordering) (xs ys : List X) (t : X) → IsStrictlySortedBy c (xs ++ t ∷ ys) → IsStrictlySortedBy c (xs ++ ys)
unfolding IsStrictlySortedBy
without c [] ys t sorted = sorted.1
without c (x ∷ xs) ys t sorted = (without_all (λ y. c x y ≡ Less) xs ys t sorted.0, without c xs ys t sorted.1)

module _ (rows : List Row) (account : AuthId) (plain : Static) (schemas : List (List ℕ)) (i : ℕ) (t : List ℕ) (within : i < length schemas) (here : t ≡ get_or schemas i t) where
  rest_is : drop i schemas ≡ t ∷ drop (i + 1) schemas
  rest_is = drop-cons schemas i t within ∙ ap (λ u. u ∷ drop (suc i) schemas) (sym here) ∙ ap (λ k. t ∷ drop k schemas) (sym (add-one i))

  still_ascending : (old new : List Limit) (privileges : Static) → AddsLimit old new t privileges → IsStrictlySortedBy text_cmp (schemas_of old ++ drop i schemas) → IsStrictlySortedBy text_cmp (schemas_of new ++ drop (i + 1) schemas)
  still_ascending old new privileges (PassesOver same none) sorted =
      let before : IsStrictlySortedBy text_cmp (schemas_of old ++ t ∷ drop (i + 1) schemas) = subst (λ rest. IsStrictlySortedBy text_cmp (schemas_of old ++ rest)) rest_is sorted in
      subst (λ limits. IsStrictlySortedBy text_cmp (schemas_of limits ++ drop (i + 1) schemas)) (sym same) (without text_cmp (schemas_of old) (drop (i + 1) schemas) t before)
  still_ascending old new privileges (Adds limit schema same added) sorted =
      let before : IsStrictlySortedBy text_cmp (schemas_of old ++ t ∷ drop (i + 1) schemas) = subst (λ rest. IsStrictlySortedBy text_cmp (schemas_of old ++ rest)) rest_is sorted in
      let joined : schemas_of old ++ t ∷ drop (i + 1) schemas ≡ schemas_of new ++ drop (i + 1) schemas =
      sym (append_assoc (schemas_of old) (t ∷ []) (drop (i + 1) schemas))
      ∙ ap (λ u. (schemas_of old ++ u ∷ []) ++ drop (i + 1) schemas) (sym schema)
      ∙ ap (λ front. front ++ drop (i + 1) schemas) (sym (map-append (λ (l : Limit). l.schema) old (limit ∷ [])))
      ∙ ap (λ limits. schemas_of limits ++ drop (i + 1) schemas) (sym added) in
      subst (IsStrictlySortedBy text_cmp) joined before

  pub gathered_more : (old new : List Limit) (privileges : Static) → AddsLimit old new t privileges → ((q : ℕ) → q < 31 → holds privileges q ≡ restricts rows account plain t q)
      → IsGathered old rows account plain schemas i → IsGathered new rows account plain schemas (i + 1)
  gathered_more old new privileges adds members gathered = record {
    limited_to = λ s p h.
        limited_more old new t privileges adds s p
        ∙ ap (λ b. b || (text_eq s t && holds privileges p)) (gathered.limited_to s p h)
        ∙ gather (list_any (text_eq s) (take i schemas)) (text_eq s t) (restricts rows account plain s p) (holds privileges p)
        (λ same. members p h ∙ ap (λ u. restricts rows account plain u p) (sym (equal_from_text_eq s t same)))
        ∙ ap (λ b. b && restricts rows account plain s p) (ap (λ u. list_any (text_eq s) (take i schemas) || text_eq s u) here ∙ sym (list_any_more (text_eq s) schemas i t within));
    ascending = still_ascending old new privileges adds gathered.ascending;
  }

-- limits whose schemas ascend are in order
in_order : (limits : List Limit) → IsStrictlySortedBy text_cmp (schemas_of limits) → are_limits_in_order limits ≡ true
unfolding IsStrictlySortedBy
in_order [] sorted = refl
in_order (first ∷ []) sorted = refl
in_order (first ∷ second ∷ rest) sorted = and_from (is_lt (text_cmp first.schema second.schema)) (are_limits_in_order (second ∷ rest)) (ap is_lt sorted.0.0) (in_order (second ∷ rest) sorted.1)

pub gathered_in_order : (limits : List Limit) (rows : List Row) (account : AuthId) (plain : Static) (schemas : List (List ℕ)) (i : ℕ) → length schemas ≤ i → IsGathered limits rows account plain schemas i → are_limits_in_order limits ≡ true
gathered_in_order limits rows account plain schemas i all gathered =
    in_order limits (subst (IsStrictlySortedBy text_cmp) (ap (λ rest. schemas_of limits ++ rest) (drop_of_length-le schemas all) ∙ append-nil (schemas_of limits)) gathered.ascending)

-- a schema with a restriction of the account's is among those that rows name
row_is_on : (account : AuthId) (schema : List ℕ) (p : ℕ) (row : Row) → same_row (Restriction account p schema) row ≡ true → is_restriction_on account schema row ≡ true
row_is_on account schema p (Restriction other q name) is =
    let parts = and_parts (same_auth account other && p == q) (text_eq schema name) is in
    and_from (same_auth account other) (text_eq schema name) (and_parts (same_auth account other) (p == q) parts.0).0 parts.1
row_is_on account schema p _ is = cc

listed_is_on : (rows : List Row) (account : AuthId) (schema : List ℕ) (p : ℕ) → lists_restriction rows account schema p ≡ true → list_any (is_restriction_on account schema) rows ≡ true
listed_is_on [] account schema p listed = cc
listed_is_on (row ∷ rows) account schema p listed = at (same_row (Restriction account p schema) row) refl (listed_is_on rows account schema p)
  where
    at : (t : Bool) → same_row (Restriction account p schema) row ≡ t → (lists_restriction rows account schema p ≡ true → list_any (is_restriction_on account schema) rows ≡ true)
        → (is_restriction_on account schema row || list_any (is_restriction_on account schema) rows) ≡ true
    at true is later = or_left (is_restriction_on account schema row) (list_any (is_restriction_on account schema) rows) (row_is_on account schema p row is)
    at false is later =
        let rest : lists_restriction rows account schema p ≡ true = rw is at listed in
        or_right (is_restriction_on account schema row) (list_any (is_restriction_on account schema) rows) (later rest)

-- what is implied may stand beside
implied : (a r l : Bool) (h : Bool) → (l ≡ true → a ≡ true) → (a && (h && l)) ≡ (h && l)
implied true r l h there = refl
implied false r true true there = there refl
implied false r true false there = refl
implied false r false true there = refl
implied false r false false there = refl

take_everything : {X : Type 0} (xs : List X) (i : ℕ) → length xs ≤ i → take i xs ≡ xs
take_everything [] zero all = refl
take_everything [] (suc i) all = refl
take_everything (x ∷ xs) zero all = absurd (omega arith)
take_everything (x ∷ xs) (suc i) all = ap (λ rest. x ∷ rest) (take_everything xs i (omega arith))

pub gathered_all : (limits : List Limit) (rows : List Row) (account : AuthId) (plain : Static) (schemas : List (List ℕ)) (i : ℕ) → length schemas ≤ i
    → ((schema : List ℕ) → list_any (text_eq schema) schemas ≡ list_any (is_restriction_on account schema) rows)
    → IsGathered limits rows account plain schemas i → (schema : List ℕ) (p : ℕ) → p < 31 → limited limits schema p ≡ restricts rows account plain schema p
gathered_all limits rows account plain schemas i all named gathered schema p below =
    gathered.limited_to schema p below
    ∙ ap (λ some. list_any (text_eq schema) some && restricts rows account plain schema p) (take_everything schemas i all)
    ∙ implied (list_any (text_eq schema) schemas) true (lists_restriction rows account schema p) (holds plain p && has_level level.Schema p)
    (λ listed. named schema ∙ listed_is_on rows account schema p listed)

-- some privileges with the schema level are a limit
pub all_are : (limit : ℕ) (test : ℕ → Bool) → ((q : ℕ) → test q ≡ true) → all_below limit test ≡ true
all_are zero test each = refl
all_are (suc limit) test each = and_from (all_below limit test) (test limit) (all_are limit test each) (each limit)

level_or_not : (a b : Bool) → (a ≡ true → b ≡ true) → (not a || b) ≡ true
level_or_not true b h = h refl
level_or_not false b h = refl

pub no_bits : (set : Static) → bits_of set ≡ 0 → (q : ℕ) → holds set q ≡ false
unfolding holds
no_bits set none q = rw none (zero_bits q)

pub limit_from : (set : Static) → is_known set ≡ true → (((q : ℕ) → holds set q ≡ false) → ⊥) → ((q : ℕ) → holds set q ≡ true → has_level level.Schema q ≡ true) → is_limit set ≡ true
unfolding is_limit
limit_from set known some levels =
    and_from (is_known set && not (bits_of set == 0)) (all_below 31 (λ number. not (holds set number) || has_level level.Schema number))
    (and_from (is_known set) (not (bits_of set == 0)) known (not_from_false (bits_of set == 0) (at (bits_of set == 0) refl)))
    (all_are 31 (λ number. not (holds set number) || has_level level.Schema number) (λ q. level_or_not (holds set q) (has_level level.Schema q) (levels q)))
  where
    at : (t : Bool) → (bits_of set == 0) ≡ t → (bits_of set == 0) ≡ false
    at true is = absurd (some (no_bits set (eqb-true (bits_of set) 0 is)))
    at false is = is
