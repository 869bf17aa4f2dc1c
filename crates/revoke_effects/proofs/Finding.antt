-- Whether REVOKE finds something of an account's, and the first account of which it finds nothing.
use Rattle.std.proofs.Common.{◌≡◌, ◌∙◌, ap, sym, ℕ, ◌<◌, Bool, true, false, not, nat_lt, ◌&&◌, ◌||◌, List, refl, inl, inr, MatchBool}
use Rattle.std.proofs.lemmas.Bool.{and_from, and_parts, lt-ltb, ltb-true, not-true, or_cases, or_left, or_right}
use Rattle.std.specs.List.{list_any}
use Rattle.acl_names.proofs.SameAuth.{equal_from_text_eq, text_eq_itself}
use Rattle.acl_names.specs.Text.{text_eq}
use Rattle.acl_names.specs.declared.auth.AuthId.{AuthId}
use Rattle.acl_model.specs.Acceptance.{HasNothingOn}
use Rattle.acl_model.specs.Refusals.{holds_some, may_revoke}
use Rattle.acl_model.specs.Rows.{holder}
use Rattle.acl_model.specs.State.{State}
use Rattle.acl_model.specs.Words.{names_static}
use Rattle.acl_model.specs.declared.row.Row.{Row}
use Rattle.acl_model.specs.declared.row.Row.TheVariants.{Global, Schema, Table, Column, Function, Procedure}
use Rattle.acl_rows.proofs.Members.{both_ways}
use Rattle.acl_stmt.specs.Requests.{all_below}
use Rattle.acl_stmt.specs.declared.privileges.PrivList.{PrivList}
use Rattle.acl_stmt.specs.declared.target.Target.{Target}
use Rattle.acl_stmt.specs.declared.target.Target.TheVariants as on
use Rattle.priv_sets.specs.declared.level.Level.TheVariants as level
use Rattle.acl_rows.proofs.RowLists.{passing_row}
use Rattle.revoke_effects.proofs.Listing.{AreRowsOf, found_row, row_of}
use Rattle.acl_rows.proofs.Below.{below_at, failing_below}
use Rattle.acl_rows.proofs.NamedPrivileges.{named_below}
use Rattle.revoke_effects.specs.Found.{FindsNothing, found_on_function, found_on_procedure, found_on_schema, found_on_table, is_everything, is_found}

not_not : (b : Bool) → not b ≡ false → b ≡ true
not_not true is = refl
not_not false is = cc

some_held : (test : ℕ → Bool) (p : ℕ) → p < 31 → test p ≡ true → holds_some test ≡ true
some_held test p below passes = at (all_below 31 (λ q. not (test q))) refl
  where
    at : (t : Bool) → all_below 31 (λ q. not (test q)) ≡ t → not t ≡ true
    at true every =
        let fails : not (test p) ≡ true = below_at 31 p (λ q. not (test q)) every below in
        let never : not true ≡ true = rw passes at fails in
        cc
    at false some = refl

held_some : (test : ℕ → Bool) → holds_some test ≡ true → (p : ℕ) × (p < 31) × (test p ≡ true)
held_some test some =
    let found = failing_below 31 (λ q. not (test q)) (not-true (all_below 31 (λ q. not (test q))) some) in
    (found.0, found.1, not_not (test found.0) found.2)

module _ (state : State) (account : AuthId) (held : List Row) (are : AreRowsOf state.rows account held) where
  of_account : (make : AuthId → Row) (a : AuthId) → state.rows (make a) ≡ true → a ≡ account → state.rows (make account) ≡ true
  of_account make a there own = ap (λ (x : AuthId). state.rows (make x)) (sym own) ∙ there

  on_schema : (make : List ℕ → Row) (schema s : List ℕ) → text_eq schema s ≡ true → state.rows (make s) ≡ true → state.rows (make schema) ≡ true
  on_schema make schema s same there = ap (λ (x : List ℕ). state.rows (make x)) (equal_from_text_eq schema s same) ∙ there

  schema_held : PrivList → List ℕ → Bool
  schema_held privileges schema =
      holds_some (λ p. state.rows (Schema account schema p)) || holds_some (λ p. names_static privileges level.Schema p && state.rows (Global account p))

  from_schema_row : (privileges : PrivList) (schema : List ℕ) (row : Row) → found_on_schema privileges schema row ≡ true → state.rows row ≡ true → holder row ≡ account
      → may_revoke state privileges (on.Schema schema) account ≡ true
  from_schema_row privileges schema (Schema a s p) found there own =
      let parts = and_parts (text_eq schema s) (nat_lt p 31) found in
      let here : state.rows (Schema account schema p) ≡ true = on_schema (λ x. Schema account x p) schema s parts.0 (of_account (λ x. Schema x s p) a there own) in
      or_left (holds_some (λ q. state.rows (Schema account schema q))) (holds_some (λ q. names_static privileges level.Schema q && state.rows (Global account q)))
      (some_held (λ q. state.rows (Schema account schema q)) p (ltb-true p 31 parts.1) here)
  from_schema_row privileges schema (Global a p) found there own =
      let here : state.rows (Global account p) ≡ true = of_account (λ x. Global x p) a there own in
      or_right (holds_some (λ q. state.rows (Schema account schema q))) (holds_some (λ q. names_static privileges level.Schema q && state.rows (Global account q)))
      (some_held (λ q. names_static privileges level.Schema q && state.rows (Global account q)) p (named_below privileges level.Schema p found)
      (and_from (names_static privileges level.Schema p) (state.rows (Global account p)) found here))
  from_schema_row privileges schema row found there own = cc

  from_schema_rows : (privileges : PrivList) (schema : List ℕ) → list_any (found_on_schema privileges schema) held ≡ true → may_revoke state privileges (on.Schema schema) account ≡ true
  from_schema_rows privileges schema any =
      let row = found_row state.rows account held are (found_on_schema privileges schema) any in
      from_schema_row privileges schema row.0 row.1 row.2 row.3

  to_schema_rows : (privileges : PrivList) (schema : List ℕ) → may_revoke state privileges (on.Schema schema) account ≡ true → list_any (found_on_schema privileges schema) held ≡ true
  to_schema_rows privileges schema may =
      elim (or_cases (holds_some (λ q. state.rows (Schema account schema q))) (holds_some (λ q. names_static privileges level.Schema q && state.rows (Global account q))) may) [
        | inl some ↦
            let found = held_some (λ q. state.rows (Schema account schema q)) some in
            passing_row (found_on_schema privileges schema) held (Schema account schema found.0) (row_of state.rows account held are (Schema account schema found.0) found.2 refl)
            (and_from (text_eq schema schema) (nat_lt found.0 31) (text_eq_itself schema) (lt-ltb found.0 31 found.1))
        | inr some ↦
            let found = held_some (λ q. names_static privileges level.Schema q && state.rows (Global account q)) some in
            let parts = and_parts (names_static privileges level.Schema found.0) (state.rows (Global account found.0)) found.2 in
            passing_row (found_on_schema privileges schema) held (Global account found.0) (row_of state.rows account held are (Global account found.0) parts.1 refl) parts.0
      ]

  -- routines
  from_function_row : (schema name : List ℕ) (row : Row) → found_on_function schema name row ≡ true → state.rows row ≡ true → holder row ≡ account
      → holds_some (λ p. state.rows (Function account schema name p)) ≡ true
  from_function_row schema name (Function a s f p) found there own =
      let parts = and_parts (text_eq schema s && text_eq name f) (nat_lt p 31) found in
      let names = and_parts (text_eq schema s) (text_eq name f) parts.0 in
      let here : state.rows (Function account schema name p) ≡ true =
      on_schema (λ x. Function account x name p) schema s names.0 (on_schema (λ x. Function account s x p) name f names.1 (of_account (λ x. Function x s f p) a there own)) in
      some_held (λ q. state.rows (Function account schema name q)) p (ltb-true p 31 parts.1) here
  from_function_row schema name row found there own = cc

  from_procedure_row : (schema name : List ℕ) (row : Row) → found_on_procedure schema name row ≡ true → state.rows row ≡ true → holder row ≡ account
      → holds_some (λ p. state.rows (Procedure account schema name p)) ≡ true
  from_procedure_row schema name (Procedure a s f p) found there own =
      let parts = and_parts (text_eq schema s && text_eq name f) (nat_lt p 31) found in
      let names = and_parts (text_eq schema s) (text_eq name f) parts.0 in
      let here : state.rows (Procedure account schema name p) ≡ true =
      on_schema (λ x. Procedure account x name p) schema s names.0 (on_schema (λ x. Procedure account s x p) name f names.1 (of_account (λ x. Procedure x s f p) a there own)) in
      some_held (λ q. state.rows (Procedure account schema name q)) p (ltb-true p 31 parts.1) here
  from_procedure_row schema name row found there own = cc

  to_function_rows : (schema name : List ℕ) → holds_some (λ p. state.rows (Function account schema name p)) ≡ true → list_any (found_on_function schema name) held ≡ true
  to_function_rows schema name some =
      let found = held_some (λ q. state.rows (Function account schema name q)) some in
      passing_row (found_on_function schema name) held (Function account schema name found.0) (row_of state.rows account held are (Function account schema name found.0) found.2 refl)
      (and_from (text_eq schema schema && text_eq name name) (nat_lt found.0 31) (and_from (text_eq schema schema) (text_eq name name) (text_eq_itself schema) (text_eq_itself name))
      (lt-ltb found.0 31 found.1))

  to_procedure_rows : (schema name : List ℕ) → holds_some (λ p. state.rows (Procedure account schema name p)) ≡ true → list_any (found_on_procedure schema name) held ≡ true
  to_procedure_rows schema name some =
      let found = held_some (λ q. state.rows (Procedure account schema name q)) some in
      passing_row (found_on_procedure schema name) held (Procedure account schema name found.0) (row_of state.rows account held are (Procedure account schema name found.0) found.2 refl)
      (and_from (text_eq schema schema && text_eq name name) (nat_lt found.0 31) (and_from (text_eq schema schema) (text_eq name name) (text_eq_itself schema) (text_eq_itself name))
      (lt-ltb found.0 31 found.1))

  -- tables
  nothing_there : (schema table : List ℕ) (row : Row) → HasNothingOn state schema table account → found_on_table schema table row ≡ true → state.rows row ≡ true → holder row ≡ account → ⊥
  nothing_there schema table (Table a s t p) none found there own =
      let names = and_parts (text_eq schema s) (text_eq table t) found in
      let here : state.rows (Table account schema table p) ≡ true =
      on_schema (λ x. Table account x table p) schema s names.0 (on_schema (λ x. Table account s x p) table t names.1 (of_account (λ x. Table x s t p) a there own)) in
      let gone : state.rows (Table account schema table p) ≡ false = none.no_table_row p in
      cc
  nothing_there schema table (Column a s t c p) none found there own =
      let names = and_parts (text_eq schema s) (text_eq table t) found in
      let here : state.rows (Column account schema table c p) ≡ true =
      on_schema (λ x. Column account x table c p) schema s names.0 (on_schema (λ x. Column account s x c p) table t names.1 (of_account (λ x. Column x s t c p) a there own)) in
      let gone : state.rows (Column account schema table c p) ≡ false = none.no_column_row c p in
      cc
  nothing_there schema table row none found there own = cc

  -- a row that is not found does not stand
  not_found : (test : Row → Bool) (row : Row) → list_any test held ≡ false → test row ≡ true → holder row ≡ account → state.rows row ≡ false
  not_found test row none passes own = at (state.rows row) refl
    where
      at : (t : Bool) → state.rows row ≡ t → t ≡ false
      at false gone = refl
      at true there =
          let any : list_any test held ≡ true = passing_row test held row (row_of state.rows account held are row there own) passes in
          cc

  nothing_on_table : (schema table : List ℕ) → list_any (found_on_table schema table) held ≡ false → HasNothingOn state schema table account
  nothing_on_table schema table none =
      let both : (text_eq schema schema && text_eq table table) ≡ true = and_from (text_eq schema schema) (text_eq table table) (text_eq_itself schema) (text_eq_itself table) in
      record {
        no_table_row = λ p. not_found (found_on_table schema table) (Table account schema table p) none both refl;
        no_column_row = λ column p. not_found (found_on_table schema table) (Column account schema table column p) none both refl;
      }

  on_table : (schema table : List ℕ) (t : Bool) → list_any (found_on_table schema table) held ≡ t
      → MatchBool (not t) (HasNothingOn state schema table account) (HasNothingOn state schema table account → ⊥)
  on_table schema table true any = λ none.
      let row = found_row state.rows account held are (found_on_table schema table) any in
      nothing_there schema table row.0 none row.1 row.2 row.3
  on_table schema table false none = nothing_on_table schema table none

  by_test : (may : Bool) (t : Bool) → may ≡ t → MatchBool (not t) (may ≡ false) (may ≡ false → ⊥)
  by_test may true is = λ none. cc
  by_test may false is = is

  -- what is found among the rows of the account
  pub finds : (privileges : PrivList) (target : Target) → is_everything target ≡ false
      → MatchBool (not (list_any (is_found privileges target) held)) (FindsNothing state privileges target account) (FindsNothing state privileges target account → ⊥)
  finds privileges on.Global other = cc
  finds privileges (on.Schema schema) other =
      by_test (may_revoke state privileges (on.Schema schema) account) (list_any (found_on_schema privileges schema) held)
      (both_ways (may_revoke state privileges (on.Schema schema) account) (list_any (found_on_schema privileges schema) held) (to_schema_rows privileges schema) (from_schema_rows privileges schema))
  finds privileges (on.Table schema table) other = on_table schema table (list_any (found_on_table schema table) held) refl
  finds privileges (on.Function schema name) other =
      by_test (holds_some (λ p. state.rows (Function account schema name p))) (list_any (found_on_function schema name) held)
      (both_ways (holds_some (λ p. state.rows (Function account schema name p))) (list_any (found_on_function schema name) held) (to_function_rows schema name)
      (λ any. let row = found_row state.rows account held are (found_on_function schema name) any in from_function_row schema name row.0 row.1 row.2 row.3))
  finds privileges (on.Procedure schema name) other =
      by_test (holds_some (λ p. state.rows (Procedure account schema name p))) (list_any (found_on_procedure schema name) held)
      (both_ways (holds_some (λ p. state.rows (Procedure account schema name p))) (list_any (found_on_procedure schema name) held) (to_procedure_rows schema name)
      (λ any. let row = found_row state.rows account held are (found_on_procedure schema name) any in from_procedure_row schema name row.0 row.1 row.2 row.3))

pub finds_globally : (state : State) (privileges : PrivList) (target : Target) (account : AuthId) → is_everything target ≡ true → FindsNothing state privileges target account → ⊥
finds_globally state privileges on.Global account all none = cc
finds_globally state privileges (on.Table schema table) account all none =
    let never : ⊥ = cc in
    never
finds_globally state privileges target account all none = cc
