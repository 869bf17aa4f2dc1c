-- The lines of an account keep the rules of names, where its rows do.
use Rattle.std.proofs.Common.{◌≡◌, ◌∙◌, refl, ℕ, zero, suc, Bool, true, false, cond, not, ◌&&◌, ◌||◌, List, [], ◌∷◌, filter, inl, inr}
use Rattle.std.proofs.lemmas.Bool.{and_from, and_parts, or_cases}
use Rattle.std.proofs.lemmas.List.Folds.{list_all-append}
use Rattle.std.specs.List.{list_all}
use Rattle.acl_names.specs.declared.auth.AuthId.{AuthId}
use Rattle.acl_model.specs.State.{State, stands}
use Rattle.acl_model.specs.declared.row.Row.TheVariants.{Account, Column, Edge, Function, Procedure, Restriction, Schema, Table}
use Rattle.acl_stmt.specs.Columns.{is_column_list}
use Rattle.acl_stmt.specs.Lists.{is_some_list}
use Rattle.acl_stmt.specs.declared.columns.ColumnPriv.{ColumnPriv}
use Rattle.acl_stmt.specs.declared.target.Target.{Target}
use Rattle.acl_stmt.specs.declared.target.Target.TheVariants as on
use Rattle.accepted_lists.specs.Sound.{IsSound}
use Rattle.canonical_texts.specs.Rules.{account_keeps_rules}
use Rattle.grant_words.specs.Classes.{is_identifier}
use Rattle.listed_privileges.specs.Columns.{column_list, column_list_if, column_lists}
use Rattle.privilege_texts.specs.Rules.{columns_keep_rules, parts_keep_rules, target_keeps_rules}
use Rattle.show_grants.specs.Keys.{Pair}
use Rattle.show_grants.specs.Lines.{columns_held, lines_of, roles_of}
use Rattle.show_grants.specs.Listing.{Listing}
use Rattle.show_grants.specs.Rights.{Held, held_by}
use Rattle.shown_laws.proofs.ColumnNames.{all-filter}
use Rattle.shown_laws.proofs.EachLine.{all_pass}
use Rattle.shown_laws.proofs.Own.{alone, is_restriction}
use Rattle.shown_texts.proofs.Lexemes.{is_line}
use Rattle.shown_texts.specs.Names.{NamesKeepRules, line_names_keep_rules}

-- the names of what is held
pub record HeldNames (held : Held) (a : AuthId) : Type 0 where
  pub holder : account_keeps_rules a ≡ true
  pub role : (r : AuthId) → held.role r ≡ true → account_keeps_rules r ≡ true
  pub restricted : (s : List ℕ) (p : ℕ) → held.restricted s p ≡ true → is_identifier s ≡ true
  pub schema : (s : List ℕ) (p : ℕ) → held.on_schema s p ≡ true → is_identifier s ≡ true
  pub table : (s t : List ℕ) (p : ℕ) → held.on_table s t p ≡ true → (is_identifier s && is_identifier t) ≡ true
  pub column_table : (s t c : List ℕ) (p : ℕ) → held.on_column s t c p ≡ true → (is_identifier s && is_identifier t) ≡ true
  pub column : (s t c : List ℕ) (p : ℕ) → held.on_column s t c p ≡ true → is_identifier c ≡ true
  pub function : (s f : List ℕ) (p : ℕ) → held.on_function s f p ≡ true → (is_identifier s && is_identifier f) ≡ true
  pub procedure : (s f : List ℕ) (p : ℕ) → held.on_procedure s f p ≡ true → (is_identifier s && is_identifier f) ≡ true

columns_at : (p : ℕ) (names : List (List ℕ)) (test : Bool) (is : is_column_list p names ≡ test) → list_all is_identifier names ≡ true → list_all columns_keep_rules (column_list_if p names test is) ≡ true
columns_at p names true is keep = and_from (list_all is_identifier names) true keep refl
columns_at p names false is keep = refl

columns_keep : (left p : ℕ) (names : ℕ → List (List ℕ)) → ((n : ℕ) → list_all is_identifier (names n) ≡ true) → list_all columns_keep_rules (column_lists p left names) ≡ true
columns_keep zero p names keep = refl
columns_keep (suc left) p names keep =
    list_all-append columns_keep_rules (column_list p (names p)) (column_lists (suc p) left names)
    ∙ and_from (list_all columns_keep_rules (column_list p (names p))) (list_all columns_keep_rules (column_lists (suc p) left names))
    (columns_at p (names p) (is_column_list p (names p)) refl (keep p)) (columns_keep left (suc p) names keep)

-- some item that passes
some_passes : (test : List ℕ → Bool) (xs : List (List ℕ)) → is_some_list (filter test xs) ≡ true → (x : List ℕ) × (test x ≡ true)
some_passes test [] some = absurd cc
some_passes test (x ∷ xs) some = by (test x) refl some (some_passes test xs)
  where
    by : (t : Bool) → test x ≡ t → is_some_list (cond t (x ∷ filter test xs) (filter test xs)) ≡ true
        → (is_some_list (filter test xs) ≡ true → (y : List ℕ) × (test y ≡ true)) → (y : List ℕ) × (test y ≡ true)
    by true passes some rest = (x, passes)
    by false fails some rest = rest some

module _ (a : AuthId) (held : Held) (listing : Listing) (names : HeldNames held a) where
  one_keeps : list_all account_keeps_rules (a ∷ []) ≡ true
  one_keeps = and_from (account_keeps_rules a) true names.holder refl

  parts : (columns : List ColumnPriv) (target : Target) → list_all columns_keep_rules columns ≡ true → target_keeps_rules target ≡ true → parts_keep_rules columns target (a ∷ []) ≡ true
  parts columns target first second =
      and_from (list_all columns_keep_rules columns && target_keeps_rules target) (list_all account_keeps_rules (a ∷ []))
      (and_from (list_all columns_keep_rules columns) (target_keeps_rules target) first second) one_keeps

  table_names : (k : Pair) (p : ℕ) → (held.on_table k.0 k.1 p || is_some_list (columns_held held listing k p)) ≡ true → (is_identifier k.0 && is_identifier k.1) ≡ true
  table_names k p shows =
      elim (or_cases (held.on_table k.0 k.1 p) (is_some_list (columns_held held listing k p)) shows) [
        | inl holds ↦ names.table k.0 k.1 p holds
        | inr some ↦ let found = some_passes (λ c. held.on_column k.0 k.1 c p) listing.columns some in names.column_table k.0 k.1 found.0 p found.1
      ]

  table_columns : (k : Pair) → list_all columns_keep_rules (column_lists 0 31 (columns_held held listing k)) ≡ true
  table_columns k = columns_keep 31 0 (columns_held held listing k) (λ n. all-filter is_identifier (λ c. held.on_column k.0 k.1 c n) (λ c passes. names.column k.0 k.1 c n passes) listing.columns)

  pub lines_keep : list_all line_names_keep_rules (lines_of a held listing) ≡ true
  lines_keep = all_pass line_names_keep_rules a held listing (record {
    global = parts [] on.Global refl refl;
    dynamic = λ T option. parts [] on.Global refl refl;
    restriction = λ s p holds. parts [] (on.Schema s) refl (names.restricted s p holds);
    schema = λ s p holds. parts [] (on.Schema s) refl (names.schema s p holds);
    table = λ k p shows. parts (column_lists 0 31 (columns_held held listing k)) (on.Table k.0 k.1) (table_columns k) (table_names k p shows);
    function = λ k p holds. parts [] (on.Function k.0 k.1) refl (names.function k.0 k.1 p holds);
    procedure = λ k p holds. parts [] (on.Procedure k.0 k.1) refl (names.procedure k.0 k.1 p holds);
    roles = λ b some.
        and_from (list_all account_keeps_rules (roles_of held listing b)) (list_all account_keeps_rules (a ∷ []))
        (all-filter account_keeps_rules (λ r. held.role r && cond b (held.admin r) (not (held.admin r)))
        (λ r both. names.role r (and_parts (held.role r) (cond b (held.admin r) (not (held.admin r))) both).0) listing.roles) one_keeps;
  })

-- ---- lines of dynamic privileges alone have no columns

not_dynamic : (x : Bool) (columns : List ColumnPriv) → (not (x && false) || not (is_some_list columns)) ≡ true
not_dynamic true columns = refl
not_dynamic false columns = refl

dynamic_line : (x : Bool) → (not x || true) ≡ true
dynamic_line true = refl
dynamic_line false = refl

pub lines_are : (a : AuthId) (held : Held) (listing : Listing) → list_all is_line (lines_of a held listing) ≡ true
lines_are a held listing = all_pass is_line a held listing (record {
  global = dynamic_line _;
  dynamic = λ T option. dynamic_line _;
  restriction = λ s p holds. refl;
  schema = λ s p holds. dynamic_line _;
  table = λ k p shows. not_dynamic _ (column_lists 0 31 (columns_held held listing k));
  function = λ k p holds. dynamic_line _;
  procedure = λ k p holds. dynamic_line _;
  roles = λ b some. refl;
})

-- ---- an account by itself

module _ (st : State) (a : AuthId) (sound : IsSound st) (keep : NamesKeepRules st) where
  pub own_names : stands st a ≡ true → HeldNames (held_by st (a ∷ []) a) a
  own_names there = record {
    holder = keep.each (Account a) there;
    role = λ r is. (and_parts (account_keeps_rules r) (account_keeps_rules a) (keep.each (Edge r a) is)).0;
    restricted = λ s p is. (and_parts (account_keeps_rules a) (is_identifier s) (keep.each (Restriction a p s) (is_restriction st a sound s p is))).1;
    schema = λ s p is. (and_parts (account_keeps_rules a) (is_identifier s) (keep.each (Schema a s p) (alone (st.rows (Schema a s p)) is))).1;
    table = λ s t p is. last_two (account_keeps_rules a) (is_identifier s) (is_identifier t) (keep.each (Table a s t p) (alone (st.rows (Table a s t p)) is));
    column_table = λ s t c p is.
        last_two (account_keeps_rules a) (is_identifier s) (is_identifier t)
        (and_parts (account_keeps_rules a && is_identifier s && is_identifier t) (is_identifier c) (keep.each (Column a s t c p) (alone (st.rows (Column a s t c p)) is))).0;
    column = λ s t c p is.
        (and_parts (account_keeps_rules a && is_identifier s && is_identifier t) (is_identifier c) (keep.each (Column a s t c p) (alone (st.rows (Column a s t c p)) is))).1;
    function = λ s f p is. last_two (account_keeps_rules a) (is_identifier s) (is_identifier f) (keep.each (Function a s f p) (alone (st.rows (Function a s f p)) is));
    procedure = λ s f p is. last_two (account_keeps_rules a) (is_identifier s) (is_identifier f) (keep.each (Procedure a s f p) (alone (st.rows (Procedure a s f p)) is));
  }
    where
      last_two : (x y z : Bool) → ((x && y) && z) ≡ true → (y && z) ≡ true
      last_two true y z all = all
      last_two false y z all = absurd cc
