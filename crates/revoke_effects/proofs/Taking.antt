-- What REVOKE takes, by the holder of the row and by the row.
use Rattle.std.proofs.Common.{◌≡◌, ◌∙◌, ap, sym, ℕ, ◌<◌, ◌+◌, Bool, true, false, ◌&&◌, ◌||◌, List, [], ◌++◌, filter, get_or, length, take, refl}
use Rattle.std.proofs.Math.Bool.{and-false, and-true, or-false}
use Rattle.std.proofs.lemmas.List.Folds.{list_any-append}
use Rattle.std.specs.List.{list_any}
use Rattle.acl_names.specs.AuthId.{same_auth}
use Rattle.acl_names.specs.Text.{text_eq}
use Rattle.acl_names.specs.declared.auth.AuthId.{AuthId}
use Rattle.acl_model.specs.Effects.{takes}
use Rattle.acl_model.specs.Rows.{holder, is_privilege_row, lists, same_row}
use Rattle.acl_model.specs.Words.{names_column, names_dynamic, names_static}
use Rattle.acl_model.specs.declared.row.Row.{Row}
use Rattle.acl_model.specs.declared.row.Row.TheVariants.{Account, Global, Dynamic, DynamicGrant, Schema, Table, Column, Function, Procedure, Edge, Admin, Default, Restriction}
use Rattle.acl_stmt.specs.declared.privileges.PrivList.{PrivList}
use Rattle.acl_stmt.specs.declared.statement.Statement.TheVariants.{Revoke, RevokeAll}
use Rattle.acl_stmt.specs.declared.target.Target.{Target}
use Rattle.acl_stmt.specs.declared.target.Target.TheVariants as on
use Rattle.priv_sets.specs.Levels.{grant_option}
use Rattle.priv_sets.specs.declared.level.Level.TheVariants as level
use Rattle.acl_rows.proofs.RowLists.{any-filter}
use Rattle.revoke_effects.proofs.Listing.{AreRowsOf, lists_more}
use Rattle.revoke_effects.specs.Taken.{taken_at}

moved : (t l n : Bool) → (((t && l) && n) || false) ≡ (l && (t && n))
moved true true true = refl
moved true true false = refl
moved true false n = refl
moved false true n = refl
moved false false n = refl

with_option : (l d o : Bool) → (((l && d) || (l && o)) || false) ≡ (l && (d || o))
with_option true true o = refl
with_option true false true = refl
with_option true false false = refl
with_option false d o = refl

module _ (privileges : PrivList) (accounts : List AuthId) where
  globally : (row : Row) → takes [] (Revoke privileges on.Global accounts) row ≡ (lists accounts (holder row) && taken_at privileges on.Global row)
  globally (Global a p) = or-false (lists accounts a && names_static privileges level.Global p)
  globally (Restriction a p s) = or-false (lists accounts a && names_static privileges level.Global p)
  globally (Dynamic a d) = or-false (lists accounts a && names_dynamic privileges d)
  globally (DynamicGrant a d) = with_option (lists accounts a) (names_dynamic privileges d) (names_static privileges level.Global grant_option)
  globally row = sym (and-false (lists accounts (holder row)))

  on_schema : (schema : List ℕ) (row : Row) → takes [] (Revoke privileges (on.Schema schema) accounts) row ≡ (lists accounts (holder row) && taken_at privileges (on.Schema schema) row)
  on_schema schema (Schema a s p) = moved (text_eq schema s) (lists accounts a) (names_static privileges level.Schema p)
  on_schema schema row = sym (and-false (lists accounts (holder row)))

  on_table : (schema table : List ℕ) (row : Row) → takes [] (Revoke privileges (on.Table schema table) accounts) row ≡ (lists accounts (holder row) && taken_at privileges (on.Table schema table) row)
  on_table schema table (Table a s t p) = moved (text_eq schema s && text_eq table t) (lists accounts a) (names_static privileges level.Table p)
  on_table schema table (Column a s t c p) = moved (text_eq schema s && text_eq table t) (lists accounts a) (names_column privileges p c)
  on_table schema table row = sym (and-false (lists accounts (holder row)))

  on_function : (schema name : List ℕ) (row : Row) → takes [] (Revoke privileges (on.Function schema name) accounts) row ≡ (lists accounts (holder row) && taken_at privileges (on.Function schema name) row)
  on_function schema name (Function a s f p) = moved (text_eq schema s && text_eq name f) (lists accounts a) (names_static privileges level.Routine p)
  on_function schema name row = sym (and-false (lists accounts (holder row)))

  on_procedure : (schema name : List ℕ) (row : Row) → takes [] (Revoke privileges (on.Procedure schema name) accounts) row ≡ (lists accounts (holder row) && taken_at privileges (on.Procedure schema name) row)
  on_procedure schema name (Procedure a s f p) = moved (text_eq schema s && text_eq name f) (lists accounts a) (names_static privileges level.Routine p)
  on_procedure schema name row = sym (and-false (lists accounts (holder row)))

  -- a row goes where its holder is listed and the target and the list say so
  pub takes_at : (target : Target) (row : Row) → takes [] (Revoke privileges target accounts) row ≡ (lists accounts (holder row) && taken_at privileges target row)
  takes_at on.Global row = globally row
  takes_at (on.Schema schema) row = on_schema schema row
  takes_at (on.Table schema table) row = on_table schema table row
  takes_at (on.Function schema name) row = on_function schema name row
  takes_at (on.Procedure schema name) row = on_procedure schema name row

pub takes_all : (accounts : List AuthId) (row : Row) → takes [] (RevokeAll accounts) row ≡ (lists accounts (holder row) && is_privilege_row row)
takes_all accounts (Account a) = sym (and-false (lists accounts a))
takes_all accounts (Edge role to) = sym (and-false (lists accounts to))
takes_all accounts (Admin role to) = sym (and-false (lists accounts to))
takes_all accounts (Default of role) = sym (and-false (lists accounts of))
takes_all accounts row = sym (and-true (lists accounts (holder row)))

joined : (s l a t : Bool) → ((s && (l && t)) || ((s && a) && t)) ≡ (s && ((l || a) && t))
joined true true a true = refl
joined true true true false = refl
joined true true false false = refl
joined true false a t = refl
joined false l a t = refl

-- the rows of one account more
more_taken : (stands test : Row → Bool) (accounts : List AuthId) (i : ℕ) (account : AuthId) (taken held new : List Row) → i < length accounts → account ≡ get_or accounts i account
    → new ≡ taken ++ filter test held → AreRowsOf stands account held → (row : Row)
    → list_any (same_row row) taken ≡ (stands row && (lists (take i accounts) (holder row) && test row))
    → list_any (same_row row) new ≡ (stands row && (lists (take (i + 1) accounts) (holder row) && test row))
more_taken stands test accounts i account taken held new within is same are row so_far =
    ap (list_any (same_row row)) same
    ∙ list_any-append (same_row row) taken (filter test held)
    ∙ ap (λ t. list_any (same_row row) taken || t) (any-filter test row held ∙ ap (λ t. t && test row) (are row))
    ∙ ap (λ t. t || ((stands row && same_auth (holder row) account) && test row)) so_far
    ∙ joined (stands row) (lists (take i accounts) (holder row)) (same_auth (holder row) account) (test row)
    ∙ ap (λ t. stands row && (t && test row)) (sym (lists_more accounts i account (holder row) within is))

pub none_taken : (stands : Row → Bool) (privileges : PrivList) (target : Target) (row : Row) → false ≡ (stands row && takes [] (Revoke privileges target []) row)
none_taken stands privileges target row = sym (ap (λ t. stands row && t) (takes_at privileges [] target row) ∙ and-false (stands row))

pub none_of_all_taken : (stands : Row → Bool) (row : Row) → false ≡ (stands row && takes [] (RevokeAll []) row)
none_of_all_taken stands row = sym (ap (λ t. stands row && t) (takes_all [] row) ∙ and-false (stands row))

pub taken_step : (stands : Row → Bool) (privileges : PrivList) (target : Target) (accounts : List AuthId) (i : ℕ) (account : AuthId) (taken held new : List Row) → i < length accounts → account ≡ get_or accounts i account
    → new ≡ taken ++ filter (taken_at privileges target) held → AreRowsOf stands account held
    → ((row : Row) → list_any (same_row row) taken ≡ (stands row && takes [] (Revoke privileges target (take i accounts)) row))
    → (row : Row) → list_any (same_row row) new ≡ (stands row && takes [] (Revoke privileges target (take (i + 1) accounts)) row)
taken_step stands privileges target accounts i account taken held new within is same are so_far row =
    more_taken stands (taken_at privileges target) accounts i account taken held new within is same are row
    (so_far row ∙ ap (λ t. stands row && t) (takes_at privileges (take i accounts) target row))
    ∙ ap (λ t. stands row && t) (sym (takes_at privileges (take (i + 1) accounts) target row))

pub all_taken_step : (stands : Row → Bool) (accounts : List AuthId) (i : ℕ) (account : AuthId) (taken held new : List Row) → i < length accounts → account ≡ get_or accounts i account
    → new ≡ taken ++ filter is_privilege_row held → AreRowsOf stands account held
    → ((row : Row) → list_any (same_row row) taken ≡ (stands row && takes [] (RevokeAll (take i accounts)) row))
    → (row : Row) → list_any (same_row row) new ≡ (stands row && takes [] (RevokeAll (take (i + 1) accounts)) row)
all_taken_step stands accounts i account taken held new within is same are so_far row =
    more_taken stands is_privilege_row accounts i account taken held new within is same are row
    (so_far row ∙ ap (λ t. stands row && t) (takes_all (take i accounts) row))
    ∙ ap (λ t. stands row && t) (sym (takes_all (take (i + 1) accounts) row))
