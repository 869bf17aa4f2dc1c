-- What holds of the tests of what an account holds, and of the lists of what they are on.
use Rattle.std.proofs.Common.{◌≡◌, ℕ, ◌<◌, ◌^◌, true, false, List, length, filter}
use Rattle.std.specs.List.{list_any}
use Rattle.acl_names.specs.AuthId.{same_auth}
use Rattle.acl_names.specs.Text.{is_lower, text_eq}
use Rattle.acl_names.specs.declared.auth.AuthId.{AuthId}
use Rattle.acl_stmt.specs.Lists.{all_differ_by}
use Rattle.acl_stmt.specs.Statements.{is_named}
use Rattle.priv_sets.specs.Levels.{has_level}
use Rattle.priv_sets.specs.declared.level.Level.TheVariants as level
use Rattle.show_grants.specs.Keys.{same_pair}
use Rattle.show_grants.specs.Listing.{Listing}
use Rattle.show_grants.specs.Rights.{Held}

-- the rules of sound rows, said of what is held
pub record IsOrderly (held : Held) (a : AuthId) : Type 0 where
  pub plain_below : (p : ℕ) → held.plain p ≡ true → p < 31
  pub dynamic_below : (d : ℕ) → held.dynamic d ≡ true → d < 20
  pub grantable_held : (d : ℕ) → held.grantable d ≡ true → held.dynamic d ≡ true
  pub restricted_held : (s : List ℕ) (p : ℕ) → held.restricted s p ≡ true → held.plain p ≡ true
  pub restricted_alone : (s : List ℕ) (p : ℕ) → held.restricted s p ≡ true → held.on_schema s p ≡ false
  pub restricted_level : (s : List ℕ) (p : ℕ) → held.restricted s p ≡ true → has_level level.Schema p ≡ true
  pub schema_level : (s : List ℕ) (p : ℕ) → held.on_schema s p ≡ true → has_level level.Schema p ≡ true
  pub table_level : (s t : List ℕ) (p : ℕ) → held.on_table s t p ≡ true → has_level level.Table p ≡ true
  pub column_level : (s t c : List ℕ) (p : ℕ) → held.on_column s t c p ≡ true → has_level level.Column p ≡ true
  pub column_lower : (s t c : List ℕ) (p : ℕ) → held.on_column s t c p ≡ true → is_lower c ≡ true
  pub function_level : (s f : List ℕ) (p : ℕ) → held.on_function s f p ≡ true → has_level level.Routine p ≡ true
  pub function_lower : (s f : List ℕ) (p : ℕ) → held.on_function s f p ≡ true → is_lower f ≡ true
  pub procedure_level : (s f : List ℕ) (p : ℕ) → held.on_procedure s f p ≡ true → has_level level.Routine p ≡ true
  pub procedure_lower : (s f : List ℕ) (p : ℕ) → held.on_procedure s f p ≡ true → is_lower f ≡ true
  pub role_named : (r : AuthId) → held.role r ≡ true → is_named r ≡ true
  pub role_other : (r : AuthId) → held.role r ≡ true → same_auth r a ≡ false
  pub admin_held : (r : AuthId) → held.admin r ≡ true → held.role r ≡ true

-- the lists have all that something is held on, and no column twice
pub record IsListed (held : Held) (listing : Listing) : Type 0 where
  pub restricted : (s : List ℕ) (p : ℕ) → held.restricted s p ≡ true → list_any (text_eq s) listing.schemas ≡ true
  pub schema : (s : List ℕ) (p : ℕ) → held.on_schema s p ≡ true → list_any (text_eq s) listing.schemas ≡ true
  pub table : (s t : List ℕ) (p : ℕ) → held.on_table s t p ≡ true → list_any (same_pair (s, t)) listing.tables ≡ true
  pub column_table : (s t c : List ℕ) (p : ℕ) → held.on_column s t c p ≡ true → list_any (same_pair (s, t)) listing.tables ≡ true
  pub column : (s t c : List ℕ) (p : ℕ) → held.on_column s t c p ≡ true → list_any (text_eq c) listing.columns ≡ true
  pub function : (s f : List ℕ) (p : ℕ) → held.on_function s f p ≡ true → list_any (same_pair (s, f)) listing.functions ≡ true
  pub procedure : (s f : List ℕ) (p : ℕ) → held.on_procedure s f p ≡ true → list_any (same_pair (s, f)) listing.procedures ≡ true
  pub role : (r : AuthId) → held.role r ≡ true → list_any (same_auth r) listing.roles ≡ true
  pub columns_differ : all_differ_by text_eq listing.columns ≡ true
  pub few : (s t : List ℕ) (p : ℕ) → length (filter (λ c. held.on_column s t c p) listing.columns) < 2 ^ 32
