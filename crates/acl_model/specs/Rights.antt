-- What a list of accounts holds together (MySQL 8.0 Reference Manual, "Access Control, Stage 2: Request Verification",
-- "Privilege Restriction Using Partial Revokes"; the rule over several accounts is this product's own choice).
use Rattle.std.specs.Prelude.{ℕ, Bool, ◌&&◌, ◌||◌, not, List}
use Rattle.std.specs.List.{list_all, list_any}
use Rattle.acl_names.specs.declared.auth.AuthId.{AuthId}
use Rattle.acl_model.specs.State.{State}
use Rattle.acl_model.specs.declared.row.Row.TheVariants.{Column, Dynamic as DynamicRow, DynamicGrant, Function, Global, Procedure, Restriction, Schema, Table}
use Rattle.priv_sets.specs.declared.privilege.Privilege.{Privilege}
use Rattle.priv_sets.specs.declared.privilege.Privilege.TheVariants.{Plain, Dynamic}

-- some account holds the privilege on `*.*`
abbrev pub holds_globally : State → List AuthId → Privilege → Bool
holds_globally state accounts (Plain p) = list_any (λ x. state.rows (Global x p)) accounts
holds_globally state accounts (Dynamic d) = list_any (λ x. state.rows (DynamicRow x d)) accounts

-- some account may grant the dynamic privilege
abbrev pub may_grant_dynamic : State → List AuthId → ℕ → Bool
may_grant_dynamic state accounts d = list_any (λ x. state.rows (DynamicGrant x d)) accounts

-- some account holds the privilege on `*.*`, and each one that does is restricted on the schema
abbrev pub is_restricted : State → List AuthId → ℕ → List ℕ → Bool
is_restricted state accounts p schema =
    list_any (λ x. state.rows (Global x p)) accounts && list_all (λ x. not (state.rows (Global x p)) || state.rows (Restriction x p schema)) accounts

abbrev pub holds_on_schema : State → List AuthId → List ℕ → ℕ → Bool
holds_on_schema state accounts schema p = list_any (λ x. state.rows (Schema x schema p)) accounts

abbrev pub holds_on_table : State → List AuthId → List ℕ → List ℕ → ℕ → Bool
holds_on_table state accounts schema table p = list_any (λ x. state.rows (Table x schema table p)) accounts

abbrev pub holds_on_column : State → List AuthId → List ℕ → List ℕ → List ℕ → ℕ → Bool
holds_on_column state accounts schema table column p = list_any (λ x. state.rows (Column x schema table column p)) accounts

abbrev pub holds_on_function : State → List AuthId → List ℕ → List ℕ → ℕ → Bool
holds_on_function state accounts schema name p = list_any (λ x. state.rows (Function x schema name p)) accounts

abbrev pub holds_on_procedure : State → List AuthId → List ℕ → List ℕ → ℕ → Bool
holds_on_procedure state accounts schema name p = list_any (λ x. state.rows (Procedure x schema name p)) accounts
