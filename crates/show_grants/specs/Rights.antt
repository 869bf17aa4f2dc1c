-- What an account and the accounts beside it hold, as tests.
use Rattle.std.specs.Prelude.{ℕ, Bool, List}
use Rattle.acl_names.specs.declared.auth.AuthId.{AuthId}
use Rattle.acl_model.specs.Rights.{holds_globally, holds_on_column, holds_on_function, holds_on_procedure, holds_on_schema, holds_on_table, is_restricted, may_grant_dynamic}
use Rattle.acl_model.specs.State.{State}
use Rattle.acl_model.specs.declared.row.Row.TheVariants.{Admin, Edge}
use Rattle.priv_sets.specs.declared.privilege.Privilege.TheVariants.{Plain, Dynamic}

pub record Held : Type 0 where
  -- on `*.*`: static privileges, dynamic ones, and of these the ones that may be granted
  pub plain : ℕ → Bool
  pub dynamic : ℕ → Bool
  pub grantable : ℕ → Bool
  -- by schema: what is restricted there, and what is held there
  pub restricted : List ℕ → ℕ → Bool
  pub on_schema : List ℕ → ℕ → Bool
  -- by schema and name, and for columns by the column too
  pub on_table : List ℕ → List ℕ → ℕ → Bool
  pub on_column : List ℕ → List ℕ → List ℕ → ℕ → Bool
  pub on_function : List ℕ → List ℕ → ℕ → Bool
  pub on_procedure : List ℕ → List ℕ → ℕ → Bool
  -- the roles that are granted, and of these the ones that may be granted on
  pub role : AuthId → Bool
  pub admin : AuthId → Bool

-- privileges are those of all the accounts together, roles those of the account alone
abbrev pub held_by : State → List AuthId → AuthId → Held
held_by state accounts account = record {
  plain = λ p. holds_globally state accounts (Plain p);
  dynamic = λ d. holds_globally state accounts (Dynamic d);
  grantable = may_grant_dynamic state accounts;
  restricted = λ s p. is_restricted state accounts p s;
  on_schema = holds_on_schema state accounts;
  on_table = holds_on_table state accounts;
  on_column = holds_on_column state accounts;
  on_function = holds_on_function state accounts;
  on_procedure = holds_on_procedure state accounts;
  role = λ r. state.rows (Edge r account);
  admin = λ r. state.rows (Admin r account);
}
