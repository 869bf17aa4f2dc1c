-- What the rows of a list are on: schemas, tables, columns, routines and roles.
use Rattle.std.specs.Prelude.{ℕ, List, [], ◌∷◌}
use Rattle.std.specs.List.{flat_map}
use Rattle.acl_names.specs.AuthId.{same_auth}
use Rattle.acl_names.specs.Text.{text_eq}
use Rattle.acl_names.specs.declared.auth.AuthId.{AuthId}
use Rattle.acl_model.specs.declared.row.Row.{Row}
use Rattle.acl_model.specs.declared.row.Row.TheVariants.{Schema, Table, Column, Function, Procedure, Edge, Restriction}
use Rattle.show_grants.specs.Keys.{Pair, auth_less, in_order, pair_less, same_pair, text_less}

-- each list in order, and each of its members once
pub record Listing : Type 0 where
  -- with a schema row or a restriction
  pub schemas : List (List ℕ)
  -- with a table row or a column row
  pub tables : List Pair
  pub columns : List (List ℕ)
  pub functions : List Pair
  pub procedures : List Pair
  -- that are granted to some account
  pub roles : List AuthId

abbrev pub schema_at : Row → List (List ℕ)
schema_at (Schema a s p) = s ∷ []
schema_at (Restriction a p s) = s ∷ []
schema_at _ = []

abbrev pub table_at : Row → List Pair
table_at (Table a s t p) = (s, t) ∷ []
table_at (Column a s t c p) = (s, t) ∷ []
table_at _ = []

abbrev pub column_at : Row → List (List ℕ)
column_at (Column a s t c p) = c ∷ []
column_at _ = []

abbrev pub function_at : Row → List Pair
function_at (Function a s f p) = (s, f) ∷ []
function_at _ = []

abbrev pub procedure_at : Row → List Pair
procedure_at (Procedure a s f p) = (s, f) ∷ []
procedure_at _ = []

abbrev pub role_at : Row → List AuthId
role_at (Edge role to) = role ∷ []
role_at _ = []

abbrev pub listing_of : List Row → Listing
listing_of rows = record {
  schemas = in_order text_eq text_less (flat_map schema_at rows);
  tables = in_order same_pair pair_less (flat_map table_at rows);
  columns = in_order text_eq text_less (flat_map column_at rows);
  functions = in_order same_pair pair_less (flat_map function_at rows);
  procedures = in_order same_pair pair_less (flat_map procedure_at rows);
  roles = in_order same_auth auth_less (flat_map role_at rows);
}
