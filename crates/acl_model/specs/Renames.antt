-- Renaming: the name that an account had before (MySQL 8.0 Reference Manual, "RENAME USER Statement").
use Rattle.std.specs.Prelude.{List, [], ◌∷◌, Option, Some, None, if◌then◌else◌}
use Rattle.acl_names.specs.AuthId.{same_auth}
use Rattle.acl_names.specs.declared.auth.AuthId.{AuthId}
use Rattle.acl_model.specs.declared.row.Row.{Row}
use Rattle.acl_model.specs.declared.row.Row.TheVariants.{Account, Global, Dynamic, DynamicGrant, Schema, Table, Column, Function, Procedure, Edge, Admin, Default, Restriction}

-- the name before one pair: the new name was the old one, and the old name was nobody's
abbrev pub before_pair : AuthId → AuthId → AuthId → Option AuthId
before_pair old new name = if same_auth name new then Some old else if same_auth name old then None else Some name

abbrev pub then_before : AuthId → AuthId → Option AuthId → Option AuthId
then_before old new None = None
then_before old new (Some name) = before_pair old new name

-- the name before all pairs, which are taken back from the last to the first; None where nobody had it
abbrev pub name_before : List (AuthId × AuthId) → AuthId → Option AuthId
name_before [] name = Some name
name_before (pair ∷ pairs) name = then_before pair.0 pair.1 (name_before pairs name)

abbrev pub one_name : (AuthId → Row) → Option AuthId → Option Row
one_name row None = None
one_name row (Some a) = Some (row a)

abbrev pub two_names : (AuthId → AuthId → Row) → Option AuthId → Option AuthId → Option Row
two_names row (Some a) (Some b) = Some (row a b)
two_names row _ _ = None

-- the row under the names from before; None where one of its names was nobody's
abbrev pub row_before : List (AuthId × AuthId) → Row → Option Row
row_before pairs (Account a) = one_name Account (name_before pairs a)
row_before pairs (Global a p) = one_name (λ x. Global x p) (name_before pairs a)
row_before pairs (Dynamic a d) = one_name (λ x. Dynamic x d) (name_before pairs a)
row_before pairs (DynamicGrant a d) = one_name (λ x. DynamicGrant x d) (name_before pairs a)
row_before pairs (Schema a s p) = one_name (λ x. Schema x s p) (name_before pairs a)
row_before pairs (Table a s t p) = one_name (λ x. Table x s t p) (name_before pairs a)
row_before pairs (Column a s t c p) = one_name (λ x. Column x s t c p) (name_before pairs a)
row_before pairs (Function a s f p) = one_name (λ x. Function x s f p) (name_before pairs a)
row_before pairs (Procedure a s f p) = one_name (λ x. Procedure x s f p) (name_before pairs a)
row_before pairs (Edge role to) = two_names Edge (name_before pairs role) (name_before pairs to)
row_before pairs (Admin role to) = two_names Admin (name_before pairs role) (name_before pairs to)
row_before pairs (Default of role) = two_names Default (name_before pairs of) (name_before pairs role)
row_before pairs (Restriction a p s) = one_name (λ x. Restriction x p s) (name_before pairs a)
