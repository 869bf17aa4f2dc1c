-- What the limits count: which schema, pair, object or edge a row uses, and each that rows use, once.
use Rattle.std.specs.Prelude.{Bool, List, [], ◌∷◌, ◌++◌, Option, Some, None, fold, if◌then◌else◌}
use Rattle.std.specs.List.{list_any}
use Rattle.acl_names.specs.declared.auth.AuthId.{AuthId}
use Rattle.acl_model.specs.declared.row.Row.{Row}
use Rattle.acl_model.specs.declared.row.Row.TheVariants.{Column, Default, Edge, Function, Procedure, Restriction, Schema, Table}
use Rattle.std.specs.Prelude.{ℕ}

-- the schema of a schema privilege or a restriction
abbrev pub schema_of : Row → Option (List ℕ)
schema_of (Schema a s p) = Some s
schema_of (Restriction a p s) = Some s
schema_of _ = None

-- the account and the schema of a schema privilege or a restriction
abbrev pub pair_of : Row → Option (AuthId × List ℕ)
pair_of (Schema a s p) = Some (a, s)
pair_of (Restriction a p s) = Some (a, s)
pair_of _ = None

-- the account and the table, column or routine, as a row of the privilege 0
abbrev pub object_of : Row → Option Row
object_of (Table a s t p) = Some (Table a s t 0)
object_of (Column a s t c p) = Some (Column a s t c 0)
object_of (Function a s f p) = Some (Function a s f 0)
object_of (Procedure a s f p) = Some (Procedure a s f 0)
object_of _ = None

-- a granted role or a default role
abbrev pub edge_of : Row → Option Row
edge_of (Edge role to) = Some (Edge role to)
edge_of (Default of role) = Some (Default of role)
edge_of _ = None

-- the items with one more, where it is new
abbrev pub noted : {X : Type 0} → (X → X → Bool) → List X → Option X → List X
noted same seen None = seen
noted same seen (Some item) = if list_any (same item) seen then seen else seen ++ item ∷ []

-- each item that the rows use, once
abbrev pub distinct : {X : Type 0} → (X → X → Bool) → (Row → Option X) → List Row → List X
distinct same key rows = fold (λ seen row. noted same seen (key row)) [] rows
