-- One account under another name, row by row.
use Rattle.std.specs.Prelude.{Bool, not, List, [], ◌∷◌, map, filter, if◌then◌else◌}
use Rattle.acl_names.specs.AuthId.{same_auth}
use Rattle.acl_names.specs.declared.auth.AuthId.{AuthId}
use Rattle.acl_model.specs.Rows.{some_name}
use Rattle.acl_model.specs.declared.row.Row.{Row}
use Rattle.acl_model.specs.declared.row.Row.TheVariants.{Account, Global, Dynamic, DynamicGrant, Schema, Table, Column, Function, Procedure, Edge, Admin, Default, Restriction}

abbrev pub new_name : AuthId → AuthId → AuthId → AuthId
new_name old new a = if same_auth a old then new else a

-- the row with the new name in the place of the old one
abbrev pub row_renamed : AuthId → AuthId → Row → Row
row_renamed old new (Account a) = Account (new_name old new a)
row_renamed old new (Global a p) = Global (new_name old new a) p
row_renamed old new (Dynamic a d) = Dynamic (new_name old new a) d
row_renamed old new (DynamicGrant a d) = DynamicGrant (new_name old new a) d
row_renamed old new (Schema a s p) = Schema (new_name old new a) s p
row_renamed old new (Table a s t p) = Table (new_name old new a) s t p
row_renamed old new (Column a s t c p) = Column (new_name old new a) s t c p
row_renamed old new (Function a s f p) = Function (new_name old new a) s f p
row_renamed old new (Procedure a s f p) = Procedure (new_name old new a) s f p
row_renamed old new (Edge role to) = Edge (new_name old new role) (new_name old new to)
row_renamed old new (Admin role to) = Admin (new_name old new role) (new_name old new to)
row_renamed old new (Default of role) = Default (new_name old new of) (new_name old new role)
row_renamed old new (Restriction a p s) = Restriction (new_name old new a) p s

-- each row with the new name, but for those of an account that had that name without standing
abbrev pub rows_renamed : AuthId → AuthId → List Row → List Row
rows_renamed old new rows = map (row_renamed old new) (filter (λ row. not (some_name (same_auth new) row)) rows)

-- the list with its first item that passes changed
abbrev pub change_first : {X : Type 0} → (X → Bool) → (X → X) → List X → List X
change_first test change [] = []
change_first test change (item ∷ items) = if test item then change item ∷ items else item ∷ change_first test change items
