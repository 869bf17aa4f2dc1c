-- The first state, as far as the privileges of the root account are written.
use Rattle.std.specs.Prelude.{ℕ, Bool, false, ◌&&◌, nat_lt, []}
use Rattle.acl_names.specs.AuthId.{same_auth}
use Rattle.acl_model.specs.State.{State, opening, root}
use Rattle.acl_model.specs.declared.row.Row.{Row}
use Rattle.acl_model.specs.declared.row.Row.TheVariants.{Account, Global, Dynamic, DynamicGrant}

abbrev pub rows_below : ℕ → ℕ → Row → Bool
rows_below static dynamic (Account a) = same_auth a root
rows_below static dynamic (Global a p) = same_auth a root && nat_lt p static
rows_below static dynamic (Dynamic a d) = same_auth a root && nat_lt d dynamic
rows_below static dynamic (DynamicGrant a d) = same_auth a root && nat_lt d dynamic
rows_below static dynamic _ = false

-- the first state with so many static and so many dynamic privileges of root
unfoldable pub opening_below : ℕ → ℕ → State
opening_below static dynamic = record { rows = rows_below static dynamic; account_data = opening.account_data; mandatory = []; activate_all = false }
