-- What a row stands on.
use Rattle.std.specs.Prelude.{Bool, true, false}
use Rattle.acl_model.specs.declared.row.Row.{Row}
use Rattle.acl_model.specs.declared.row.Row.TheVariants.{Account, DynamicGrant, Admin}
use Rattle.row_tables.specs.declared.layer.Layer.{Layer}
use Rattle.row_tables.specs.declared.layer.Layer.TheVariants.{Accounts, Holdings, Options}

abbrev pub layer_of : Row → Layer
layer_of (Account a) = Accounts
layer_of (DynamicGrant a d) = Options
layer_of (Admin role to) = Options
layer_of _ = Holdings

abbrev pub same_layer : Layer → Layer → Bool
same_layer Accounts Accounts = true
same_layer Holdings Holdings = true
same_layer Options Options = true
same_layer _ _ = false

abbrev pub is_in : Layer → Row → Bool
is_in layer row = same_layer (layer_of row) layer
