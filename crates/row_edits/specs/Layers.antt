-- Rows that stand on others, and the rest.
use Rattle.std.specs.Prelude.{Bool}
use Rattle.acl_model.specs.declared.row.Row.{Row}
use Rattle.row_tables.specs.Layers.{is_in}
use Rattle.row_tables.specs.declared.layer.Layer.TheVariants.{Holdings, Options}

-- the right to grant a dynamic privilege or a role stands on that privilege or role
abbrev pub is_option : Row → Bool
is_option row = is_in Options row

-- what else an account holds stands on accounts alone
abbrev pub is_plain : Row → Bool
is_plain row = is_in Holdings row
