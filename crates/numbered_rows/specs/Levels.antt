-- Holdings at levels that their privileges have.
use Rattle.std.specs.Prelude.{Bool, true, nat_lt}
use Rattle.account_holdings.specs.declared.globals.GlobalKind.TheVariants.{Static, Dynamic, Grantable}
use Rattle.account_holdings.specs.declared.holding.Holding.{Holding}
use Rattle.account_holdings.specs.declared.holding.Holding.TheVariants.{OnAll, OnSchema, Restricted, OnObject}
use Rattle.object_bits.specs.declared.object.Object.TheVariants.{Table, Column, Function, Procedure}
use Rattle.priv_sets.specs.Levels.{has_level}
use Rattle.priv_sets.specs.declared.level.Level.TheVariants as level

-- whether the privilege of a holding has its level
abbrev pub is_at_its_level : Holding → Bool
is_at_its_level (OnAll Static n p) = has_level level.Global p
is_at_its_level (OnAll Dynamic n d) = nat_lt d 20
is_at_its_level (OnAll Grantable n d) = nat_lt d 20
is_at_its_level (OnSchema n s p) = has_level level.Schema p
is_at_its_level (Restricted n s p) = has_level level.Schema p
is_at_its_level (OnObject n (Table s t) p) = has_level level.Table p
is_at_its_level (OnObject n (Column s t c) p) = has_level level.Column p
is_at_its_level (OnObject n (Function s f) p) = has_level level.Routine p
is_at_its_level (OnObject n (Procedure s f) p) = has_level level.Routine p
is_at_its_level _ = true
