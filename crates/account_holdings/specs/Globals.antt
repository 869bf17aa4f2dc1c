-- What accounts hold on `*.*`.
use Rattle.std.specs.Prelude.{ℕ, Bool, true, false, List}
use Rattle.std.specs.List.{slice_index_or}
use Rattle.account_holdings.specs.declared.globals.GlobalBits.{GlobalBits}
use Rattle.account_holdings.specs.declared.globals.GlobalKind.{GlobalKind}
use Rattle.account_holdings.specs.declared.globals.GlobalKind.TheVariants.{Static, Dynamic, Grantable}

abbrev pub same_kind : GlobalKind → GlobalKind → Bool
same_kind Static Static = true
same_kind Dynamic Dynamic = true
same_kind Grantable Grantable = true
same_kind _ _ = false

-- the bits of one kind
abbrev pub bits_of_kind : GlobalKind → GlobalBits → ℕ
bits_of_kind Static bits = bits.fixed
bits_of_kind Dynamic bits = bits.dynamic
bits_of_kind Grantable bits = bits.grantable

-- what an account holds that holds nothing
abbrev pub no_globals : GlobalBits
no_globals = record { fixed = 0; dynamic = 0; grantable = 0 }

-- what the account of a number holds
abbrev pub global_bits : List GlobalBits → ℕ → GlobalBits
global_bits globals number = slice_index_or globals number no_globals
