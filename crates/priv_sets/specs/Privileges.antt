-- Privileges of both kinds.
use Rattle.std.specs.Prelude.{ℕ, Bool, true, false, nat_lt, List}
use Rattle.priv_sets.specs.DynamicNames.{dynamic_name}
use Rattle.priv_sets.specs.Levels.{has_level}
use Rattle.priv_sets.specs.PlainNames.{plain_name}
use Rattle.priv_sets.specs.declared.level.Level.{Level}
use Rattle.priv_sets.specs.declared.level.Level.TheVariants as level
use Rattle.priv_sets.specs.declared.privilege.Privilege.{Privilege}
use Rattle.priv_sets.specs.declared.privilege.Privilege.TheVariants.{Plain, Dynamic}

-- whether the number names a privilege
abbrev pub is_privilege : Privilege → Bool
is_privilege (Plain number) = nat_lt number 31
is_privilege (Dynamic number) = nat_lt number 20

abbrev pub privilege_name : Privilege → List ℕ
privilege_name (Plain number) = plain_name number
privilege_name (Dynamic number) = dynamic_name number

-- dynamic privileges are granted on `*.*` alone
abbrev pub is_global_level : Level → Bool
is_global_level level.Global = true
is_global_level _ = false

abbrev pub privilege_has_level : Level → Privilege → Bool
privilege_has_level level (Plain number) = has_level level number
privilege_has_level level (Dynamic number) = is_global_level level
