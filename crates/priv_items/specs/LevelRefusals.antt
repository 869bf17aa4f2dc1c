-- Privileges that are named at a level at which they are not granted.
use Rattle.std.specs.Prelude.{◌≡◌, Bool, ◌&&◌, if◌then◌else◌, List, [], ◌∷◌, Option, Some, None}
use Rattle.acl_stmt.specs.Targets.{is_table, level_of}
use Rattle.acl_stmt.specs.declared.target.Target.{Target}
use Rattle.priv_sets.specs.Levels.{has_level}
use Rattle.priv_sets.specs.Privileges.{is_global_level}
use Rattle.priv_sets.specs.declared.level.Level.TheVariants.{Column}
use Rattle.priv_sets.specs.declared.privilege.Privilege.{Privilege}
use Rattle.priv_sets.specs.declared.privilege.Privilege.TheVariants as privilege
use Rattle.priv_items.specs.Naming.{items_in}
use Rattle.priv_items.specs.declared.item.Item.{Item}
use Rattle.priv_items.specs.declared.item.Item.TheVariants.{Plain, Columns, Dynamic, Usage}
use Rattle.priv_items.specs.declared.item.Named.{Named}
use Rattle.priv_items.specs.declared.refusal.LevelRefusal.{LevelRefusal}
use Rattle.priv_items.specs.declared.refusal.LevelRefusal.TheVariants.{WrongLevel, NoMemory}

abbrev pub unless : Bool → Privilege → Option Privilege
unless granted named = if granted then None else Some named

-- the privilege of an item that is not granted at the level of the target, and not on columns of it where columns are named
abbrev pub wrong_in : Target → Item → Option Privilege
wrong_in target (Plain number) = unless (has_level (level_of target) number) (privilege.Plain number)
wrong_in target (Columns number columns) = unless (has_level Column number && is_table target) (privilege.Plain number)
wrong_in target (Dynamic number) = unless (is_global_level (level_of target)) (privilege.Dynamic number)
wrong_in target Usage = None

abbrev pub or_else : Option Privilege → Option Privilege → Option Privilege
or_else (Some first) later = Some first
or_else None later = later

-- the first of them, in the order of the items
abbrev pub first_wrong : Target → List Item → Option Privilege
first_wrong target [] = None
first_wrong target (item ∷ items) = or_else (wrong_in target item) (first_wrong target items)

-- ALL is each privilege of the level
abbrev pub wrong_level : Named → Target → Option Privilege
wrong_level named target = first_wrong target (items_in named)

-- a refusal for want of memory, or else for exactly this privilege
abbrev pub IsLevelRefusal : Option Privilege → LevelRefusal → Type 0
IsLevelRefusal wrong NoMemory = Unit {0}
IsLevelRefusal wrong (WrongLevel named) = wrong ≡ Some named
