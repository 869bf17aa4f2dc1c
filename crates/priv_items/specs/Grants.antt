-- GRANT OPTION among the privileges of a GRANT, where it means WITH GRANT OPTION.
use Rattle.std.specs.Prelude.{Bool, not, filter}
use Rattle.priv_sets.specs.Levels.{grant_option}
use Rattle.priv_items.specs.Naming.{is_plain, items_in, names_plain}
use Rattle.priv_items.specs.declared.item.Named.{Named}
use Rattle.priv_items.specs.declared.item.Named.TheVariants.{All, Listed}

-- GRANT OPTION is named
abbrev pub names_grant_option : Named → Bool
names_grant_option named = names_plain (items_in named) grant_option

-- what else is named
abbrev pub without_grant_option : Named → Named
without_grant_option All = All
without_grant_option (Listed items) = Listed (filter (λ item. not (is_plain grant_option item)) items)
