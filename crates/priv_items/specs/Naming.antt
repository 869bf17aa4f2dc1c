-- What the items of a list of privileges name.
use Rattle.std.specs.Prelude.{ℕ, Bool, true, false, ◌==◌, if◌then◌else◌, List, [], length, map, sum_by}
use Rattle.std.specs.List.{flat_map, list_any}
use Rattle.std.specs.Str.{str_to_ascii_lowercase}
use Rattle.priv_sets.specs.Levels.{has_level}
use Rattle.priv_sets.specs.declared.level.Level.TheVariants.{Column}
use Rattle.priv_items.specs.declared.item.Item.{Item}
use Rattle.priv_items.specs.declared.item.Item.TheVariants.{Plain, Columns, Dynamic}
use Rattle.priv_items.specs.declared.item.Named.{Named}
use Rattle.priv_items.specs.declared.item.Named.TheVariants.{All, Listed}

-- ALL names no privilege of its own
abbrev pub items_in : Named → List Item
items_in All = []
items_in (Listed items) = items

abbrev pub is_all : Named → Bool
is_all All = true
is_all (Listed items) = false

-- the item is the static privilege of a number, or GRANT OPTION, without columns
abbrev pub is_plain : ℕ → Item → Bool
is_plain number (Plain privilege) = number == privilege
is_plain number _ = false

-- the item is the dynamic privilege of a number
abbrev pub is_dynamic : ℕ → Item → Bool
is_dynamic number (Dynamic privilege) = number == privilege
is_dynamic number _ = false

-- the columns that the item names for the static privilege of a number, in lower case
abbrev pub columns_in : ℕ → Item → List (List ℕ)
columns_in number (Columns privilege columns) = if number == privilege then map str_to_ascii_lowercase columns else []
columns_in number _ = []

-- the static privilege of a number is named without columns
abbrev pub names_plain : List Item → ℕ → Bool
names_plain items number = list_any (is_plain number) items

abbrev pub names_dynamic : List Item → ℕ → Bool
names_dynamic items number = list_any (is_dynamic number) items

-- the columns of all lists of the static privilege of a number, one list after the other
abbrev pub columns_of : List Item → ℕ → List (List ℕ)
columns_of items number = flat_map (columns_in number) items

-- columns stand with a privilege that has the column level alone
abbrev pub may_stand : Item → Bool
may_stand (Columns privilege columns) = has_level Column privilege
may_stand _ = true

-- how many columns the item names
abbrev pub columns_within : Item → ℕ
columns_within (Columns privilege columns) = length columns
columns_within _ = 0

-- how many columns all items name
abbrev pub column_count : List Item → ℕ
column_count items = sum_by columns_within items
