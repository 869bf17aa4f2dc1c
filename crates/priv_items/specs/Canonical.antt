-- A list of privileges, item by item: by the numbers of the privileges, the dynamic ones last.
use Rattle.std.specs.Prelude.{ℕ, zero, suc, Bool, ◌==◌, if◌then◌else◌, List, [], ◌∷◌, ◌++◌}
use Rattle.std.specs.Int.{bit_at}
use Rattle.std.specs.List.{flat_map}
use Rattle.acl_stmt.specs.declared.columns.ColumnPriv.{ColumnPriv}
use Rattle.acl_stmt.specs.declared.privileges.PrivList.{PrivList}
use Rattle.priv_sets.specs.StaticSet.{holds}
use Rattle.priv_items.specs.declared.item.Item.{Item}
use Rattle.priv_items.specs.declared.item.Item.TheVariants.{Plain, Columns, Dynamic, Usage}
use Rattle.priv_items.specs.declared.item.Named.{Named}
use Rattle.priv_items.specs.declared.item.Named.TheVariants.{All, Listed}

-- what stands for each item: a static privilege by its number, one with its columns, a dynamic one by its number, and USAGE
pub record PerItem (A : Type 0) : Type 0 where
  pub plain : ℕ → A
  pub columns : ColumnPriv → A
  pub dynamic : ℕ → A
  pub usage : A

-- one member, where the test holds
abbrev pub member_if : {A : Type 0} → Bool → A → List A
member_if given member = if given then member ∷ [] else []

-- what there is at each number below a limit, in the order of the numbers
unfoldable pub each_below : {A : Type 0} → ℕ → (ℕ → List A) → List A
each_below zero members_at = []
each_below (suc limit) members_at = each_below limit members_at ++ members_at limit

-- the columns of the static privilege of a number
abbrev pub columns_at : {A : Type 0} → PerItem A → ℕ → ColumnPriv → List A
columns_at per number listed = member_if (number == listed.privilege) (per.columns listed)

-- the static privilege of a number without columns, and then with them
abbrev pub static_at : {A : Type 0} → PerItem A → PrivList → ℕ → List A
static_at per list number = member_if (holds list.plain number) (per.plain number) ++ flat_map (columns_at per number) list.columns

abbrev pub dynamic_at : {A : Type 0} → PerItem A → ℕ → ℕ → List A
dynamic_at per dynamic number = member_if (bit_at dynamic number == 1) (per.dynamic number)

-- USAGE where there is nothing else
abbrev pub or_usage : {A : Type 0} → PerItem A → List A → List A
or_usage per [] = per.usage ∷ []
or_usage per (member ∷ members) = member ∷ members

-- the static privileges and GRANT OPTION by their numbers, then the dynamic ones by theirs
abbrev pub held_by : {A : Type 0} → PerItem A → PrivList → List A
held_by per list = each_below 31 (static_at per list) ++ each_below 20 (dynamic_at per list.dynamic)

-- all items of a list that is not ALL
abbrev pub listed_by : {A : Type 0} → PerItem A → PrivList → List A
listed_by per list = or_usage per (held_by per list)

abbrev pub item_itself : PerItem Item
item_itself = record { plain = Plain; columns = λ listed. Columns listed.privilege listed.names; dynamic = Dynamic; usage = Usage }

-- the items that spell a list of privileges
abbrev pub items_of : PrivList → Named
items_of list = if list.all then All else Listed (listed_by item_itself list)
