use Rattle.std.proofs.Common.{◌≡◌, ◌++◌, map, string_bytes, take}
use Rattle.std.specs.List.{flat_map}
use Rattle.priv_items.specs.Canonical.{columns_at}
use Rattle.canonical_texts.specs.Privileges.{item_text}
use Rattle.canonical_texts.proofs.privileges.push_columns.Given as goal

abbrev pub invariant-loop-listed : goal.invariant-loop-listed
invariant-loop-listed l =
    map string_bytes l.items.items ≡ map string_bytes l.initial.items.items ++ flat_map (columns_at item_text l.plain) (take l.listed-index l.columns)
