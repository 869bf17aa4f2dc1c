use Rattle.std.proofs.Common.{◌≡◌, ◌++◌, map, string_bytes}
use Rattle.priv_items.specs.Canonical.{dynamic_at, each_below}
use Rattle.canonical_texts.specs.Privileges.{item_text}
use Rattle.canonical_texts.proofs.privileges.push_all_dynamic.Given as goal

abbrev pub invariant-loop-number : goal.invariant-loop-number
invariant-loop-number l =
    map string_bytes l.items.items ≡ map string_bytes l.initial.items.items ++ each_below l.number (dynamic_at item_text l.dynamic)
