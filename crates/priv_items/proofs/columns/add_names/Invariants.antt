use Rattle.std.proofs.Common.{◌≡◌, drop, map}
use Rattle.std.specs.Str.{str_to_ascii_lowercase}
use Rattle.indexmap.specs.IndexSet.{insert_all}
use Rattle.acl_names.specs.Text.{text_eq}
use Rattle.priv_items.proofs.columns.add_names.Given as goal

abbrev pub invariant-loop-column : goal.invariant-loop-column
invariant-loop-column l =
    insert_all text_eq l.initial.names.keys (map str_to_ascii_lowercase l.columns) ≡ insert_all text_eq l.names.keys (map str_to_ascii_lowercase (drop l.column-index l.columns))
