use Rattle.std.proofs.Common.{◌≡◌, drop}
use Rattle.indexmap.specs.IndexSet.{insert_all}
use Rattle.acl_names.specs.Text.{text_eq}
use Rattle.priv_items.specs.Meaning.{each_once}
use Rattle.priv_items.specs.Naming.{columns_of}
use Rattle.priv_items.proofs.columns.joined_columns.Given as goal

abbrev pub invariant-loop-item : goal.invariant-loop-item
invariant-loop-item l =
    each_once (columns_of l.items l.privilege) ≡ insert_all text_eq l.names.keys (columns_of (drop l.item-index l.items) l.privilege)
