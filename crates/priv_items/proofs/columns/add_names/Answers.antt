use Rattle.std.proofs.Common.{arith, ◌≡◌}
use Rattle.std.proofs.lemmas.Grind.{common_steps}
use Rattle.indexmap.specs.IndexSet.{insert_key}
use Rattle.acl_names.specs.Text.{text_eq}
use Rattle.priv_items.proofs.columns.add_names.Goals as goal

-- the names are compared as texts
pub loop-column-preserved : goal.loop-column-preserved
loop-column-preserved c =
    let keys : c.insert.new.self.keys ≡ insert_key text_eq c.loop-column.names.keys c.in_ok-lowered.field-0 = c.in_ok-insert.ensures.keys in
    grind (arith, common_steps)
