use Rattle.std.proofs.Common.{◌∙◌, ap, refl}
use Rattle.row_tables.proofs.Alike.{alike_sound, alike_state}
use Rattle.row_tables.specs.Tables.{state_of}
use Rattle.row_tables.specs.contracts.rows.Rows.{the_view}
use Rattle.row_tables.proofs.rows.Rows.copy.Goals as goal

pub invariant_of-result : goal.invariant_of-result
invariant_of-result c =
    alike_sound (the_view c.self.inside) (the_view (record { accounts = c.in_ok-copy.field-0; account_data = c.in_ok-from_slice.field-0; holdings = c.in_ok-copy-2.field-0; mandatory = c.in_ok-copy-3.field-0; activate_all = c.self.inside.activate_all }))
    c.in_ok-copy.ensures c.in_ok-copy-2.ensures.alike (c.in_ok-from_slice.ensures.items ∙ c.deref.ensures.value) c.in_ok-copy-2.ensures.accounts c.self.invariant

pub returns : goal.returns
returns c =
    alike_state (the_view c.self.inside) (the_view (record { accounts = c.in_ok-copy.field-0; account_data = c.in_ok-from_slice.field-0; holdings = c.in_ok-copy-2.field-0; mandatory = c.in_ok-copy-3.field-0; activate_all = c.self.inside.activate_all }))
    c.in_ok-copy.ensures c.in_ok-copy-2.ensures.alike (c.in_ok-from_slice.ensures.items ∙ c.deref.ensures.value) c.in_ok-copy-3.ensures refl
    ∙ ap state_of c.self.view_is
