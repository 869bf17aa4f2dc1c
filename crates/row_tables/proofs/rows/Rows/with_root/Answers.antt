use Rattle.std.proofs.Common.{refl, false}
use Rattle.row_tables.specs.Tables.{state_of}
use Rattle.row_tables.specs.contracts.rows.Rows.{the_view}
use Rattle.row_tables.proofs.Openings.{empty_sound, room_first, root_first}
use Rattle.row_tables.proofs.rows.Rows.with_root.Goals as goal

pub invariant_of-rows : goal.invariant_of-rows
invariant_of-rows c =
    empty_sound (the_view (record { accounts = c.new.result; account_data = c.new-2.result; holdings = c.new-3.result; mandatory = c.new-4.result; activate_all = false }))
    c.new.ensures.names c.new-2.ensures.items c.new-3.ensures.globals c.new-3.ensures.schemas c.new-3.ensures.objects c.new-3.ensures.roles c.new-3.ensures.defaults

pub put-requires-clause-ready : goal.put-requires-clause-ready
put-requires-clause-ready c =
    room_first (the_view (record { accounts = c.new.result; account_data = c.new-2.result; holdings = c.new-3.result; mandatory = c.new-4.result; activate_all = false }))
    (empty_sound (the_view (record { accounts = c.new.result; account_data = c.new-2.result; holdings = c.new-3.result; mandatory = c.new-4.result; activate_all = false }))
    c.new.ensures.names c.new-2.ensures.items c.new-3.ensures.globals c.new-3.ensures.schemas c.new-3.ensures.objects c.new-3.ensures.roles c.new-3.ensures.defaults)
    c.new.ensures.names _ c.in_ok-reserve.ensures.state

pub returns : goal.returns
returns c =
    root_first (the_view (record { accounts = c.new.result; account_data = c.new-2.result; holdings = c.new-3.result; mandatory = c.new-4.result; activate_all = false }))
    (state_of c.put.new.self) _ c.new.ensures.names c.new-4.ensures refl c.in_ok-reserve.ensures.state c.in_ok-root.field-0 c.in_ok-root.ensures c.put.ensures.state
