use Rattle.row_tables.specs.Tables.{state_of}
use Rattle.row_tables.specs.Rooms.{room_of}
use Rattle.row_tables.proofs.RoomLeft.{none_lost_twice}
use Rattle.row_tables.proofs.Going.{all_gone, free_accounts, free_holdings, free_options}
use Rattle.row_tables.proofs.take.take_all.Goals as goal

pub take_layer-requires : goal.take_layer-requires
take_layer-requires c = free_options (state_of c.args.rows.now) c.args.gone.now c.requires

pub take_layer-requires-2 : goal.take_layer-requires-2
take_layer-requires-2 c = free_holdings (state_of c.args.rows.now) c.args.gone.now c.requires (state_of c.take_layer.new.rows) c.take_layer.ensures.state

pub take_layer-requires-3 : goal.take_layer-requires-3
take_layer-requires-3 c =
    free_accounts (state_of c.args.rows.now) c.args.gone.now c.requires (state_of c.take_layer.new.rows) (state_of c.take_layer-2.new.rows) c.take_layer.ensures.state c.take_layer-2.ensures.state

pub returns-clause-state : goal.returns-clause-state
returns-clause-state c =
    all_gone (state_of c.args.rows.now) c.args.gone.now c.requires (state_of c.take_layer.new.rows) (state_of c.take_layer-2.new.rows) (state_of c.take_layer-3.new.rows)
    c.take_layer.ensures.state c.take_layer-2.ensures.state c.take_layer-3.ensures.state

pub returns-clause-room : goal.returns-clause-room
returns-clause-room c =
    none_lost_twice (room_of c.args.rows.now) (room_of c.take_layer-2.new.rows) (room_of c.take_layer-3.new.rows)
    (none_lost_twice (room_of c.args.rows.now) (room_of c.take_layer.new.rows) (room_of c.take_layer-2.new.rows) c.take_layer.ensures.room c.take_layer-2.ensures.room)
    c.take_layer-3.ensures.room
