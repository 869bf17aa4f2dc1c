use Rattle.std.proofs.Common.{◌∙◌, ◌<◌, length, sym, arith}
use Rattle.row_tables.specs.Tables.{state_of}
use Rattle.row_tables.specs.Layers.{is_in}
use Rattle.row_tables.specs.Rooms.{room_of}
use Rattle.row_tables.proofs.RoomLeft.{none_lost, none_lost_twice}
use Rattle.row_tables.proofs.Going.{free_at, takes_more, without_none}
use Rattle.row_tables.proofs.take.take_layer.Goals as goal

pub loop-row-init : goal.loop-row-init
loop-row-init c = record { state = without_none (state_of c.args.rows.now); room = none_lost (room_of c.args.rows.now) }

pub take-requires : goal.take-requires
take-requires c =
    let within : c.loop-row.row-index < length c.args.gone.now = omega arith in
    free_at (state_of c.args.rows.now) (state_of c.loop-row.rows) (is_in c.args.layer) c.args.gone.now c.loop-row.row-index c.row-item.result c.requires within c.row-item.is
    (sym c.is_in.ensures ∙ c.if-not-is_in.false) c.loop-row.invariant.state

pub loop-row-preserved : goal.loop-row-preserved
loop-row-preserved c =
    let within : c.loop-row.row-index < length c.args.gone.now = omega arith in
    record {
      state = takes_more (state_of c.args.rows.now) (state_of c.loop-row.rows) (state_of c.take.new.self) (is_in c.args.layer) c.args.gone.now c.loop-row.row-index c.row-item.result within c.row-item.is
          (sym c.is_in.ensures ∙ c.if-not-is_in.false) c.take.ensures.state c.loop-row.invariant.state;
      room = none_lost_twice (room_of c.args.rows.now) (room_of c.loop-row.rows) (room_of c.take.new.self) c.loop-row.invariant.room c.take.ensures.room;
    }
