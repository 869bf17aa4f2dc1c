use Rattle.std.proofs.Common.{◌∙◌, ap, length, subst, sym, [], arith}
use Rattle.acl_model.specs.State.{State}
use Rattle.row_edits.proofs.Comes.{lost_in_all, room_after, room_behind}
use Rattle.row_tables.specs.Lists.{IsReadyAmong, with_rows}
use Rattle.row_tables.specs.Rooms.{room_of}
use Rattle.row_edits.proofs.come.edit.Goals as goal

pub put_each-requires-clause-ready : goal.put_each-requires-clause-ready
put_each-requires-clause-ready c row there =
    subst (λ (s : State). IsReadyAmong s [] row) (sym c.take_all.ensures.state) (c.requires.plain row there)

pub put_each-requires-clause-room : goal.put_each-requires-clause-room
put_each-requires-clause-room c =
    room_after (length c.args.plain.items) (length c.args.options.items) 0 (room_of c.args.rows.now) (room_of c.take_all.new.rows) c.requires.room c.take_all.ensures.room (omega arith)

pub put_each-requires-2-clause-ready : goal.put_each-requires-2-clause-ready
put_each-requires-2-clause-ready c row there =
    subst (λ (s : State). IsReadyAmong s [] row) (sym (c.put_each.ensures.state ∙ ap (with_rows c.args.plain.items) c.take_all.ensures.state)) (c.requires.options row there)

pub put_each-requires-2-clause-room : goal.put_each-requires-2-clause-room
put_each-requires-2-clause-room c =
    room_behind (length c.args.plain.items) (length c.args.options.items) (room_of c.args.rows.now) (room_of c.take_all.new.rows) (room_of c.put_each.new.rows) c.requires.room c.take_all.ensures.room c.put_each.ensures.room

pub returns-clause-state : goal.returns-clause-state
returns-clause-state c = c.put_each-2.ensures.state ∙ ap (with_rows c.args.options.items) (c.put_each.ensures.state ∙ ap (with_rows c.args.plain.items) c.take_all.ensures.state)

pub returns-clause-room : goal.returns-clause-room
returns-clause-room c =
    lost_in_all (length c.args.plain.items) (length c.args.options.items) (room_of c.args.rows.now) (room_of c.take_all.new.rows) (room_of c.put_each.new.rows) (room_of c.put_each-2.new.rows)
    c.take_all.ensures.room c.put_each.ensures.room c.put_each-2.ensures.room
