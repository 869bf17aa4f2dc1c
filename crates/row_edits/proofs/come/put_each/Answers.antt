use Rattle.std.proofs.Common.{◌∙◌, ◌<◌, ◌↔◌, IsSome, ap, subst, sym, [], length}
use Rattle.row_tables.proofs.Coming.{ready_for}
use Rattle.row_tables.proofs.RoomLeft.{fits_one}
use Rattle.row_tables.specs.Lists.{with_rows}
use Rattle.row_tables.specs.Rooms.{room_of}
use Rattle.row_tables.specs.Tables.{state_of}
use Rattle.row_edits.proofs.Comes.{fewer_left, last_listed, last_taken, lost_all, lost_more, next_ready, next_room, next_state, nothing_left, row_fits, some_length, with_none}
use Rattle.row_tables.proofs.RoomLeft.{ready_is_grant}
use Rattle.row_edits.proofs.come.put_each.Goals as goal

pub put-requires-clause-names : goal.put-requires-clause-names
put-requires-clause-names c =
    let split = last_taken c.loop-row.come.items c.pop.new.self.items c.in-Some.row c.pop.result c.in-Some.is c.pop.ensures.items in
    (c.loop-row.invariant.ready c.in-Some.row (last_listed c.loop-row.come.items c.pop.new.self.items c.in-Some.row split)).names

pub put-requires-clause-level : goal.put-requires-clause-level
put-requires-clause-level c =
    let split = last_taken c.loop-row.come.items c.pop.new.self.items c.in-Some.row c.pop.result c.in-Some.is c.pop.ensures.items in
    (c.loop-row.invariant.ready c.in-Some.row (last_listed c.loop-row.come.items c.pop.new.self.items c.in-Some.row split)).level

pub put-requires-clause-ready : goal.put-requires-clause-ready
put-requires-clause-ready c =
    let split = last_taken c.loop-row.come.items c.pop.new.self.items c.in-Some.row c.pop.result c.in-Some.is c.pop.ensures.items in
    ready_for (state_of c.loop-row.rows) c.in-Some.row (c.loop-row.invariant.ready c.in-Some.row (last_listed c.loop-row.come.items c.pop.new.self.items c.in-Some.row split)).basis

pub put-requires-clause-room : goal.put-requires-clause-room
put-requires-clause-room c =
    let split = last_taken c.loop-row.come.items c.pop.new.self.items c.in-Some.row c.pop.result c.in-Some.is c.pop.ensures.items in
    fits_one (length c.loop-row.come.items) 0 (room_of c.loop-row.rows) (some_length c.loop-row.come.items c.pop.new.self.items c.in-Some.row split)
    (row_fits c.loop-row.come.items c.pop.new.self.items c.in-Some.row split (room_of c.loop-row.rows) c.loop-row.invariant.room) c.in-Some.row
    (ready_is_grant (state_of c.loop-row.rows) [] c.in-Some.row (c.loop-row.invariant.ready c.in-Some.row (last_listed c.loop-row.come.items c.pop.new.self.items c.in-Some.row split)).basis)

pub loop-row-preserved : goal.loop-row-preserved
loop-row-preserved c =
    let split = last_taken c.loop-row.come.items c.pop.new.self.items c.in-Some.row c.pop.result c.in-Some.is c.pop.ensures.items in
    record {
      state = next_state (state_of c.loop-row.rows) (state_of c.put.new.self) c.loop-row.come.items c.pop.new.self.items c.in-Some.row split c.loop-row.invariant.ready c.put.ensures.state ∙ c.loop-row.invariant.state;
      ready = next_ready (state_of c.loop-row.rows) (state_of c.put.new.self) c.loop-row.come.items c.pop.new.self.items c.in-Some.row split c.loop-row.invariant.ready c.put.ensures.state;
      room = next_room c.loop-row.come.items c.pop.new.self.items c.in-Some.row split (room_of c.loop-row.rows) (room_of c.put.new.self) c.loop-row.invariant.room c.put.ensures.room;
      lost = lost_more (length c.args.come.items) c.loop-row.come.items c.pop.new.self.items c.in-Some.row split (room_of c.args.rows.now) (room_of c.loop-row.rows) (room_of c.put.new.self) c.loop-row.invariant.fewer c.loop-row.invariant.lost c.put.ensures.room;
      fewer = fewer_left (length c.args.come.items) c.loop-row.come.items c.pop.new.self.items c.in-Some.row split c.loop-row.invariant.fewer;
    }

pub returns-clause-state : goal.returns-clause-state
returns-clause-state c =
    let none = nothing_left c.loop-row.come.items c.pop.result c.in_default.is (subst (λ n. IsSome c.pop.result ↔ (0 < n)) c.loop-row.come.ok.0 c.pop.ensures.variant) in
    sym (with_none (state_of c.loop-row.rows)) ∙ ap (λ rows. with_rows rows (state_of c.loop-row.rows)) (sym none) ∙ c.loop-row.invariant.state

pub returns-clause-room : goal.returns-clause-room
returns-clause-room c = lost_all (length c.args.come.items) (length c.loop-row.come.items) (room_of c.args.rows.now) (room_of c.loop-row.rows) c.loop-row.invariant.lost
