use Rattle.std.proofs.Common.{◌≡◌, ◌<◌, ◌+◌, length, refl, arith}
use Rattle.std.proofs.lemmas.Result.{err_from_is_err_and}
use Rattle.row_tables.proofs.RoomLeft.{none_lost}
use Rattle.row_tables.specs.Rooms.{room_of}
use Rattle.row_tables.specs.Tables.{state_of}
use Rattle.account_edits.proofs.Renaming.{fault_of_part, lost_next, no_way, renamed_none, renames_fault, renames_step, way_more}
use Rattle.account_edits.proofs.rename.try_pairs.Goals as goal

pub loop-pair-init : goal.loop-pair-init
loop-pair-init c = record {
  count = c.requires.start;
  state = renamed_none (state_of c.args.rows.now);
  left = refl;
  way = no_way c.args.pairs.now (state_of c.args.rows.now);
  room = none_lost (room_of c.args.rows.now);
}

pub returns-in_err-rename_user-clause-err : goal.returns-in_err-rename_user-clause-err
returns-in_err-rename_user-clause-err c =
    let within : c.loop-pair.pair-index < length c.args.pairs.now = omega arith in
    let p = err_from_is_err_and c.from_residual.result c.from_residual.ensures.1 in
    rw (p.1, p.2)
    (fault_of_part _ _ (renames_fault (state_of c.args.rows.now) (state_of c.loop-pair.rows) c.args.pairs.now c.loop-pair.pair-index c.pair-item.result within c.pair-item.is c.loop-pair.invariant.left)
    c.in_err-rename_user.field-0.0 c.in_err-rename_user.ensures.err)

pub loop-pair-preserved : goal.loop-pair-preserved
loop-pair-preserved c =
    let within : c.loop-pair.pair-index < length c.args.pairs.now = omega arith in
    let step = renames_step (state_of c.args.rows.now) (state_of c.loop-pair.rows) (state_of c.rename_user.new.rows) c.args.pairs.now c.loop-pair.pair-index c.pair-item.result within c.pair-item.is
    c.in_ok-rename_user.ensures.ok c.in_ok-rename_user.ensures.step.legal (c.loop-pair.invariant.state, c.loop-pair.invariant.left) in
    record {
      count = omega (arith, c.loop-pair.invariant.count);
      state = step.0;
      left = step.1;
      way = way_more c.args.pairs.now c.loop-pair.pair-index (state_of c.args.rows.now) (state_of c.loop-pair.rows) c.pair-item.result within c.pair-item.is c.loop-pair.invariant.state
          c.in_ok-rename_user.ensures.step c.loop-pair.invariant.way;
      room = lost_next c.loop-pair.pair-index (room_of c.args.rows.now) (room_of c.loop-pair.rows) (room_of c.rename_user.new.rows) c.loop-pair.invariant.room c.in_ok-rename_user.ensures.room;
    }
