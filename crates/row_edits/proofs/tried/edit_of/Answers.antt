use Rattle.std.proofs.Common.{length, refl}
use Rattle.row_tables.specs.Lists.{without_rows}
use Rattle.row_tables.specs.Rooms.{room_of}
use Rattle.row_tables.specs.Tables.{state_of}
use Rattle.row_edits.specs.Edits.{edited}
use Rattle.row_edits.proofs.Trials.{edit_made, fits_none, fits_reserved, parts_come}
use Rattle.row_edits.proofs.tried.edit_of.Goals as goal

pub returns-clause-edit : goal.returns-clause-edit
returns-clause-edit c =
    edit_made (state_of c.args.rows.now) c.args.gone.items c.args.come.now c.requires
    (record { gone = c.args.gone; plain = c.in_ok-parts.parts.plain; options = c.in_ok-parts.parts.options }) c.reserve.new.self
    c.in_ok-reserve.ensures.state c.in_ok-parts.ensures.plain c.in_ok-parts.ensures.options refl
    (fits_reserved (length c.args.come.now) c.in_ok-room_for.field-0 (room_of c.reserve.new.self) (fits_none c.args.come.now c.in_ok-room_for.field-0 c.in_ok-room_for.ensures) c.in_ok-reserve.ensures.ok)

pub returns-clause-change : goal.returns-clause-change
unfolding edited
returns-clause-change c =
    parts_come (without_rows c.args.gone.items (state_of c.args.rows.now)) c.args.come.now c.requires.ready c.in_ok-parts.parts.plain.items c.in_ok-parts.parts.options.items
    c.in_ok-parts.ensures.plain c.in_ok-parts.ensures.options (without_rows c.args.gone.items (state_of c.args.rows.now)) refl
