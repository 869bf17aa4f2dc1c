use Rattle.std.proofs.Common.{◌∙◌, ◌+◌, length, subst, refl, arith}
use Rattle.acl_model.specs.State.{State}
use Rattle.acl_model.specs.Acceptance.{limits_in_order}
use Rattle.acl_model.specs.Counts.{IsExceeded}
use Rattle.acl_model.specs.Firsts.{HasNone, IsFirst}
use Rattle.std.proofs.lemmas.Result.{on_ok_weaker}
use Rattle.row_tables.specs.Lists.{IsReadyAmong, with_rows, without_rows}
use Rattle.row_tables.specs.Rooms.{room_of}
use Rattle.row_tables.specs.Tables.{state_of}
use Rattle.row_edits.proofs.Limiting.{if_err_weaker}
use Rattle.row_edits.proofs.Trials.{all_back, back_ready, come_closed, come_gone, fits_fewer, fits_then, options_ready, parts_come, parts_fit, plain_ready}
use Rattle.row_edits.proofs.tried.limits_after.Goals as goal

pub edit-requires-clause-closed : goal.edit-requires-clause-closed
edit-requires-clause-closed c = c.requires.tried.closed

pub edit-requires-clause-plain : goal.edit-requires-clause-plain
edit-requires-clause-plain c =
    plain_ready (without_rows c.args.gone.now (state_of c.args.rows.now)) c.args.come.now c.requires.tried.ready c.args.there.plain.items c.args.there.options.items c.requires.there.plain c.requires.there.options
    (without_rows c.args.gone.now (state_of c.args.rows.now)) refl

pub edit-requires-clause-options : goal.edit-requires-clause-options
edit-requires-clause-options c =
    options_ready (without_rows c.args.gone.now (state_of c.args.rows.now)) c.args.come.now c.requires.tried.ready c.args.there.plain.items c.args.there.options.items c.requires.there.plain c.requires.there.options
    (without_rows c.args.gone.now (state_of c.args.rows.now)) refl

pub edit-requires-clause-room : goal.edit-requires-clause-room
edit-requires-clause-room c =
    fits_fewer (length c.args.there.plain.items + length c.args.there.options.items) (length c.args.come.now + length c.args.gone.now) (room_of c.args.rows.now)
    (omega (arith, parts_fit (without_rows c.args.gone.now (state_of c.args.rows.now)) c.args.come.now c.requires.tried.ready c.args.there.plain.items c.args.there.options.items c.requires.there.plain c.requires.there.options))
    c.requires.room

pub edit-requires-2-clause-closed : goal.edit-requires-2-clause-closed
edit-requires-2-clause-closed c =
    come_closed (state_of c.args.rows.now) c.args.gone.now c.args.come.now c.requires.tried c.requires.new c.rows_have_levels.ensures c.rows_name_accounts.ensures c.options_stand_beside.ensures.privileges
    (state_of c.edit.new.rows)
    (c.edit.ensures.state
    ∙ parts_come (without_rows c.args.gone.now (state_of c.args.rows.now)) c.args.come.now c.requires.tried.ready c.args.there.plain.items c.args.there.options.items c.requires.there.plain c.requires.there.options
    (without_rows c.args.gone.now (state_of c.args.rows.now)) refl)

pub edit-requires-2-clause-plain : goal.edit-requires-2-clause-plain
edit-requires-2-clause-plain c =
    plain_ready (without_rows c.args.gone.now (state_of c.args.rows.now)) c.args.gone.now
    (back_ready (state_of c.args.rows.now) c.args.gone.now c.args.come.now c.requires.tried c.requires.new c.rows_have_levels.ensures c.rows_name_accounts.ensures c.options_stand_beside.ensures.privileges)
    c.args.back.plain.items c.args.back.options.items c.requires.back.plain c.requires.back.options
    (without_rows c.args.come.now (state_of c.edit.new.rows))
    (come_gone (state_of c.args.rows.now) c.args.gone.now c.args.come.now c.requires.tried c.requires.new (state_of c.edit.new.rows)
    (c.edit.ensures.state
    ∙ parts_come (without_rows c.args.gone.now (state_of c.args.rows.now)) c.args.come.now c.requires.tried.ready c.args.there.plain.items c.args.there.options.items c.requires.there.plain c.requires.there.options
    (without_rows c.args.gone.now (state_of c.args.rows.now)) refl))

pub edit-requires-2-clause-options : goal.edit-requires-2-clause-options
edit-requires-2-clause-options c =
    options_ready (without_rows c.args.gone.now (state_of c.args.rows.now)) c.args.gone.now
    (back_ready (state_of c.args.rows.now) c.args.gone.now c.args.come.now c.requires.tried c.requires.new c.rows_have_levels.ensures c.rows_name_accounts.ensures c.options_stand_beside.ensures.privileges)
    c.args.back.plain.items c.args.back.options.items c.requires.back.plain c.requires.back.options
    (without_rows c.args.come.now (state_of c.edit.new.rows))
    (come_gone (state_of c.args.rows.now) c.args.gone.now c.args.come.now c.requires.tried c.requires.new (state_of c.edit.new.rows)
    (c.edit.ensures.state
    ∙ parts_come (without_rows c.args.gone.now (state_of c.args.rows.now)) c.args.come.now c.requires.tried.ready c.args.there.plain.items c.args.there.options.items c.requires.there.plain c.requires.there.options
    (without_rows c.args.gone.now (state_of c.args.rows.now)) refl))

pub edit-requires-2-clause-room : goal.edit-requires-2-clause-room
edit-requires-2-clause-room c =
    fits_then (length c.args.come.now) (length c.args.gone.now) (length c.args.there.plain.items + length c.args.there.options.items) (length c.args.back.plain.items + length c.args.back.options.items)
    (room_of c.args.rows.now) (room_of c.edit.new.rows) c.requires.room c.edit.ensures.room
    (parts_fit (without_rows c.args.gone.now (state_of c.args.rows.now)) c.args.come.now c.requires.tried.ready c.args.there.plain.items c.args.there.options.items c.requires.there.plain c.requires.there.options)
    (parts_fit (without_rows c.args.gone.now (state_of c.args.rows.now)) c.args.gone.now
    (back_ready (state_of c.args.rows.now) c.args.gone.now c.args.come.now c.requires.tried c.requires.new c.rows_have_levels.ensures c.rows_name_accounts.ensures c.options_stand_beside.ensures.privileges)
    c.args.back.plain.items c.args.back.options.items c.requires.back.plain c.requires.back.options)

pub returns-clause-kept : goal.returns-clause-kept
returns-clause-kept c =
    all_back (state_of c.args.rows.now) c.args.gone.now c.args.come.now c.requires.tried c.requires.new c.rows_have_levels.ensures c.rows_name_accounts.ensures c.options_stand_beside.ensures.privileges
    (with_rows c.args.come.now (without_rows c.args.gone.now (state_of c.args.rows.now))) (state_of c.edit-2.new.rows) refl
    (c.edit-2.ensures.state
    ∙ parts_come (without_rows c.args.gone.now (state_of c.args.rows.now)) c.args.gone.now
    (back_ready (state_of c.args.rows.now) c.args.gone.now c.args.come.now c.requires.tried c.requires.new c.rows_have_levels.ensures c.rows_name_accounts.ensures c.options_stand_beside.ensures.privileges)
    c.args.back.plain.items c.args.back.options.items c.requires.back.plain c.requires.back.options
    (without_rows c.args.come.now (state_of c.edit.new.rows))
    (come_gone (state_of c.args.rows.now) c.args.gone.now c.args.come.now c.requires.tried c.requires.new (state_of c.edit.new.rows)
    (c.edit.ensures.state
    ∙ parts_come (without_rows c.args.gone.now (state_of c.args.rows.now)) c.args.come.now c.requires.tried.ready c.args.there.plain.items c.args.there.options.items c.requires.there.plain c.requires.there.options
    (without_rows c.args.gone.now (state_of c.args.rows.now)) refl)))

pub returns-clause-ok : goal.returns-clause-ok
returns-clause-ok c =
    on_ok_weaker c.within_limits-within.result
    (subst (λ (st : State). HasNone (IsExceeded st) limits_in_order)
    (c.edit.ensures.state
    ∙ parts_come (without_rows c.args.gone.now (state_of c.args.rows.now)) c.args.come.now c.requires.tried.ready c.args.there.plain.items c.args.there.options.items c.requires.there.plain c.requires.there.options
    (without_rows c.args.gone.now (state_of c.args.rows.now)) refl))
    c.within_limits-within.ensures.ok

pub returns-clause-err : goal.returns-clause-err
returns-clause-err c =
    if_err_weaker c.within_limits-within.result _ _
    (λ what. subst (λ (st : State). IsFirst (IsExceeded st) limits_in_order what)
    (c.edit.ensures.state
    ∙ parts_come (without_rows c.args.gone.now (state_of c.args.rows.now)) c.args.come.now c.requires.tried.ready c.args.there.plain.items c.args.there.options.items c.requires.there.plain c.requires.there.options
    (without_rows c.args.gone.now (state_of c.args.rows.now)) refl))
    c.within_limits-within.ensures.err
