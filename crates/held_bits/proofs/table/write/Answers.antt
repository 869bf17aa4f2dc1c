use Rattle.std.proofs.Common.{ap, sym, arith}
use Rattle.held_bits.specs.Bits.{are_none}
use Rattle.held_bits.proofs.Tables.{bits_absent, fits_absent, no_record}
use Rattle.held_bits.proofs.Writes.{used, uses_few, written_same, written_in, written_in_place, written_out}
use Rattle.held_bits.proofs.table.write.Goals as goal

pub take_out-requires-clause-used : goal.take_out-requires-clause-used
take_out-requires-clause-used c =
    used c.args.records.now.items c.args.uses.now.items c.args.holder c.args.thing c.in-Ok.place c.args.bits c.requires.table c.requires.uses (omega arith)
    (rw c.deref.ensures.value at c.in-Ok.ensures.stands)

pub put_in-requires-clause-room : goal.put_in-requires-clause-room
put_in-requires-clause-room c =
    c.requires.room
    (ap are_none (bits_absent c.args.records.now.items c.args.holder c.args.thing
    (fits_absent c.args.records.now.items c.args.holder c.args.thing c.in-Err-2.place (rw c.deref.ensures.value at c.in-Err-2.ensures.fits))))
    (sym c.if-are_none-2.ensures.is)

pub put_in-requires-clause-few : goal.put_in-requires-clause-few
put_in-requires-clause-few c =
    let limit = c.requires.limit
    (ap are_none (bits_absent c.args.records.now.items c.args.holder c.args.thing
    (fits_absent c.args.records.now.items c.args.holder c.args.thing c.in-Err-2.place (rw c.deref.ensures.value at c.in-Err-2.ensures.fits))))
    (sym c.if-are_none-2.ensures.is) in
    omega (arith, limit, uses_few c.args.records.now.items c.args.uses.now.items c.args.thing c.requires.uses)

pub returns-in-Ok-clause-written : goal.returns-in-Ok-clause-written
returns-in-Ok-clause-written c =
    rw (c.take_out.ensures.items, c.take_out.ensures.uses)
    (written_out c.args.records.now.items c.args.uses.now.items c.args.holder c.args.thing c.in-Ok.place c.args.bits c.requires.table c.requires.uses
    (omega arith) (rw c.deref.ensures.value at c.in-Ok.ensures.stands) (sym c.if-are_none.ensures.is))

pub returns-in-Ok-2-clause-written : goal.returns-in-Ok-2-clause-written
returns-in-Ok-2-clause-written c =
    rw (c.overwrite.ensures.items no_record)
    (written_in_place c.args.records.now.items c.args.uses.now.items c.args.holder c.args.thing c.in-Ok.place c.args.bits c.requires.table c.requires.uses
    (omega arith) (rw c.deref.ensures.value at c.in-Ok.ensures.stands) (sym c.if-are_none.ensures.is)
    ((omega arith, omega arith), c.if-are_none.ensures.within) no_record)

pub returns-in-Err-clause-written : goal.returns-in-Err-clause-written
returns-in-Err-clause-written c =
    written_same c.args.records.now.items c.args.uses.now.items c.args.holder c.args.thing c.in-Err.field-0 c.args.bits c.requires.table c.requires.uses
    (omega arith) (rw c.deref.ensures.value at c.in-Err.ensures.fits) (sym c.if-are_none-2.ensures.is)

pub returns-in-Err-2-clause-written : goal.returns-in-Err-2-clause-written
returns-in-Err-2-clause-written c =
    rw (c.put_in.ensures.items, c.put_in.ensures.uses)
    (written_in c.args.records.now.items c.args.uses.now.items c.args.holder c.args.thing c.in-Err.field-0 c.args.bits c.requires.table c.requires.uses
    (omega arith) (rw c.deref.ensures.value at c.in-Err.ensures.fits) (sym c.if-are_none-2.ensures.is)
    ((omega arith, omega arith), c.if-are_none-2.ensures.within))
