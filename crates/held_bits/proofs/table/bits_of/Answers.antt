use Rattle.std.proofs.Common.{◌∙◌, sym}
use Rattle.held_bits.proofs.Tables.{bits_absent, bits_found, fits_absent, no_record}
use Rattle.held_bits.proofs.table.bits_of.Goals as goal

pub returns-in-Ok-clause-is : goal.returns-in-Ok-clause-is
returns-in-Ok-clause-is c =
    sym (bits_found c.args.records.now c.args.holder c.args.thing c.in-Ok.place c.requires c.in-Ok.ensures.stands no_record)

pub returns-in-Err-clause-is : goal.returns-in-Err-clause-is
returns-in-Err-clause-is c =
    c.none.ensures.is
    ∙ sym (bits_absent c.args.records.now c.args.holder c.args.thing
    (fits_absent c.args.records.now c.args.holder c.args.thing c.in-Err.field-0 c.in-Err.ensures.fits))
