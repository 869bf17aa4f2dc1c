use Rattle.entry_bytes.specs.Faults.{EntryFields}
use Rattle.entry_bytes.specs.Spelling.{IsHost, IsNumber, IsUser, number_bytes, short_text}
use Rattle.entry_reading.proofs.Faults.{deeper, handed_on}
use Rattle.entry_reading.proofs.Fronts.{no_caller, no_count, no_host, no_number, no_user}
use Rattle.entry_reading.specs.Faults.{IsAbsent}
use Rattle.entry_reading.proofs.front.front_at.Goals as goal

pub returns-in_err-caller-clause-err : goal.returns-in_err-caller-clause-err
returns-in_err-caller-clause-err c =
    handed_on (EntryFields c.args.bytes.now) c.from_residual.result c.in_err-caller.field-0.0 c.from_residual.ensures.1
    (deeper (IsAbsent number_bytes IsNumber c.args.bytes.now) (EntryFields c.args.bytes.now) c.in_err-caller.field-0.0
    (no_caller c.args.bytes.now) c.in_err-caller.ensures.err)

pub returns-in_err-number-clause-err : goal.returns-in_err-number-clause-err
returns-in_err-number-clause-err c =
    handed_on (EntryFields c.args.bytes.now) c.from_residual-in_err-number.result c.in_err-number.field-0.0 c.from_residual-in_err-number.ensures.1
    (deeper (IsAbsent number_bytes IsNumber c.in_ok-caller.behind_caller.now) (EntryFields c.args.bytes.now) c.in_err-number.field-0.0
    (no_number c.args.bytes.now c.in_ok-caller.behind_caller.now c.in_ok-caller.caller c.in_ok-caller.ensures.fits c.in_ok-caller.ensures.found) c.in_err-number.ensures.err)

pub returns-in_err-user-clause-err : goal.returns-in_err-user-clause-err
returns-in_err-user-clause-err c =
    handed_on (EntryFields c.args.bytes.now) c.from_residual-in_err-user.result c.in_err-user.field-0.0 c.from_residual-in_err-user.ensures.1
    (deeper (IsAbsent short_text IsUser c.in_ok-number.behind_number.now) (EntryFields c.args.bytes.now) c.in_err-user.field-0.0
    (no_user c.args.bytes.now c.in_ok-caller.behind_caller.now c.in_ok-number.behind_number.now c.in_ok-caller.caller c.in_ok-number.number
    c.in_ok-caller.ensures.fits c.in_ok-caller.ensures.found c.in_ok-number.ensures.fits c.in_ok-number.ensures.found) c.in_err-user.ensures.err)

pub returns-in_err-host-clause-err : goal.returns-in_err-host-clause-err
returns-in_err-host-clause-err c =
    handed_on (EntryFields c.args.bytes.now) c.from_residual-in_err-host.result c.in_err-host.field-0.0 c.from_residual-in_err-host.ensures.1
    (deeper (IsAbsent short_text IsHost c.in_ok-user.behind_user.now) (EntryFields c.args.bytes.now) c.in_err-host.field-0.0
    (no_host c.args.bytes.now c.in_ok-caller.behind_caller.now c.in_ok-number.behind_number.now c.in_ok-user.behind_user.now c.in_ok-caller.caller c.in_ok-number.number c.in_ok-user.user
    c.in_ok-caller.ensures.fits c.in_ok-caller.ensures.found c.in_ok-number.ensures.fits c.in_ok-number.ensures.found c.in_ok-user.ensures.within c.in_ok-user.ensures.found)
    c.in_err-host.ensures.err)

pub returns-in_err-count-clause-err : goal.returns-in_err-count-clause-err
returns-in_err-count-clause-err c =
    handed_on (EntryFields c.args.bytes.now) c.from_residual-in_err-count.result c.in_err-count.field-0.0 c.from_residual-in_err-count.ensures.1
    (deeper (IsAbsent number_bytes IsNumber c.in_ok-host.behind_host.now) (EntryFields c.args.bytes.now) c.in_err-count.field-0.0
    (no_count c.args.bytes.now c.in_ok-caller.behind_caller.now c.in_ok-number.behind_number.now c.in_ok-user.behind_user.now c.in_ok-host.behind_host.now
    c.in_ok-caller.caller c.in_ok-number.number c.in_ok-user.user c.in_ok-host.host
    c.in_ok-caller.ensures.fits c.in_ok-caller.ensures.found c.in_ok-number.ensures.fits c.in_ok-number.ensures.found c.in_ok-user.ensures.within c.in_ok-user.ensures.found
    c.in_ok-host.ensures.within c.in_ok-host.ensures.found) c.in_err-count.ensures.err)
