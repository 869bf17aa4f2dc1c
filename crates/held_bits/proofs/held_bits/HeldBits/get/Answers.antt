use Rattle.std.proofs.Common.{◌≤◌, ap, sym, length, arith, Option, Some, None}
use Rattle.std.specs.Option.{IfNone}
use Rattle.held_bits.proofs.Changes.{held_length}
use Rattle.held_bits.proofs.Sound.{entry_is}
use Rattle.held_bits.proofs.held_bits.HeldBits.get.Goals as goal

at_none : {X : Type 0} (P : Type 0) (r : Option X) → P → IfNone r P
at_none P None holds = holds
at_none P (Some x) holds = tt

pub returns-in_err-record-clause-none : goal.returns-in_err-record-clause-none
returns-in_err-record-clause-none g c =
    let s = c.self.inside in
    at_none (length c.args.self.now.entries ≤ c.args.place) c.from_residual.result
    (omega (
      arith,
      c.in_err-record.ensures.lookup.3,
      ap length c.deref.ensures.value,
      held_length g.K.PartialEq.eq s.things.names s.records.items s.uses.items c.self.invariant,
      ap (λ v. length v.entries) c.self.view_is,
    ))

pub returns-clause-entry : goal.returns-clause-entry
returns-clause-entry g c =
    let s = c.self.inside in
    let read = rw c.deref.ensures.value at c.in_ok-record.ensures.lookup.3 in
    rw (← c.self.view_is)
    (entry_is g.K.PartialEq.eq s.things.names s.records.items s.uses.items c.self.invariant c.args.place c.in_ok-record.record.now
    c.in_ok-thing.thing.now read.0 (λ d. sym (read.1 d)) (sym c.in_ok-thing.ensures))
