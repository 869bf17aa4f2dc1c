use Rattle.std.proofs.Common.{◌∙◌, ◌+◌, ap, length}
use Rattle.held_bits.specs.declared.bits.Bits.{Bits}
use Rattle.held_bits.specs.Bits.{record_count}
use Rattle.object_bits.specs.Kept.{only_granted}
use Rattle.object_bits.specs.contracts.key.KeyPartialEq.TheImpl.{eq-value}
use Rattle.object_bits.proofs.SameKeys.{derived_is}
use Rattle.object_bits.proofs.Sets.{is_set}
use Rattle.object_bits.proofs.held.replace_bits.Goals as goal

pub returns-clause-set : goal.returns-clause-set
returns-clause-set c =
    is_set eq-value.it derived_is c.args.bits.now.entries c.replace.new.self.entries c.args.holder c.args.key (only_granted c.args.granted)
    c.is_sound.ensures c.is_sound-2.ensures (rw (← c.only_granted.ensures) c.replace.ensures.bits)
    (c.replace.ensures.count ∙ ap (λ (b : Bits). length c.args.bits.now.entries + record_count b) c.only_granted.ensures)
