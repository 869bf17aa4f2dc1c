use Rattle.std.proofs.Common.{◌≡◌, ◌∙◌, ◌+◌, Bool, true, ap, length, subst, sym}
use Rattle.std.specs.List.{list_any}
use Rattle.held_bits.specs.HeldBits.{is_on}
use Rattle.held_bits.specs.declared.bits.Bits.{Bits}
use Rattle.held_bits.specs.Bits.{record_count}
use Rattle.object_bits.specs.Kept.{only_granted}
use Rattle.object_bits.specs.declared.key.Key.{Key}
use Rattle.object_bits.specs.contracts.key.KeyPartialEq.TheImpl.{eq-value}
use Rattle.object_bits.proofs.SameKeys.{derived_is}
use Rattle.object_bits.proofs.Sets.{is_set}
use Rattle.object_bits.proofs.held.set_bits.Goals as goal

pub returns-clause-set : goal.returns-clause-set
returns-clause-set c =
    is_set eq-value.it derived_is c.args.bits.now.entries c.set.new.self.entries c.args.holder c.args.key (only_granted c.args.granted)
    c.is_sound.ensures c.is_sound-2.ensures (rw (← c.only_granted.ensures) c.set.ensures.bits)
    (c.set.ensures.count ∙ ap (λ (b : Bits). length c.args.bits.now.entries + record_count b) c.only_granted.ensures)

pub returns-clause-known_thing : goal.returns-clause-known_thing
returns-clause-known_thing c = λ known.
    c.set.ensures.known_thing
    (subst (λ (e : Key → Key → Bool). list_any (is_on e c.args.key) c.args.bits.now.entries ≡ true) (sym derived_is) known)
