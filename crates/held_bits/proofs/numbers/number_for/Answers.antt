use Rattle.std.proofs.Common.{refl, arith}
use Rattle.held_bits.proofs.Changes.{name_used, used_within}
use Rattle.held_bits.proofs.numbers.number_for.Goals as goal

pub returns-in-Some-clause-within : goal.returns-in-Some-clause-within
returns-in-Some-clause-within g c =
    let us = c.args.uses.now.items in
    omega (
      arith,
      used_within us c.in-Some.number
          (name_used g.K.PartialEq.eq c.args.things.now.names us c.requires.stands c.in-Some.number c.args.thing ((c.in-Some.ensures.number c.in-Some.number).0 refl)),
    )
