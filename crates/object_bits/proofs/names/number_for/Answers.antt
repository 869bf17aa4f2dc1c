use Rattle.std.proofs.Common.{refl}
use Rattle.acl_names.specs.Text.{text_eq}
use Rattle.held_bits.proofs.Changes.{name_used, used_within}
use Rattle.object_bits.proofs.names.number_for.Goals as goal

pub returns-in-Some-clause-within : goal.returns-in-Some-clause-within
returns-in-Some-clause-within c =
    let us = c.args.uses.now.items in
    used_within us c.in-Some.number
    (name_used text_eq c.args.names.now.names us c.requires.counted.stands c.in-Some.number c.args.name
    ((c.in-Some.ensures.number c.in-Some.number).0 refl))
