use Rattle.std.proofs.Common.{◌∙◌, ap, sym}
use Rattle.std.proofs.lemmas.Option.{get_or_from_slice_get}
use Rattle.held_bits.proofs.Clearing.{none_of}
use Rattle.held_bits.proofs.held_bits.HeldBits.place_of.Goals as goal

pub returns-in_default-clause-none : goal.returns-in_default-clause-none
returns-in_default-clause-none g c =
    none_of c.args.self.now.entries c.args.holder c.first_of-place.result c.first_of-place.ensures c.is_sound.ensures.ordered
    (λ d there e. c.if-other-holder.false
    (ap (λ x. x.holder) (sym (get_or_from_slice_get c.args.self.now.entries c.first_of-place.result _ d c.in-Some.ensures.entry)) ∙ e))
