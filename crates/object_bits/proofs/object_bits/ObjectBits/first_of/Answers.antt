use Rattle.std.proofs.Common.{ap, subst, List}
use Rattle.held_bits.specs.HeldBits.{Entry, IsFirstOf}
use Rattle.object_bits.specs.declared.object.Object.{Object}
use Rattle.object_bits.proofs.Readings.{first_moved}
use Rattle.object_bits.proofs.object_bits.ObjectBits.first_of.Goals as goal

pub returns : goal.returns
returns c =
    let s = c.self.inside in
    subst (λ (es : List (Entry Object)). IsFirstOf es c.args.holder c.first_of.result) (ap (λ v. v.entries) c.self.view_is)
    (first_moved s.names.names s.bits.entries c.args.holder c.first_of.result c.first_of.ensures)
