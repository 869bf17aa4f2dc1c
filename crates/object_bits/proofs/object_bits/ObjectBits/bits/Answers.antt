use Rattle.std.proofs.Common.{◌∙◌, ap, sym, List}
use Rattle.held_bits.specs.declared.bits.Bits.{Bits}
use Rattle.held_bits.specs.HeldBits.{Entry, bits_at}
use Rattle.object_bits.specs.Objects.{same_object}
use Rattle.object_bits.specs.Seen.{seen}
use Rattle.object_bits.specs.declared.object.Object.{Object}
use Rattle.object_bits.proofs.Moves.{kept_names}
use Rattle.object_bits.proofs.Objects.{bits_known, bits_new}
use Rattle.object_bits.proofs.object_bits.ObjectBits.bits.Goals as goal

pub returns-in-Some : goal.returns-in-Some
returns-in-Some c =
    let s = c.self.inside in
    let o = seen c.args.object in
    record {
      is = ap (λ (b : Bits). b.granted)
          (c.bits_of.ensures
          ∙ sym (bits_known s.names.names c.are_counted.ensures.once s.bits.entries
          (kept_names s.names.names s.names.uses s.bits.entries c.are_counted.ensures.counted c.self.invariant)
          c.args.holder o c.in-Some.key c.in-Some.ensures.some)
          ∙ ap (λ (es : List (Entry Object)). bits_at same_object es c.args.holder o) (ap (λ v. v.entries) c.self.view_is));
    }

pub returns-in-None : goal.returns-in-None
returns-in-None c =
    let s = c.self.inside in
    let o = seen c.args.object in
    record {
      is = ap (λ (b : Bits). b.granted)
          (sym (bits_new s.names.names s.bits.entries
          (kept_names s.names.names s.names.uses s.bits.entries c.are_counted.ensures.counted c.self.invariant)
          c.args.holder o c.in-None.ensures.none)
          ∙ ap (λ (es : List (Entry Object)). bits_at same_object es c.args.holder o) (ap (λ v. v.entries) c.self.view_is));
    }
