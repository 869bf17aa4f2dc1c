use Rattle.std.proofs.Common.{◌≡◌, ◌∙◌, ap, sym, subst, List, slice_get, Some}
use Rattle.std.proofs.lemmas.Bool.{true≢false}
use Rattle.held_bits.specs.HeldBits.{Entry}
use Rattle.object_bits.specs.Kept.{only_granted}
use Rattle.object_bits.specs.Seen.{seen}
use Rattle.object_bits.specs.declared.object.Object.{Object}
use Rattle.object_bits.proofs.Moves.{kept_names}
use Rattle.object_bits.proofs.Readings.{entry_has_names, read_entry}
use Rattle.object_bits.proofs.object_bits.ObjectBits.get.Goals as goal

pub returns-in_err-object-clause-none : goal.returns-in_err-object-clause-none
returns-in_err-object-clause-none c =
    let s = c.self.inside in
    absurd (true≢false
    (sym (entry_has_names s.names.names s.bits.entries
    (kept_names s.names.names s.names.uses s.bits.entries c.are_counted.ensures.counted c.self.invariant)
    c.args.place c.in_ok-holder.holder c.in_ok-holder.key.now c.in_ok-holder.bits c.in_ok-holder.ensures.entry)
    ∙ c.in_err-object.ensures.none))

pub returns-clause-entry : goal.returns-clause-entry
returns-clause-entry c =
    let s = c.self.inside in
    subst (λ (es : List (Entry Object)). slice_get es c.args.place ≡
    Some (record { holder = c.in_ok-holder.holder; thing = seen c.in_ok-object.object; bits = only_granted c.in_ok-holder.bits.granted }))
    (ap (λ v. v.entries) c.self.view_is)
    (read_entry s.names.names s.bits.entries c.args.place c.in_ok-holder.holder c.in_ok-holder.key.now c.in_ok-holder.bits (seen c.in_ok-object.object)
    c.are_sound.ensures c.self.invariant.unrestricted c.in_ok-holder.ensures.entry c.in_ok-object.ensures.some)
