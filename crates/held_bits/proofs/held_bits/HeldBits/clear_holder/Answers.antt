use Rattle.held_bits.proofs.Clearing.{cleared, holds_less_next, some_entry}
use Rattle.held_bits.proofs.held_bits.HeldBits.clear_holder.Goals as goal

pub loop-place-preserved : goal.loop-place-preserved
loop-place-preserved g c =
    holds_less_next g.K.PartialEq.eq g.met.K.Eq.laws c.args.self.now c.loop-place.self c.replace_at.new.self c.args.holder c.in-Some.place
    c.loop-place.invariant c.is_sound.ensures c.in-Some.ensures.is (rw c.none.ensures.is at c.replace_at.ensures.entry)
    c.replace_at.ensures.record_room c.replace_at.ensures.thing_room
    (some_entry c.loop-place.self.entries c.in-Some.place c.in-Some.ensures.is.inside)

pub returns-clause-holder : goal.returns-clause-holder
returns-clause-holder g c =
    cleared g.K.PartialEq.eq c.args.self.now c.loop-place.self c.args.holder c.loop-place.invariant c.in_default.ensures.none
