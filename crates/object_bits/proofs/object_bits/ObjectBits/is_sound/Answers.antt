use Rattle.std.proofs.Common.{◌≡◌, ap, subst, List}
use Rattle.std.specs.List.{All}
use Rattle.held_bits.specs.HeldBits.{Entry, IsSound}
use Rattle.object_bits.specs.Objects.{same_object}
use Rattle.object_bits.specs.declared.object.Object.{Object}
use Rattle.object_bits.proofs.Moves.{kept_names}
use Rattle.object_bits.proofs.Readings.{all_unrestricted, sound_moved}
use Rattle.object_bits.proofs.object_bits.ObjectBits.is_sound.Goals as goal

pub returns-clause-sound : goal.returns-clause-sound
returns-clause-sound c =
    let s = c.self.inside in
    subst (λ (es : List (Entry Object)). IsSound same_object es) (ap (λ v. v.entries) c.self.view_is)
    (sound_moved s.names.names s.bits.entries
    (kept_names s.names.names s.names.uses s.bits.entries c.are_counted.ensures.counted c.self.invariant)
    c.are_counted.ensures.once c.are_sound.ensures)

pub returns-clause-unrestricted : goal.returns-clause-unrestricted
returns-clause-unrestricted c =
    let s = c.self.inside in
    subst (λ (es : List (Entry Object)). All (λ (e : Entry Object). e.bits.restricted ≡ 0) es) (ap (λ v. v.entries) c.self.view_is)
    (all_unrestricted s.names.names s.bits.entries c.are_sound.ensures c.self.invariant.unrestricted)
