use Rattle.std.proofs.Common.{◌≡◌, ◌∙◌, ◌==◌, ap, refl, sym, true, false, List}
use Rattle.std.proofs.lemmas.Bool.{and_from, eq-eqb}
use Rattle.held_bits.specs.declared.bits.Bits.{Bits}
use Rattle.held_bits.specs.Bits.{are_none}
use Rattle.held_bits.specs.HeldBits.{Entry, bits_at}
use Rattle.object_bits.specs.Keys.{on_objects}
use Rattle.object_bits.specs.Kept.{only_granted}
use Rattle.object_bits.specs.Objects.{same_object}
use Rattle.object_bits.specs.Seen.{seen}
use Rattle.object_bits.specs.declared.object.Object.{Object}
use Rattle.object_bits.proofs.Moves.{IsMoved, changed, cleared, kept_names, unchanged}
use Rattle.object_bits.proofs.Objects.{bits_known, bits_new}
use Rattle.object_bits.proofs.object_bits.ObjectBits.change.Goals as goal

held_some : (b : Bits) (found : Bits) → found ≡ b → false ≡ are_none found → are_none b ≡ false
held_some b found same some = ap are_none (sym same) ∙ sym some

held_none : (b : Bits) (found : Bits) → found ≡ b → true ≡ are_none found → are_none b ≡ true
held_none b found same none = ap are_none (sym same) ∙ sym none

then_moved : (c : goal.After-give_back_key) →
    IsMoved c.args.self.now.entries (on_objects c.give_back_key.new.names.names c.replace_bits.new.bits.entries) c.args.holder (seen c.args.object)
    (only_granted c.args.granted)
then_moved c =
    let s = c.self.inside in
    cleared s.names.names s.names.uses s.bits.entries c.replace_bits.new.bits.entries c.args.self.now.entries c.args.holder (seen c.args.object) c.in-Some.key
    (only_granted c.args.granted) (ap (λ v. v.entries) c.self.view_is) c.are_counted.ensures.counted c.are_counted.ensures.once c.self.invariant
    c.in-Some.ensures.some c.replace_bits.ensures.set (held_some _ c.bits_of.result c.bits_of.ensures c.if-not-are_none.ensures.is)
    c.give_back_key.new.names.names c.give_back_key.new.names.uses
    (and_from (c.args.granted == 0) (0 == 0) (eq-eqb c.args.granted 0 c.if-granted-eq0.true) refl)
    c.give_back_key.ensures.uses c.give_back_key.ensures.kept

pub returns-then-granted-eq0-clause-bits : goal.returns-then-granted-eq0-clause-bits
returns-then-granted-eq0-clause-bits c = (then_moved c).sets

pub returns-then-granted-eq0-clause-count : goal.returns-then-granted-eq0-clause-count
returns-then-granted-eq0-clause-count c = (then_moved c).count

pub returns-else-granted-eq0-clause-bits : goal.returns-else-granted-eq0-clause-bits
returns-else-granted-eq0-clause-bits c =
    let s = c.self.inside in
    (changed s.names.names s.names.uses s.bits.entries c.replace_bits.new.bits.entries c.args.self.now.entries c.args.holder (seen c.args.object) c.in-Some.key
    (only_granted c.args.granted) (ap (λ v. v.entries) c.self.view_is) c.are_counted.ensures.counted c.are_counted.ensures.once c.self.invariant
    c.in-Some.ensures.some c.replace_bits.ensures.set (held_some _ c.bits_of.result c.bits_of.ensures c.if-not-are_none.ensures.is)).sets

stays : (c : goal.Else-not-are_none) → IsMoved c.args.self.now.entries c.args.self.now.entries c.args.holder (seen c.args.object) (only_granted c.args.granted)
stays c =
    let s = c.self.inside in
    let o = seen c.args.object in
    unchanged c.args.self.now.entries c.args.holder o (only_granted c.args.granted)
    (ap (λ (es : List (Entry Object)). are_none (bits_at same_object es c.args.holder o)) (sym (ap (λ v. v.entries) c.self.view_is))
    ∙ ap are_none (bits_known s.names.names c.are_counted.ensures.once s.bits.entries
    (kept_names s.names.names s.names.uses s.bits.entries c.are_counted.ensures.counted c.self.invariant)
    c.args.holder o c.in-Some.key c.in-Some.ensures.some)
    ∙ held_none _ c.bits_of.result c.bits_of.ensures c.if-not-are_none.ensures.is)
    c.requires

pub returns-else-not-are_none-clause-bits : goal.returns-else-not-are_none-clause-bits
returns-else-not-are_none-clause-bits c = (stays c).sets

pub returns-else-not-are_none-clause-count : goal.returns-else-not-are_none-clause-count
returns-else-not-are_none-clause-count c = (stays c).count

absent : (c : goal.In_default) → IsMoved c.args.self.now.entries c.args.self.now.entries c.args.holder (seen c.args.object) (only_granted c.args.granted)
absent c =
    let s = c.self.inside in
    let o = seen c.args.object in
    unchanged c.args.self.now.entries c.args.holder o (only_granted c.args.granted)
    (ap (λ (es : List (Entry Object)). are_none (bits_at same_object es c.args.holder o)) (sym (ap (λ v. v.entries) c.self.view_is))
    ∙ ap are_none (bits_new s.names.names s.bits.entries
    (kept_names s.names.names s.names.uses s.bits.entries c.are_counted.ensures.counted c.self.invariant)
    c.args.holder o c.in_default.ensures.none))
    c.requires

pub returns-in_default-clause-bits : goal.returns-in_default-clause-bits
returns-in_default-clause-bits c = (absent c).sets

pub returns-in_default-clause-count : goal.returns-in_default-clause-count
returns-in_default-clause-count c = (absent c).count
