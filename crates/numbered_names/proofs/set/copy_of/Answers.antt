use Rattle.std.proofs.Common.{◌<◌, sym, subst, length, arith}
use Rattle.std.specs.List.{IsDistinct}
use Rattle.numbered_names.proofs.Copies.{copied_more}
use Rattle.numbered_names.proofs.set.copy_of.Goals as goal

pub loop-name-preserved : goal.loop-name-preserved
loop-name-preserved g c =
    let items = c.as_slice-name-items.result.now in
    let within : c.loop-name.name-index < length items = omega arith in
    copied_more g.K.PartialEq.eq g.met.K.Eq.laws items
    (subst (IsDistinct g.K.PartialEq.eq) (sym c.as_slice-name-items.ensures.keys) c.as_slice-name-items.ensures.unique)
    c.loop-name.name-index c.name-item.result within c.name-item.is
    c.loop-name.made.keys c.insert.new.self.keys c.in_ok-copied.field-0 c.loop-name.invariant c.in_ok-copied.ensures c.in_ok-insert.ensures.keys
