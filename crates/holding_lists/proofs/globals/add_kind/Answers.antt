use Rattle.std.proofs.Common.{◌∙◌, ap, sym, refl}
use Rattle.account_holdings.specs.declared.holding.Holding.TheVariants.{OnAll}
use Rattle.holding_lists.specs.Additions.{is_on_all}
use Rattle.holding_lists.proofs.Sets.{all_bits, bit_pushed, bit_skipped, is_global}
use Rattle.holding_lists.proofs.globals.add_kind.Goals as goal
use Rattle.holding_lists.proofs.globals.add_kind.Goals.{then-has_bit+in_ok-push, else-has_bit}

pub loop-privilege-preserved : goal.loop-privilege-preserved
loop-privilege-preserved c =
    let n = c.loop-privilege.privilege in
    elim c.if-has_bit.branch [
      | then-has_bit+in_ok-push w ↦
          bit_pushed (is_on_all c.args.kind c.args.account) c.args.set n (OnAll c.args.kind c.args.account n) _ c.args.list.now.items c.loop-privilege.list.items c.if-has_bit.list.items
          (is_global c.args.kind c.args.account n) (refl)
          (ap (λ v. v.items) w.list-is ∙ w.in_ok-push.ensures.items) (sym c.has_bit.ensures ∙ w.if-has_bit.true) c.loop-privilege.invariant
      | else-has_bit w ↦
          bit_skipped (is_on_all c.args.kind c.args.account) c.args.set n c.args.list.now.items c.loop-privilege.list.items c.if-has_bit.list.items
          (ap (λ v. v.items) w.list-is) (sym c.has_bit.ensures ∙ w.if-has_bit.false) c.loop-privilege.invariant
    ]

pub returns : goal.returns
returns c =
    all_bits (is_on_all c.args.kind c.args.account) c.args.set c.loop-privilege.privilege c.args.list.now.items c.loop-privilege.list.items c.ranges.set.fits
    c.loop-privilege-test.false c.loop-privilege.invariant
