use Rattle.std.proofs.Common.{◌||◌}
use Rattle.std.proofs.lemmas.Result.{on_ok_weaker}
use Rattle.account_holdings.specs.declared.globals.GlobalKind.TheVariants.{Static, Dynamic, Grantable}
use Rattle.holding_lists.specs.Additions.{held_on_all, is_on_all, with_bit}
use Rattle.holding_lists.proofs.Additions.{adds_both, adds_same}
use Rattle.holding_lists.proofs.Readings.{kinds_together}
use Rattle.holding_lists.proofs.globals.add_globals.Goals as goal

pub returns : goal.returns
returns c =
    let bits = c.args.bits in
    let account = c.args.account in
    let old = c.args.list.now.items in
    let first = c.add_kind.new.list.items in
    let second = c.add_kind-2.new.list.items in
    let new = c.add_kind-3.new.list.items in
    on_ok_weaker c.add_kind-3.result
    (λ last.
    adds_same old new
    (λ h. (with_bit (is_on_all Static account) bits.fixed h || with_bit (is_on_all Dynamic account) bits.dynamic h) || with_bit (is_on_all Grantable account) bits.grantable h)
    (held_on_all bits account) (kinds_together bits account)
    (adds_both old second new
    (λ h. with_bit (is_on_all Static account) bits.fixed h || with_bit (is_on_all Dynamic account) bits.dynamic h) (with_bit (is_on_all Grantable account) bits.grantable)
    (adds_both old first second (with_bit (is_on_all Static account) bits.fixed) (with_bit (is_on_all Dynamic account) bits.dynamic) c.in_ok-add_kind.ensures c.in_ok-add_kind-2.ensures) last))
    c.add_kind-3.ensures
