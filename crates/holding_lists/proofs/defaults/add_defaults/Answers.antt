use Rattle.std.proofs.Common.{ap, arith}
use Rattle.account_holdings.specs.Holdings.{same_holding}
use Rattle.account_holdings.specs.declared.holding.Holding.TheVariants.{Default}
use Rattle.holding_lists.specs.Additions.{defaults_held}
use Rattle.holding_lists.specs.Said.{default_says}
use Rattle.holding_lists.proofs.Additions.{adds_one, adds_same}
use Rattle.holding_lists.proofs.Entries.{all_said, entry_said, none_said}
use Rattle.holding_lists.proofs.RolesSaid.{default_pushed, defaults_read}
use Rattle.holding_lists.proofs.defaults.add_defaults.Goals as goal
use Rattle.holding_lists.proofs.defaults.add_defaults.Goals.{in-Some+in_ok-push, in_default}

pub loop-place-init : goal.loop-place-init
loop-place-init c =
    none_said default_says c.args.held.now.entries c.args.account c.first_of-place.result c.args.list.now.items c.first_of-place.ensures

pub loop-place-preserved : goal.loop-place-preserved
loop-place-preserved c = elim c.match-get.branch [
  | in-Some+in_ok-push w ↦
      let account = c.args.account in
      let role = w.in-Some.role.now in
      let bits = w.in-Some.field-0-2 in
      let list = c.loop-place.list.items in
      let new = w.push.new.self.items in
      entry_said default_says c.args.held.now.entries account c.loop-place.place c.first_of-place.result c.first_of-place-end.result
      w.in-Some.field-0-0 role bits c.args.list.now.items list new c.match-get.list.items
      c.first_of-place.ensures c.first_of-place-end.ensures c.loop-place.auto.place c.loop-place-test.true w.in-Some.ensures.entry
      c.loop-place.invariant
      (adds_same list new (λ h. same_holding h (Default account role)) (λ h. default_says h (record { holder = account; thing = role; bits = bits }))
      (default_pushed account role bits)
      (adds_one list new (Default account role) (Default account w.role.inside.0) (ap (Default account) w.role.view_is) w.in_ok-push.ensures.items))
      (ap (λ v. v.items) w.list-is)
  | in_default w ↦ absurd (omega (arith, c.first_of-place-end.ensures.inside, c.loop-place-test.true, w.in_default.ensures.none))
]

pub returns : goal.returns
returns c =
    all_said default_says c.args.held.now.entries c.args.account c.first_of-place-end.result c.loop-place.place c.args.list.now.items c.loop-place.list.items
    (defaults_held c.args.held.now.entries c.args.account) c.first_of-place-end.ensures c.loop-place-test.false
    (defaults_read c.args.held.now.entries c.is_sound.ensures.some c.args.account) c.loop-place.invariant
