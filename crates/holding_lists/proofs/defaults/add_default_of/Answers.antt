use Rattle.std.proofs.Common.{◌∙◌, ap, sym, arith}
use Rattle.holding_lists.specs.Additions.{default_of}
use Rattle.holding_lists.proofs.Additions.{adds_none, adds_same}
use Rattle.holding_lists.proofs.RolesSaid.{of_role_comes, of_role_passes, of_role_read, of_role_unused, said_of_role}
use Rattle.std.proofs.Common.{take}
use Rattle.holding_lists.proofs.defaults.add_default_of.Goals as goal
use Rattle.holding_lists.proofs.defaults.add_default_of.Goals.{in-Some+then-role-account+in_ok-push, in-Some+else-role-account, in_default}

pub returns-then-uses_of-eq0 : goal.returns-then-uses_of-eq0
returns-then-uses_of-eq0 c =
    adds_none c.args.list.now.items (default_of c.args.held.now.entries c.args.account)
    (of_role_unused c.args.held.now.entries c.is_sound.ensures.some c.args.account (sym c.uses_of.ensures ∙ c.if-uses_of-eq0.true))

pub loop-place-preserved : goal.loop-place-preserved
loop-place-preserved c = elim c.match-get.branch [
  | in-Some+then-role-account+in_ok-push w ↦
      of_role_comes c.args.held.now.entries c.args.account c.loop-place.place w.in-Some.of w.in-Some.role.now w.in-Some.field-0-2
      c.args.list.now.items c.loop-place.list.items c.match-get.list.items w.in-Some.ensures.entry (sym w.role.view_is ∙ w.if-role-account.true)
      (ap (λ v. v.items) w.list-is ∙ w.in_ok-push.ensures.items) c.loop-place.invariant
  | in-Some+else-role-account w ↦
      of_role_passes c.args.held.now.entries c.args.account c.loop-place.place w.in-Some.of w.in-Some.role.now w.in-Some.field-0-2
      c.args.list.now.items c.loop-place.list.items c.match-get.list.items w.in-Some.ensures.entry (λ same. w.if-role-account.false (w.role.view_is ∙ same))
      (ap (λ v. v.items) w.list-is) c.loop-place.invariant
  | in_default w ↦ absurd (omega (arith, c.len-place-end.ensures, c.loop-place-test.true, w.in_default.ensures.none))
]

pub returns : goal.returns
returns c =
    let es = c.args.held.now.entries in
    adds_same c.args.list.now.items c.loop-place.list.items (said_of_role c.args.account (take c.loop-place.place es)) (default_of es c.args.account)
    (of_role_read es c.is_sound.ensures.some c.args.account c.loop-place.place (omega (arith, c.len-place-end.ensures, c.loop-place-test.false)))
    c.loop-place.invariant
