use Rattle.std.proofs.Common.{◌+◌, List, Some, rules, sym, ap, subst, ◌∙◌}
use Rattle.acl_names.specs.declared.auth.AuthId.{AuthId}
use Rattle.mandatory_roles.proofs.Longest.{empty_text}
use Rattle.mandatory_roles.proofs.OneByOne.{IsReadSoFar, read_all, read_begins, read_last, read_more, read_no_role, read_none, read_nothing, read_stop}
use Rattle.mandatory_roles.specs.Roles.{roles_in}
use Rattle.mandatory_roles.proofs.read.roles_in.Goals as goal

pub returns-then-is_empty : goal.returns-then-is_empty
returns-then-is_empty c =
    let empty = empty_text c.args.text.now (sym c.is_empty.ensures ∙ c.if-is_empty.true) in
    ap Some c.new-roles.ensures ∙ sym (ap roles_in empty ∙ read_nothing)

pub loop-role-init : goal.loop-role-init
loop-role-init c = record {
  utf8 = c.utf8.text;
  so_far = read_begins c.args.text.now c.new-roles.result (sym c.is_empty.ensures ∙ c.if-is_empty.false) c.new-roles.ensures;
}

pub returns-in_default : goal.returns-in_default
returns-in_default c = read_none c.args.text.now _ _ _ c.loop-role.invariant.so_far c.loop-role-test.true c.in_default.ensures

pub returns-in_default-2 : goal.returns-in_default-2
returns-in_default-2 c =
    read_no_role c.args.text.now _ _ _ c.loop-role.invariant.so_far _ _ _ c.loop-role-test.true c.in-Some.ensures (sym c.in_default-2.is ∙ c.in_ok-role.ensures)

pub returns-then-is_empty-2 : goal.returns-then-is_empty-2
returns-then-is_empty-2 c =
    let role = sym c.in-Some-2.is ∙ c.in_ok-role.ensures in
    let ends = empty_text _ (sym c.is_empty-in-loop-role.ensures ∙ c.if-is_empty-2.true) in
    ap Some c.in_ok-push.ensures.ok ∙ read_last c.args.text.now _ _ _ c.loop-role.invariant.so_far _ _ _ c.loop-role-test.true c.in-Some.ensures _ role ends

pub returns-in_default-past_mark : goal.returns-in_default-past_mark
returns-in_default-past_mark c =
    let role = sym c.in-Some-2.is ∙ c.in_ok-role.ensures in
    read_stop c.args.text.now _ _ _ c.loop-role.invariant.so_far _ _ _ c.loop-role-test.true c.in-Some.ensures _ role (sym c.is_empty-in-loop-role.ensures ∙ c.if-is_empty-2.false) c.in_default-past_mark.ensures

pub loop-role-preserved : goal.loop-role-preserved
loop-role-preserved c =
    let role = sym c.in-Some-2.is ∙ c.in_ok-role.ensures in
    let more = read_more c.args.text.now _ _ _ c.loop-role.invariant.so_far _ _ _ c.loop-role-test.true c.in-Some.ensures _ _ role c.in-Some-past_mark.ensures in
    record {
      utf8 = search rules;
      so_far = subst (λ (rs : List AuthId). IsReadSoFar c.args.text.now (c.loop-role._role + 1) rs c.in-Some-past_mark.more.now) (sym c.in_ok-push.ensures.ok) more;
    }

pub returns : goal.returns
returns c = read_all c.args.text.now _ _ _ c.loop-role.invariant.so_far c.loop-role-test.false
