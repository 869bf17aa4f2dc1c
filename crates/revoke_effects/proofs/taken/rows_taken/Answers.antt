use Rattle.std.proofs.Common.{◌∙◌, ◌<◌, ap, length, arith}
use Rattle.std.specs.List.{list_any}
use Rattle.acl_model.specs.Rows.{same_row}
use Rattle.acl_rows.specs.Tables.{state_of}
use Rattle.revoke_effects.proofs.Taking.{taken_step}
use Rattle.revoke_effects.proofs.taken.rows_taken.Goals as goal

pub loop-account-preserved : goal.loop-account-preserved
loop-account-preserved c =
    let within : c.loop-account.account-index < length c.args.accounts.now = omega arith in
    taken_step (state_of c.args.before.now).rows c.args.privileges.now c.args.target.now c.args.accounts.now c.loop-account.account-index c.account-item.result
    c.loop-account.taken.items c.as_slice.result.now c.add_taken.new.taken.items within c.account-item.is
    c.in_ok-add_taken.ensures (λ row. ap (list_any (same_row row)) c.as_slice.ensures ∙ c.in_ok-held.ensures.rows row) c.loop-account.invariant
