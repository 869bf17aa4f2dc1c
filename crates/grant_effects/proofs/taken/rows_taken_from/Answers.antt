use Rattle.std.proofs.Common.{◌∙◌, ap, filter}
use Rattle.acl_names.specs.AuthId.{same_auth}
use Rattle.acl_model.specs.Rows.{holder}
use Rattle.acl_rows.specs.Tables.{state_of}
use Rattle.grant_effects.proofs.Adding.{just_filtered}
use Rattle.grant_effects.specs.Taken.{taken_of}
use Rattle.grant_effects.proofs.taken.rows_taken_from.Goals as goal

pub returns : goal.returns
returns c =
    just_filtered c.in_ok-rows_of.field-0 c.keep_taken.new.rows.items (state_of c.args.before.now).rows (λ row. same_auth (holder row) c.args.account.now) (taken_of c.args.limits.now c.args.grant.now.privileges.now c.args.grant.now.target.now c.args.grant.now.with_grant_option)
    c.in_ok-rows_of.ensures.rows (c.keep_taken.ensures ∙ ap (filter (taken_of c.args.limits.now c.args.grant.now.privileges.now c.args.grant.now.target.now c.args.grant.now.with_grant_option)) c.into_vec-rows.ensures)
