use Rattle.acl_rows.specs.Tables.{state_of}
use Rattle.acl_apply.proofs.Creating.{put_stands}
use Rattle.acl_apply.proofs.create.create.Goals as goal

pub set_data-requires : goal.set_data-requires
set_data-requires c = put_stands (state_of c.args.rows.now) _ c.args.account.now c.in-Ok.name c.in-Ok-put.ensures.ok c.in-Ok.ensures
