use Rattle.std.proofs.Common.{◌≡◌, [], take}
use Rattle.acl_model.specs.Effects.{changed}
use Rattle.acl_rows.specs.Tables.{state_of}
use Rattle.acl_stmt.specs.declared.statement.Statement.TheVariants.{CreateUser}
use Rattle.acl_apply.proofs.create.create_all.Given as goal

abbrev pub invariant-loop-pair : goal.invariant-loop-pair
invariant-loop-pair l = state_of l.rows ≡ changed [] (CreateUser l.if_not_exists (take l.pair-index l.accounts) l.options) (state_of l.before)
