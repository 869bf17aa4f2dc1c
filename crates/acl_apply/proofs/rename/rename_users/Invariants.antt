use Rattle.std.proofs.Common.{◌≡◌, [], drop, take}
use Rattle.acl_model.specs.Effects.{changed}
use Rattle.acl_model.specs.Refusals.{no_renaming}
use Rattle.acl_model.specs.State.{stands}
use Rattle.acl_rows.specs.Tables.{state_of}
use Rattle.acl_stmt.specs.declared.statement.Statement.TheVariants.{RenameUser}
use Rattle.acl_apply.proofs.rename.rename_users.Given as goal

abbrev pub invariant-loop-pair : goal.invariant-loop-pair
invariant-loop-pair l =
    (state_of l.rows ≡ changed [] (RenameUser (take l.pair-index l.pairs)) (state_of l.before))
    × (no_renaming (stands (state_of l.before)) l.pairs ≡ no_renaming (stands (state_of l.rows)) (drop l.pair-index l.pairs))
