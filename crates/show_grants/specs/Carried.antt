-- Statements that are carried out one after the other, without limits.
use Rattle.std.specs.Prelude.{List, [], ◌∷◌}
use Rattle.acl_model.specs.Effects.{changed}
use Rattle.acl_model.specs.State.{State}
use Rattle.acl_stmt.specs.declared.statement.Statement.{Statement}

unfoldable pub carried : List Statement → State → State
carried [] state = state
carried (statement ∷ statements) state = carried statements (changed [] statement state)
