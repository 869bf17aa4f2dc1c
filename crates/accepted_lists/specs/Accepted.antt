-- Lists of accepted statements.
use Rattle.std.specs.Prelude.{List, [], ◌∷◌}
use Rattle.acl_model.specs.Acceptance.{IsAccepted}
use Rattle.acl_model.specs.Effects.{after}
use Rattle.acl_model.specs.State.{State}
use Rattle.acl_stmt.specs.declared.entry.Entry.{Entry}

-- each is accepted after those before it
abbrev pub AreAccepted : List Entry → State → Type 0
AreAccepted [] state = Unit {0}
AreAccepted (entry ∷ entries) state = IsAccepted state entry × AreAccepted entries (after entry state)
