-- What is settled beside the log.
use Rattle.std.specs.Prelude.{Bool, List, Option}
use Rattle.acl_model.specs.State.{State}
use Rattle.acl_names.specs.declared.auth.AuthId.{AuthId}
use Rattle.acl_stmt.specs.declared.entry.Entry.{Entry}
use Rattle.acl_stmt.specs.declared.refusal.Missing.{Missing}
use Rattle.acl_stmt.specs.declared.statement.Statement.{Statement}
use Rattle.book_log.specs.Items.{Knock}
use Rattle.priv_map.specs.declared.acting.Acting.{Acting}

pub record Rules : Type 0 where
  -- the privilege that a session lacks for a statement where this stands, if it lacks one
  pub lacked : State → Acting → Statement → Option Missing
  -- whether a grant on `*.*` hands on the restrictions of the grantor
  pub hands_on : Bool
  -- a choice among the accounts that stand in place of the manual's, if there is one
  pub own_choice : Option (State → Knock → Option AuthId)
  -- whether the journal has no room for an entry behind these
  pub is_full : List Entry → Entry → Bool
