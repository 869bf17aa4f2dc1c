-- The reply to a statement (MySQL 8.0 Reference Manual, "Account Management Statements"; the order of the refusals is this
-- product's own choice).
use Rattle.std.specs.Prelude.{◌≡◌, ℕ, ◌+◌, true, false, List, length, Option, Some, None, Result, Ok, Err}
use Rattle.acl_model.specs.Acceptance.{IsAccepted, IsRefused}
use Rattle.acl_model.specs.State.{State}
use Rattle.acl_stmt.specs.declared.entry.Entry.{Entry}
use Rattle.acl_stmt.specs.declared.refusal.Refusal.{Refusal}
use Rattle.acl_stmt.specs.declared.refusal.Refusal.TheVariants.{Closed, Denied, DiskFault, HistoryFull, NoMemory}
use Rattle.book_log.specs.Rules.{Rules}
use Rattle.priv_map.specs.declared.acting.Acting.{Acting}

-- nothing keeps the statement from the journal
pub record IsStorable (rules : Rules) (entries : List Entry) (state : State) (acting : Acting) (entry : Entry) : Type 0 where
  pub nothing_lacked : rules.lacked state acting entry.statement ≡ None
  pub is_accepted : IsAccepted state entry
  pub has_room : rules.is_full entries entry ≡ false

-- the first of the refusals that holds; a fault of the disk may come where none holds
abbrev pub IsRefusedWith : Rules → List Entry → State → Acting → Entry → Refusal → Type 0
IsRefusedWith rules entries state acting entry (Denied missing) = rules.lacked state acting entry.statement ≡ Some missing
IsRefusedWith rules entries state acting entry HistoryFull =
    (rules.lacked state acting entry.statement ≡ None) × IsAccepted state entry × (rules.is_full entries entry ≡ true)
IsRefusedWith rules entries state acting entry DiskFault = IsStorable rules entries state acting entry
IsRefusedWith rules entries state acting entry Closed = ⊥
IsRefusedWith rules entries state acting entry NoMemory = ⊥
IsRefusedWith rules entries state acting entry other = (rules.lacked state acting entry.statement ≡ None) × IsRefused state entry other

-- the reply to a statement after these entries, which made this stand
abbrev pub IsStatementReply : Rules → List Entry → State → Acting → Option Entry → Result ℕ Refusal → Type 0
IsStatementReply rules entries state acting None answer = ⊥
IsStatementReply rules entries state acting (Some entry) (Ok position) =
    IsStorable rules entries state acting entry × (position ≡ length entries + 1)
IsStatementReply rules entries state acting (Some entry) (Err why) = IsRefusedWith rules entries state acting entry why
