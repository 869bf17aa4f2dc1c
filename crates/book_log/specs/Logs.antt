-- Legal logs: each reply is that of the rules after the items before it.
use Rattle.std.specs.Prelude.{◌≡◌, ℕ, Bool, true, false, nat_le, List, [], ◌∷◌, ◌++◌, length, Option, Some, None, Err}
use Rattle.acl_model.specs.Effects.{after, state_after}
use Rattle.acl_model.specs.State.{State}
use Rattle.acl_names.specs.declared.auth.AuthId.{AuthId}
use Rattle.acl_stmt.specs.declared.entry.Entry.{Entry}
use Rattle.acl_stmt.specs.declared.refusal.Refusal.TheVariants.{Closed}
use Rattle.acl_stmt.specs.declared.statement.Statement.{Statement}
use Rattle.book_log.specs.Histories.{entry_of, history}
use Rattle.book_log.specs.Items.{Call, Item, Reply}
use Rattle.book_log.specs.Items.Call.{Asks, Knocks}
use Rattle.book_log.specs.Items.LoginRefusal.{Ended}
use Rattle.book_log.specs.Items.Reply.{ToLogin, ToStatement}
use Rattle.book_log.specs.Logins.{IsChosenBy, IsLoginReply}
use Rattle.book_log.specs.Pasts.{Noted, Past, events_of, log_of, moment_after, moment_of}
use Rattle.book_log.specs.Rules.{Rules}
use Rattle.book_log.specs.Statements.{IsStatementReply}
use Rattle.priv_map.specs.declared.acting.Acting.{Acting}

-- what a log begins with, and where it ends
pub record Origin : Type 0 where
  pub rules : Rules
  -- what stood before the first of all statements
  pub start : State
  -- the statements that were accepted before the log
  pub base : List Entry
  -- the number of items before the end, if it has come
  pub end : Option ℕ

abbrev pub is_ended : Option ℕ → ℕ → Bool
is_ended None place = false
is_ended (Some end) place = nat_le end place

-- the accepted statements so far
abbrev pub entries_at : Origin → Past → List Entry
entries_at origin past = history origin.rules origin.base (log_of past)

-- what stands after them
abbrev pub state_at : Origin → Past → State
state_at origin past = state_after (entries_at origin past) origin.start

-- behind the end nothing is let in and nothing accepted
abbrev pub IsEndReply : Call → Reply → Type 0
IsEndReply (Asks acting statement) (ToStatement answer) = answer ≡ Err Closed
IsEndReply (Knocks knock) (ToLogin answer) = answer ≡ Err Ended
IsEndReply _ _ = ⊥

abbrev pub IsReplyWhere : Bool → Origin → Past → ℕ → ℕ → Option AuthId → Call → Reply → Type 0
IsReplyWhere true origin past caller number chosen call reply = (chosen ≡ None) × IsEndReply call reply
IsReplyWhere false origin past caller number chosen (Asks acting statement) (ToStatement answer) =
    (chosen ≡ None)
    × IsStatementReply origin.rules (entries_at origin past) (state_at origin past) acting (entry_of origin.rules caller number acting statement) answer
IsReplyWhere false origin past caller number chosen (Knocks knock) (ToLogin answer) =
    IsChosenBy origin.rules.own_choice (state_at origin past) knock chosen
    × IsLoginReply (state_at origin past) (length (entries_at origin past)) (λ account. events_of account past) (moment_after (moment_of past) (Knocks knock)) knock chosen answer
IsReplyWhere false origin past caller number chosen _ _ = ⊥

-- the item's reply is that of the rules after these items, and its login chose this account
unfoldable pub IsReply : Origin → Past → Noted → Type 0
IsReply origin past noted =
    IsReplyWhere (is_ended origin.end (length past)) origin past noted.item.caller noted.item.number noted.chosen noted.item.call noted.item.reply

abbrev pub IsLegalPast : Origin → Past → Type 0
IsLegalPast origin [] = Unit {0}
IsLegalPast origin (noted ∷ past) = IsLegalPast origin past × IsReply origin past noted

-- each item's reply is that of the rules, after the items before it
unfoldable pub IsLegalLog : Origin → List Item → Type 0
IsLegalLog origin log = (past : Past) × (log_of past ≡ log) × IsLegalPast origin past

-- the same log, which ends here or is open
abbrev pub with_end : Option ℕ → Origin → Origin
with_end end origin = record { rules = origin.rules; start = origin.start; base = origin.base; end = end }

-- with the item the history has this entry more, at the number that was answered
pub record IsOneMore (origin : Origin) (past : Past) (noted : Noted) (acting : Acting) (statement : Statement) (position : ℕ) (entry : Entry) : Type 0 where
  pub entry_is : entry_of origin.rules noted.item.caller noted.item.number acting statement ≡ Some entry
  pub history_is : entries_at origin (noted ∷ past) ≡ entries_at origin past ++ entry ∷ []
  pub position_is : position ≡ length (entries_at origin (noted ∷ past))
  pub state_is : state_at origin (noted ∷ past) ≡ after entry (state_at origin past)
