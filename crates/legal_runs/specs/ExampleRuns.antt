-- Worked examples: what sessions know between acceptance and publication, and lines that are whole or not.
use Rattle.std.specs.Prelude.{◌≡◌, ◌≤◌, ℕ, List, [], ◌∷◌, length, map, Some, None, Ok, Err, codes, refl}
use Rattle.acl_stmt.specs.Entries.{is_entry}
use Rattle.acl_stmt.specs.Statements.{is_statement}
use Rattle.acl_stmt.specs.declared.refusal.Refusal.TheVariants.{AccountExists}
use Rattle.book_log.specs.Callers.{AreNumberedFrom}
use Rattle.book_log.specs.ExampleLogs.{ann, as_root, bob, create, from_nothing}
use Rattle.book_log.specs.Histories.{history}
use Rattle.book_log.specs.Items.{Item, asked}
use Rattle.book_log.specs.Items.Call.{Asks}
use Rattle.book_log.specs.Items.Reply.{ToStatement}
use Rattle.book_log.specs.Pasts.{log_of}
use Rattle.legal_runs.specs.Commands.Answer.{NoMemory, Schema}
use Rattle.legal_runs.specs.Commands.Command.{UseSchema}
use Rattle.legal_runs.specs.Commands.Shown.{NoSuchAccount}
use Rattle.legal_runs.specs.Core.{Event, WasPublished, history_of, known, past_of}
use Rattle.legal_runs.specs.Core.Act.{Book, Read, Tell}
use Rattle.legal_runs.specs.Core.Event.{By, Publish}
use Rattle.legal_runs.specs.Lines.{IsAnsweredAs}
use Rattle.legal_runs.specs.Report.{IsOnward}
use Rattle.legal_runs.specs.Rules.{Setting}
use Rattle.legal_runs.specs.Sessions.{Session, Views, after_line}
use Rattle.legal_runs.specs.Sessions.Part.{Saw}
use Rattle.priv_map.specs.declared.held.Held.{Held}

abbrev pub from_start : Setting
from_start = record { origin = from_nothing None; shown = λ state account roles. NoSuchAccount account }

-- session 0 has a statement accepted, session 1 looks before it is published and after, and then session 0 is told
abbrev accepted : Held → List Event
accepted held = By 0 (Book None (Asks (as_root held) (create ann)) (ToStatement (Ok 1))) ∷ []

abbrev looked_early : Held → List Event
looked_early held = By 1 Read ∷ accepted held

abbrev looked_late : Held → List Event
looked_late held = By 0 (Tell 1) ∷ By 1 Read ∷ Publish ∷ looked_early held

example-accepted : (held : Held) → length (history_of from_start (looked_early held)) ≡ 1
unfolding history is_entry is_statement
example-accepted held = refl

example-not_seen_yet : (held : Held) → known from_start 1 (looked_early held) ≡ 0
unfolding history is_entry is_statement
example-not_seen_yet held = refl

example-seen_then : (held : Held) → known from_start 1 (looked_late held) ≡ 1
unfolding history is_entry is_statement
example-seen_then held = refl

example-told : (held : Held) → known from_start 0 (looked_late held) ≡ 1
unfolding history is_entry is_statement
example-told held = refl

-- before the publication a session may be told of nothing but the base
example-not_told_early : (held : Held) (told : ℕ) → WasPublished from_start (looked_early held) told → told ≡ 0
example-not_told_early held told was = was

-- the calls of a session have its own numbers, whatever others do between
abbrev by_both : Held → List Event
by_both held =
    By 0 (Book None (Asks (as_root held) (create bob)) (ToStatement (Ok 2)))
    ∷ By 1 (Book None (Asks (as_root held) (create ann)) (ToStatement (Err (AccountExists ann)))) ∷ accepted held

example-numbers : (held : Held) → map (λ (item : Item). item.number) (log_of (past_of (by_both held))) ≡ 0 ∷ 0 ∷ 1 ∷ []
example-numbers held = refl

-- a session that knows five statements, and read its levels when it knew three
abbrev connected : Session
connected = record { who = Some (record { account = ann; roles = []; current = None }); global = 3; schema = 3; now = 5 }

abbrev pub pay : List ℕ
pay = codes "pay"

example-use_looks : (at : Views) → IsAnsweredAs from_start at connected.who (UseSchema pay) (Saw 7 ∷ []) (Schema pay)
example-use_looks at = (record { seen = 7; parts_are = refl }, refl)

example-points_after_use : after_line (UseSchema pay) (Saw 7 ∷ []) (Schema pay) connected
    ≡ record { who = Some (record { account = ann; roles = []; current = Some pay }); global = 3; schema = 7; now = 7 }
unfolding after_line
example-points_after_use = refl

-- a line that found no memory may have looked, and is then never behind
example-points_after_nothing : after_line (UseSchema pay) (Saw 7 ∷ []) NoMemory connected
    ≡ record { who = Some (record { account = ann; roles = []; current = None }); global = 3; schema = 3; now = 7 }
unfolding after_line
example-points_after_nothing = refl

-- what is seen behind what is known is not onward
example-not_back : IsOnward 9 connected.now (Saw 4 ∷ []) → 5 ≤ 4
example-not_back onward = onward.0

-- nor is what is beyond the history
example-not_beyond : IsOnward 9 connected.now (Saw 10 ∷ []) → 10 ≤ 9
example-not_beyond onward = onward.1

-- a gap in the numbers
example-no_gap : (held : Held) → AreNumberedFrom 0 (asked 0 0 (as_root held) (create ann) (Ok 1) ∷ asked 0 2 (as_root held) (create bob) (Ok 2) ∷ []) → ◌≡◌ {A = ℕ} 2 1
example-no_gap held numbered = numbered.1.0
