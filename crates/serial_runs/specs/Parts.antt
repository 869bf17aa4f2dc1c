-- The parts of lines that are run one after the other.
use Rattle.std.specs.Prelude.{ℕ, zero, suc, Bool, true, false, List, [], ◌∷◌, ◌++◌, length}
use Rattle.book_log.specs.Pasts.{log_of}
use Rattle.legal_runs.specs.Core.{Event, history_of, item_of, past_of, published}
use Rattle.legal_runs.specs.Core.Act.{Book}
use Rattle.legal_runs.specs.Core.Event.{By}
use Rattle.legal_runs.specs.Rules.{Setting}
use Rattle.legal_runs.specs.Sessions.{Part}
use Rattle.legal_runs.specs.Sessions.Part.{Called, Heard, Saw}
use Rattle.serial_runs.specs.Serial.{Doing, is_told}
use Rattle.serial_runs.specs.Serial.Doing.{Calls, Looks}

-- the parts of a line that has looked so often
abbrev pub looked_parts : ℕ → ℕ → List Part
looked_parts seen zero = []
looked_parts seen (suc looks) = looked_parts seen looks ++ Saw seen ∷ []

abbrev pub told_part : ℕ → Bool → List Part
told_part told true = Heard told ∷ []
told_part told false = []

-- the parts of a line that begins after these events
abbrev pub parts_by : Setting → ℕ → List Event → Doing → List Part
parts_by on session events (Looks looks) = looked_parts (published on events) looks
parts_by on session events (Calls chosen call reply) =
    Called (item_of session (log_of (past_of events)) call reply)
    ∷ told_part (length (history_of on (By session (Book chosen call reply) ∷ events))) (is_told reply)

-- how many calls a line makes
abbrev pub calls_by : Doing → ℕ
calls_by (Looks looks) = 0
calls_by (Calls chosen call reply) = 1
