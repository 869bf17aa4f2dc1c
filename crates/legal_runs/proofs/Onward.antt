-- What a session knows in the course of a line.
use Rattle.std.proofs.Common.{◌≡◌, ℕ, max, ◌≤◌, List, [], ◌∷◌, ◌++◌, refl, ap, arith}
use Rattle.legal_runs.specs.Report.{IsOnward}
use Rattle.legal_runs.specs.Sessions.{Part, calls_in, now_after}
use Rattle.legal_runs.specs.Sessions.Part.{Called, Heard, Saw}

pub now-append : (now : ℕ) (parts more : List Part) → now_after now (parts ++ more) ≡ now_after (now_after now parts) more
now-append now [] more = refl
now-append now (Called item ∷ parts) more = now-append now parts more
now-append now (Saw seen ∷ parts) more = now-append seen parts more
now-append now (Heard told ∷ parts) more = now-append (max now told) parts more

pub calls_in-append : (parts more : List Part) → calls_in (parts ++ more) ≡ calls_in parts ++ calls_in more
calls_in-append [] more = refl
calls_in-append (Called item ∷ parts) more = ap (λ items. item ∷ items) (calls_in-append parts more)
calls_in-append (Saw seen ∷ parts) more = calls_in-append parts more
calls_in-append (Heard told ∷ parts) more = calls_in-append parts more

pub onward_up : (limit higher now : ℕ) (parts : List Part) → limit ≤ higher → IsOnward limit now parts → IsOnward higher now parts
onward_up limit higher now [] order onward = omega arith
onward_up limit higher now (Called item ∷ parts) order onward = onward_up limit higher now parts order onward
onward_up limit higher now (Saw seen ∷ parts) order onward = (onward.0, onward_up limit higher seen parts order onward.1)
onward_up limit higher now (Heard told ∷ parts) order onward = onward_up limit higher (max now told) parts order onward

pub onward_within : (limit now : ℕ) (parts : List Part) → IsOnward limit now parts → now_after now parts ≤ limit
onward_within limit now [] onward = onward
onward_within limit now (Called item ∷ parts) onward = onward_within limit now parts onward
onward_within limit now (Saw seen ∷ parts) onward = onward_within limit seen parts onward.1
onward_within limit now (Heard told ∷ parts) onward = onward_within limit (max now told) parts onward

pub onward_more : (limit now : ℕ) (parts : List Part) → IsOnward limit now parts → now ≤ now_after now parts
onward_more limit now [] onward = omega arith
onward_more limit now (Called item ∷ parts) onward = onward_more limit now parts onward
onward_more limit now (Saw seen ∷ parts) onward = let rest = onward_more limit seen parts onward.1 in let first = onward.0 in omega arith
onward_more limit now (Heard told ∷ parts) onward = let rest = onward_more limit (max now told) parts onward in omega arith

pub onward-append : (limit now : ℕ) (parts more : List Part) → IsOnward limit now parts → IsOnward limit (now_after now parts) more →
    IsOnward limit now (parts ++ more)
onward-append limit now [] more onward rest = rest
onward-append limit now (Called item ∷ parts) more onward rest = onward-append limit now parts more onward rest
onward-append limit now (Saw seen ∷ parts) more onward rest = (onward.0, onward-append limit seen parts more onward.1 rest)
onward-append limit now (Heard told ∷ parts) more onward rest = onward-append limit (max now told) parts more onward rest
