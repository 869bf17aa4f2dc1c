-- What waiting for a length answers.
use Rattle.std.specs.Prelude.{◌≡◌, ℕ, ◌+◌, ◌<◌, ◌≤◌}
use Rattle.published_copies.specs.declared.awaiting.Awaited.{Awaited}
use Rattle.published_copies.specs.declared.awaiting.Awaited.TheVariants.{Reached, NotYet}
use Rattle.published_copies.specs.Views.{Watch, HasJustRead, reads}

-- the last list read is long enough; or it is too short, and as many reads were answered as there are turns
abbrev pub IsAwaited : {E : Type 0} → ℕ → ℕ → Watch E → Watch E → Awaited → Type 0
IsAwaited n turns old new (Reached now) = (n ≤ now) × HasJustRead new now
IsAwaited n turns old new (NotYet now) = (now < n) × HasJustRead new now × (reads new.heard ≡ reads old.heard + turns)
