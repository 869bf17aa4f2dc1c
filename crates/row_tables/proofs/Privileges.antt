-- Privileges at their levels have numbers below 32.
use Rattle.std.proofs.Common.{◌∙◌, sym, ℕ, ◌<◌, IsTrue, inl, inr, arith}
use Rattle.std.proofs.lemmas.Bool.{cases_lt, true≢false}
use Rattle.priv_sets.proofs.LevelLemmas.{no_level_above}
use Rattle.priv_sets.specs.Levels.{has_level}
use Rattle.priv_sets.specs.declared.level.Level.{Level}

pub level_below : (level : Level) (p : ℕ) → IsTrue (has_level level p) → p < 32
level_below level p has =
    elim (cases_lt p 31) [
      | inl below ↦ omega arith
      | inr above ↦ absurd (true≢false (sym has ∙ no_level_above level p above))
    ]
