-- Tests of each number below a limit.
use Rattle.std.proofs.Common.{◌≡◌, ◌∙◌, ap, ℕ, zero, suc, ◌<◌, Bool, true, false, inl, inr, refl, arith}
use Rattle.std.proofs.lemmas.Bool.{and_parts, cases_eq}
use Rattle.acl_stmt.specs.Requests.{all_below}

pub below_at : (limit n : ℕ) (test : ℕ → Bool) → all_below limit test ≡ true → n < limit → test n ≡ true
below_at zero n test all within = absurd (omega arith)
below_at (suc limit) n test all within =
    let parts = and_parts (all_below limit test) (test limit) all in
    elim (cases_eq n limit) [
      | inl same ↦ ap test same ∙ parts.1
      | inr other ↦ below_at limit n test parts.0 (omega arith)
    ]

-- a number below the limit that fails
pub failing_below : (limit : ℕ) (test : ℕ → Bool) → all_below limit test ≡ false → (n : ℕ) × (n < limit) × (test n ≡ false)
failing_below zero test fails = cc
failing_below (suc limit) test fails = at (all_below limit test) refl (failing_below limit test)
  where
    at : (t : Bool) → all_below limit test ≡ t → (all_below limit test ≡ false → (n : ℕ) × (n < limit) × (test n ≡ false)) → (n : ℕ) × (n < suc limit) × (test n ≡ false)
    at true before later =
        let last : test limit ≡ false = rw before at fails in
        (limit, omega arith, last)
    at false before later =
        let found = later before in
        let below : found.0 < limit = found.1 in
        (found.0, omega arith, found.2)
