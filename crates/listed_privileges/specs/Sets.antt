-- Sets of numbers as the bits of one number.
use Rattle.std.specs.Prelude.{◌≡◌, ℕ, zero, suc, ◌+◌, ◌^◌, ◌==◌, ◌||◌, ◌&&◌, Bool, true, not, if◌then◌else◌, refl}
use Rattle.acl_stmt.specs.Requests.{all_below}
use Rattle.priv_sets.specs.Levels.{grant_option}

-- the numbers below a limit that pass the test
unfoldable pub bits_below : ℕ → (ℕ → Bool) → ℕ
bits_below zero test = 0
bits_below (suc limit) test = bits_below limit test + (if test limit then 2 ^ limit else 0)

-- whether some number below the limit passes the test
abbrev pub some_below : ℕ → (ℕ → Bool) → Bool
some_below limit test = not (all_below limit (λ n. not (test n)))

-- the test of all privileges but GRANT OPTION
abbrev pub but_option : (ℕ → Bool) → ℕ → Bool
but_option test p = test p && not (p == grant_option)

example-bits : bits_below 5 (λ n. n == 0 || n == 3) ≡ 9
unfolding bits_below
example-bits = refl

example-some : some_below 5 (λ n. n == 4) ≡ true
example-some = refl
