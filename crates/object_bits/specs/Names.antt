-- Names that have numbers, and how often each number is used.
use Rattle.std.specs.Prelude.{◌≡◌, refl, ℕ, ◌==◌, List, Option, is_some, length, nat_lt, slice_index, if◌then◌else◌}
use Rattle.std.specs.Coded.{Coded, code_by, coded×, coded_ℕ, coded_list, coded_option}
use Rattle.numbered_names.specs.Numbered.{name_at}

-- the name at each number, how often each is used, and how many more names fit without memory
pub record Counted : Type 0 where
  pub names : List (Option (List ℕ))
  pub uses : List ℕ
  pub room : ℕ

-- they are stored as their parts
abbrev pub counted_code : Coded Counted
counted_code =
    code_by (List (Option (List ℕ)) × (List ℕ × ℕ))
    (coded× (coded_list (coded_option (coded_list coded_ℕ))) (coded× (coded_list coded_ℕ) coded_ℕ))
    (λ c. (c.names, (c.uses, c.room)))
    (λ p. record { names = p.0; uses = p.1.0; room = p.1.1 }) (λ _. refl)

-- a name stands exactly where its number is used
pub record IsCounted (names : List (Option (List ℕ))) (uses : List ℕ) : Type 0 where
  pub numbers : length uses ≡ length names
  pub stands : (number : ℕ) → is_some (name_at names number) ≡ nat_lt 0 (slice_index uses number)

-- one where two numbers are equal, 0 elsewhere
abbrev pub one_if_same : ℕ → ℕ → ℕ
one_if_same one other = if one == other then 1 else 0
