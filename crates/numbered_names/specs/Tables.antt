-- How numbered names are kept: the names at their places, and tables from each place to its number and back.
use Rattle.std.specs.List.{IsDistinct}
use Rattle.std.specs.Prelude.{◌≡◌, ℕ, Bool, ◌<◌, ◌≤◌, ◌-◌, ◌^◌, ◌++◌, ◌∷◌, [], List, Option, length, map, min, nat_lt, slice_get, slice_index, if◌then◌else◌}

-- the name of each number, which stands at the number's place
abbrev pub names_by_number : {K : Type 0} → List K → List ℕ → List (Option K)
names_by_number names places = map (slice_get names) places

-- the tables lead from each place to its number and from each number to its place
pub record AreInverse (numbers places : List ℕ) : Type 0 where
  pub same_length : length numbers ≡ length places
  pub number_within : (place : ℕ) → place < length places → slice_index numbers place < length places
  pub place_within : (number : ℕ) → number < length places → slice_index places number < length places
  pub place_of_number : (place : ℕ) → place < length places → slice_index places (slice_index numbers place) ≡ place
  pub number_of_place : (number : ℕ) → number < length places → slice_index numbers (slice_index places number) ≡ number

-- a table with one entry more where all of it is taken
abbrev pub with_free : ℕ → List ℕ → List ℕ
with_free taken table = if nat_lt taken (length table) then table else table ++ length table ∷ []

-- how many numbers there are at most
abbrev pub number_limit : ℕ
number_limit = 2 ^ 32

-- names that differ, at the first places, and tables of no more numbers than there may be
pub record IsNumbering {K : Type 0} (eq : K → K → Bool) (names : List K) (numbers places : List ℕ) : Type 0 where
  pub distinct : IsDistinct eq names
  pub inverse : AreInverse numbers places
  pub taken : length names ≤ length places
  pub few : length places ≤ number_limit

-- how many more names fit in the tables
abbrev pub spare_numbers : ℕ → ℕ → ℕ
spare_numbers capacity taken = min number_limit capacity - taken
