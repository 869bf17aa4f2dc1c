-- What is seen of numbered names: the names by number, and the spare room.
use Rattle.std.specs.Prelude.{◌≡◌, refl, ℕ, Bool, false, ◌==◌, List, Option, None, Some, All, IsTrue, if◌then◌else◌}
use Rattle.std.specs.List.{slice_index_or, Contains, IsDistinct}
use Rattle.std.specs.Coded.{Coded, code_by, coded×, coded_ℕ, coded_list, coded_option}

-- the name at each number, None at a number that is free, and how many more names fit without memory
pub record Numbered (K : Type 0) : Type 0 where
  pub names : List (Option K)
  pub room : ℕ

-- they are stored as the pair of both
abbrev pub numbered_code : {K : Type 0} → Coded K → Coded (Numbered K)
numbered_code {K} code =
    code_by (List (Option K) × ℕ) (coded× (coded_list (coded_option code)) coded_ℕ) (λ n. (n.names, n.room))
    (λ p. record { names = p.0; room = p.1 }) (λ _. refl)

-- the name that has a number
abbrev pub name_at : {K : Type 0} → List (Option K) → ℕ → Option K
name_at names number = slice_index_or names number None

-- whether what stands at a number is this name
abbrev pub is_name : {K : Type 0} → (K → K → Bool) → K → Option K → Bool
is_name eq name None = false
is_name eq name (Some other) = eq name other

-- the name has no number
abbrev pub IsNew : {K : Type 0} → (K → K → Bool) → List (Option K) → K → Type 0
IsNew eq names name = (number : ℕ) → is_name eq name (name_at names number) ≡ false

-- no two numbers have equal names
abbrev pub HasEachOnce : {K : Type 0} → (K → K → Bool) → List (Option K) → Type 0
HasEachOnce {K} eq names =
    (one other : ℕ) (name : K) → name_at names one ≡ Some name → IsTrue (is_name eq name (name_at names other)) → one ≡ other

-- what stands at one number is this, and each other number keeps what it has
abbrev pub ChangesOnly : {K : Type 0} → List (Option K) → List (Option K) → ℕ → Option K → Type 0
ChangesOnly old new number name =
    (other : ℕ) → name_at new other ≡ (if other == number then name else name_at old other)

-- the names that have numbers, each once
pub record IsListOf {K : Type 0} (eq : K → K → Bool) (names : List (Option K)) (listed : List K) : Type 0 where
  pub once : IsDistinct eq listed
  pub all : (number : ℕ) (name : K) → name_at names number ≡ Some name → Contains listed name
  pub stand : All (λ name. (number : ℕ) × (name_at names number ≡ Some name)) listed
