-- Laws of the names, by tests that compute over all of them.
use Rattle.std.proofs.Common.{◌≡◌, ◌≢◌, ◌∙◌, ap, sym, refl, ℕ, ◌<◌, ◌≤◌, ◌==◌, true, false, List, [], ◌∷◌, map, inl, inr, arith}
use Rattle.std.proofs.lemmas.Bool.{agree_below, agree_below_at, cases_lt, eqb-true, false≢true}
use Rattle.std.proofs.lemmas.Bool.Decides.{nat_tests}
use Rattle.std.proofs.lemmas.List.{get_or_past}
use Rattle.std.proofs.lemmas.Slice.Eq.{bytes_eq-Decides}
use Rattle.std.proofs.lemmas.Str.Ascii.{lowercase-uppercase}
use Rattle.std.specs.Char.{to_ascii_uppercase, to_ascii_lowercase}
use Rattle.std.specs.Str.{bytes_eq, str_to_ascii_uppercase}
use Rattle.std.specs.List.{list_all}
use Rattle.priv_sets.specs.DynamicNames.{dynamic_names, dynamic_name}
use Rattle.priv_sets.specs.PlainNames.{plain_names, plain_name, is_capital_or_space, is_words}

-- two names are the same bytes exactly where their numbers are the same
same_names : (p q : ℕ) → p < 31 → q < 31 → bytes_eq (plain_name p) (plain_name q) ≡ (p == q)
unfolding plain_names
same_names p q p_below q_below =
    agree_below_at (λ q. bytes_eq (plain_name p) (plain_name q)) (λ q. p == q) 31 q
    (agree_below_at (λ p. agree_below (λ q. bytes_eq (plain_name p) (plain_name q)) (λ q. p == q) 31) (λ _. true) 31 p refl p_below)
    q_below

pub distinct_names : (p q : ℕ) → p < 31 → q < 31 → plain_name p ≡ plain_name q → p ≡ q
distinct_names p q p_below q_below same =
    eqb-true p q (sym (same_names p q p_below q_below) ∙ (bytes_eq-Decides (plain_name p) (plain_name q)).1 same)

pub names_of_words : (p : ℕ) → p < 31 → is_words (plain_name p) ≡ true
unfolding plain_names
names_of_words p below = agree_below_at (λ p. is_words (plain_name p)) (λ _. true) 31 p refl below

pub names_of_capitals : (p : ℕ) → p < 31 → list_all is_capital_or_space (plain_name p) ≡ true
unfolding plain_names
names_of_capitals p below = agree_below_at (λ p. list_all is_capital_or_space (plain_name p)) (λ _. true) 31 p refl below

-- two names of dynamic privileges are the same bytes exactly where their numbers are the same
same_dynamic_names : (p q : ℕ) → p < 20 → q < 20 → bytes_eq (dynamic_name p) (dynamic_name q) ≡ (p == q)
unfolding dynamic_names
same_dynamic_names p q p_below q_below =
    agree_below_at (λ q. bytes_eq (dynamic_name p) (dynamic_name q)) (λ q. p == q) 20 q
    (agree_below_at (λ p. agree_below (λ q. bytes_eq (dynamic_name p) (dynamic_name q)) (λ q. p == q) 20) (λ _. true) 20 p refl p_below)
    q_below

pub distinct_dynamic_names : (p q : ℕ) → p < 20 → q < 20 → dynamic_name p ≡ dynamic_name q → p ≡ q
distinct_dynamic_names p q p_below q_below same =
    eqb-true p q (sym (same_dynamic_names p q p_below q_below) ∙ (bytes_eq-Decides (dynamic_name p) (dynamic_name q)).1 same)

-- no static privilege has the name of a dynamic one
other_names : (p q : ℕ) → p < 31 → q < 20 → bytes_eq (plain_name p) (dynamic_name q) ≡ false
unfolding plain_names dynamic_names
other_names p q p_below q_below =
    agree_below_at (λ q. bytes_eq (plain_name p) (dynamic_name q)) (λ _. false) 20 q
    (agree_below_at (λ p. agree_below (λ q. bytes_eq (plain_name p) (dynamic_name q)) (λ _. false) 20) (λ _. true) 31 p refl p_below)
    q_below

pub distinct_kinds : (p q : ℕ) → p < 31 → q < 20 → plain_name p ≢ dynamic_name q
distinct_kinds p q p_below q_below same =
    false≢true (sym (other_names p q p_below q_below) ∙ (bytes_eq-Decides (plain_name p) (dynamic_name q)).1 same)

-- names are in capitals
capital_below : (p : ℕ) → p < 31 → bytes_eq (str_to_ascii_uppercase (plain_name p)) (plain_name p) ≡ true
unfolding plain_names
capital_below p below = agree_below_at (λ p. bytes_eq (str_to_ascii_uppercase (plain_name p)) (plain_name p)) (λ _. true) 31 p refl below

plain_past : (p : ℕ) → 31 ≤ p → plain_name p ≡ []
unfolding plain_names
plain_past p past = get_or_past plain_names p [] past

pub capital_name : (p : ℕ) → str_to_ascii_uppercase (plain_name p) ≡ plain_name p
capital_name p =
    elim (cases_lt p 31) [
      | inl below ↦ (bytes_eq-Decides (str_to_ascii_uppercase (plain_name p)) (plain_name p)).0 (capital_below p below)
      | inr past ↦ rw (plain_past p past) refl
    ]

capital_dynamic_below : (p : ℕ) → p < 20 → bytes_eq (str_to_ascii_uppercase (dynamic_name p)) (dynamic_name p) ≡ true
unfolding dynamic_names
capital_dynamic_below p below = agree_below_at (λ p. bytes_eq (str_to_ascii_uppercase (dynamic_name p)) (dynamic_name p)) (λ _. true) 20 p refl below

dynamic_past : (p : ℕ) → 20 ≤ p → dynamic_name p ≡ []
unfolding dynamic_names
dynamic_past p past = get_or_past dynamic_names p [] past

pub capital_dynamic_name : (p : ℕ) → str_to_ascii_uppercase (dynamic_name p) ≡ dynamic_name p
capital_dynamic_name p =
    elim (cases_lt p 20) [
      | inl below ↦ (bytes_eq-Decides (str_to_ascii_uppercase (dynamic_name p)) (dynamic_name p)).0 (capital_dynamic_below p below)
      | inr past ↦ rw (dynamic_past p past) refl
    ]

-- the capital of a letter is that of its lower case, and the other way round
upper_lower : (c : ℕ) → to_ascii_uppercase (to_ascii_lowercase c) ≡ to_ascii_uppercase c
upper_lower c = grind (arith, nat_tests)

upper_lower_text : (text : List ℕ) → str_to_ascii_uppercase (map to_ascii_lowercase text) ≡ str_to_ascii_uppercase text
upper_lower_text [] = refl
upper_lower_text (c ∷ rest) = rw (upper_lower c, upper_lower_text rest) refl

lower_upper_text : (text : List ℕ) → map to_ascii_lowercase (str_to_ascii_uppercase text) ≡ map to_ascii_lowercase text
lower_upper_text [] = refl
lower_upper_text (c ∷ rest) = rw (lowercase-uppercase c, lower_upper_text rest) refl

-- a text is a name in capitals exactly where both are the same in lower case
pub upper_from_lower : (text name : List ℕ) → str_to_ascii_uppercase name ≡ name → map to_ascii_lowercase name ≡ map to_ascii_lowercase text → str_to_ascii_uppercase text ≡ name
upper_from_lower text name capital same =
    sym (upper_lower_text text) ∙ (ap str_to_ascii_uppercase (sym same) ∙ (upper_lower_text name ∙ capital))

pub lower_from_upper : (text name : List ℕ) → str_to_ascii_uppercase text ≡ name → map to_ascii_lowercase name ≡ map to_ascii_lowercase text
lower_from_upper text name same = ap (map to_ascii_lowercase) (sym same) ∙ lower_upper_text text
