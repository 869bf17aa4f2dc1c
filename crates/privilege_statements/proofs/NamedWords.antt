-- Names of privileges as keywords.
use Rattle.std.proofs.Common.{◌≡◌, ◌≢◌, ℕ, zero, suc, ◌+◌, ◌<◌, Bool, true, false, cond, List, [], ◌∷◌, map, refl, arith}
use borrow.Author.Count.{below_more}
use Rattle.std.specs.Prelude.{Option, Some, None, IsNone, unwrap_or, ◌||◌}
use Rattle.std.specs.Char.{to_ascii_lowercase}
use Rattle.std.specs.Str.{str_eq_ignore_ascii_case, str_to_ascii_uppercase}
use Rattle.std.proofs.lemmas.Slice.Eq.{bytes_eq-Decides}
use Rattle.grant_words.specs.Classes.{is_one_of}
use Rattle.priv_sets.proofs.Names.{capital_dynamic_name, lower_from_upper, upper_from_lower}
use Rattle.priv_sets.specs.DynamicNames.{dynamic_name}
use Rattle.privilege_statements.specs.PrivilegeNames.{dynamic_numbers, named_among, numbers_from}

step : (t rest : Bool) (number : ℕ) (later : Option ℕ) → later ≡ cond rest (Some (unwrap_or later 0)) None
    → cond t (Some number) later ≡ cond (t || rest) (Some (unwrap_or (cond t (Some number) later) 0)) None
step true rest number later same = refl
step false rest number later same = same

-- some number is found exactly where the text is one of the names
pub among_words : (name : ℕ → List ℕ) (numbers : List ℕ) (text : List ℕ)
    → named_among name numbers text ≡ cond (is_one_of (map name numbers) text) (Some (unwrap_or (named_among name numbers text) 0)) None
among_words name [] text = refl
among_words name (number ∷ numbers) text =
    step (str_eq_ignore_ascii_case (name number) text) (is_one_of (map name numbers) text) number (named_among name numbers text) (among_words name numbers text)

none_is : (result : Option ℕ) → IsNone result → result ≡ None
none_is None h = refl
none_is (Some p) h = cc

choose : (t : Bool) (number : ℕ) (result later : Option ℕ) → (t ≡ true → result ≡ Some number) → (t ≡ false → result ≡ later) → result ≡ cond t (Some number) later
choose t number result later when otherwise =
    elim t as (λ u. (u ≡ true → result ≡ Some number) → (u ≡ false → result ≡ later) → result ≡ cond u (Some number) later) [
      | true ↦ λ yes' no'. yes' refl
      | false ↦ λ yes' no'. no' refl
    ] when otherwise

is_same : (text : List ℕ) (number : ℕ) → str_eq_ignore_ascii_case (dynamic_name number) text ≡ true → str_to_ascii_uppercase text ≡ dynamic_name number
is_same text number same =
    upper_from_lower text (dynamic_name number) (capital_dynamic_name number)
    ((bytes_eq-Decides (map to_ascii_lowercase (dynamic_name number)) (map to_ascii_lowercase text)).0 same)

is_other : (text : List ℕ) (number : ℕ) → str_eq_ignore_ascii_case (dynamic_name number) text ≡ false → str_to_ascii_uppercase text ≢ dynamic_name number
is_other text number other same =
    let equal : str_eq_ignore_ascii_case (dynamic_name number) text ≡ true =
    (bytes_eq-Decides (map to_ascii_lowercase (dynamic_name number)) (map to_ascii_lowercase text)).1 (lower_from_upper text (dynamic_name number) same) in
    cc

from : (text : List ℕ) (result : Option ℕ) (first count : ℕ) → first + count ≡ 20 → ((p : ℕ) → p < 20 → str_to_ascii_uppercase text ≡ dynamic_name p → result ≡ Some p)
    → (((p : ℕ) → p < 20 → str_to_ascii_uppercase text ≢ dynamic_name p) → IsNone result) → ((p : ℕ) → p < first → str_to_ascii_uppercase text ≢ dynamic_name p)
    → result ≡ named_among dynamic_name (numbers_from first count) text
from text result first zero whole only none before = none_is result (none (λ p less. before p (omega arith)))
from text result first (suc count) whole only none before =
    choose (str_eq_ignore_ascii_case (dynamic_name first) text) first result (named_among dynamic_name (numbers_from (suc first) count) text)
    (λ same. only first (omega arith) (is_same text first same))
    (λ other. from text result (suc first) count (omega arith) only none
    (λ p less. below_more (λ q. str_to_ascii_uppercase text ≢ dynamic_name q) first before (is_other text first other) p (omega arith)))

pub by_name_is_among : (text : List ℕ) (result : Option ℕ) → ((p : ℕ) → p < 20 → str_to_ascii_uppercase text ≡ dynamic_name p → result ≡ Some p)
    → (((p : ℕ) → p < 20 → str_to_ascii_uppercase text ≢ dynamic_name p) → IsNone result) → result ≡ named_among dynamic_name dynamic_numbers text
unfolding dynamic_numbers
by_name_is_among text result only none = from text result 0 20 refl only none (λ p less. absurd (omega arith))
