-- A small grammar over bytes, on which the readers are tried.
use Rattle.std.specs.Prelude.{ℕ, ◌-◌, IsTrue, ◌&&◌, Bool, false, nat_eq, nat_le, List, refl}
use Rattle.std.proofs.Common.{arith}
use Rattle.std.proofs.lemmas.Bool.Decides.{nat_tests}
use Rattle.acl_grammar.specs.Grammar.{Grammar}
use Rattle.acl_grammar.specs.Grammar.Grammar.{token, after, empty, both, to, choice, list, many}
use Rattle.acl_grammar.specs.Reader.{Sane, first}

abbrev pub is : ℕ → ℕ → Bool
is mark t = nat_eq t mark

abbrev pub is_letter : ℕ → Bool
is_letter t = nat_le 97 t && nat_le t 122

abbrev pub is_digit : ℕ → Bool
is_digit t = nat_le 48 t && nat_le t 57

abbrev pub letter : Grammar ℕ ℕ
letter = token is_letter (λ t. t)

-- letters with commas, in parentheses
abbrev pub group : Grammar ℕ (List ℕ)
group = after (is 40) (to (λ v. v.0) (both (list (is 44) letter) (after (is 41) (empty (tt {0})))))

-- `!` for ten, or `#` before a digit
abbrev pub option : Grammar ℕ ℕ
option = choice (after (is 33) (empty 10)) (after (is 35) (token is_digit (λ t. t - 48)))

-- groups with semicolons, and behind them options in any order
abbrev pub sentence : Grammar ℕ (List (List ℕ) × List ℕ)
sentence = both (list (is 59) group) (many option)

-- letters with commas, and a full stop
abbrev pub letters : Grammar ℕ (List ℕ)
letters = to (λ v. v.0) (both (list (is 44) letter) (after (is 46) (empty (tt {0}))))

abbrev pub pair : Grammar ℕ (ℕ × ℕ)
pair = both letter (after (is 64) letter)

-- letters with `@` between two and commas between pairs, and a question mark
abbrev pub pairs : Grammar ℕ (List (ℕ × ℕ))
pairs = to (λ v. v.0) (both (list (is 44) pair) (after (is 63) (empty (tt {0}))))

nothing : (p : ℕ → Bool) (t : ℕ) → IsTrue (p t) → IsTrue false → ⊥
nothing p t h k = cc

pub letter_sane : Sane letter
letter_sane = (97, refl)

pub group_sane : Sane group
group_sane = ((40, refl), (((44, refl), letter_sane, nothing (is 44), refl), ((41, refl), tt), λ t h k. grind (arith, nat_tests)))

pub option_sane : Sane option
option_sane = (((33, refl), tt), ((35, refl), (48, refl)), (λ t h k. grind (arith, nat_tests)), refl)

pub sentence_sane : Sane sentence
sentence_sane = (((59, refl), group_sane, nothing (is 59), refl), (option_sane, nothing (first option), refl), λ t h k. grind (arith, nat_tests))

pub letters_sane : Sane letters
letters_sane = (((44, refl), letter_sane, nothing (is 44), refl), ((46, refl), tt), λ t h k. grind (arith, nat_tests))

pub pair_sane : Sane pair
pair_sane = (letter_sane, ((64, refl), letter_sane), λ t h k. cc)

pub pairs_sane : Sane pairs
pairs_sane = (((44, refl), pair_sane, nothing (is 44), refl), ((63, refl), tt), λ t h k. grind (arith, nat_tests))
