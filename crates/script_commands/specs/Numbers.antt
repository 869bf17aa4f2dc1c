-- Numbers of commands.
use Rattle.std.specs.Prelude.{◌≡◌, ℕ, Bool, true, false, ◌&&◌, ◌==◌, not, nat_le, List, [], ◌∷◌, codes, refl}
use Rattle.std.specs.Char.{is_ascii_digit}
use Rattle.std.specs.List.{list_all}
use Rattle.grant_words.specs.Classes.{Class}
use Rattle.grant_words.specs.Classes.Class.{valued}
use Rattle.grant_words.specs.Classes.Sort.{plain_word}
use Rattle.grant_words.specs.Numbers.{number_of}

-- one byte, or more of which the first is not `0`
abbrev pub has_no_leading_zero : List ℕ → Bool
has_no_leading_zero [] = false
has_no_leading_zero (digit ∷ []) = true
has_no_leading_zero (digit ∷ next ∷ rest) = not (digit == 48)

-- digits without a leading zero, of a number from the least to the most
abbrev pub is_number_within : ℕ → ℕ → List ℕ → Bool
is_number_within least most text =
    has_no_leading_zero text && list_all is_ascii_digit text && nat_le least (number_of text) && nat_le (number_of text) most

-- a length of the published list
abbrev pub is_length : List ℕ → Bool
is_length text = is_number_within 0 4_294_967_295 text

-- a number of looks at it
abbrev pub are_turns : List ℕ → Bool
are_turns text = is_number_within 1 20_000_000 text

abbrev pub length_class : Class
length_class = valued plain_word is_length (codes "0")

abbrev pub turns_class : Class
turns_class = valued plain_word are_turns (codes "1")

example-length : is_length (codes "4294967295") ≡ true
example-length = refl

example-too-long : is_length (codes "4294967296") ≡ false
example-too-long = refl

example-leading-zero : is_length (codes "00") ≡ false
example-leading-zero = refl

example-turns : are_turns (codes "20000000") ≡ true
example-turns = refl

example-no-turns : are_turns (codes "0") ≡ false
example-no-turns = refl
