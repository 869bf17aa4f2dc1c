-- What is a number of a command.
use Rattle.std.proofs.Common.{◌≡◌, ◌&&◌, false, nat_le, ℕ, List}
use Rattle.std.proofs.lemmas.Bool.{and_left, and_right}
use Rattle.std.specs.Char.{is_ascii_digit}
use Rattle.std.specs.List.{list_all}
use Rattle.std.specs.Str.{str_to_ascii_lowercase}
use Rattle.grant_words.proofs.Numbers.{same_in_lower_case}
use Rattle.grant_words.specs.Numbers.{number_of}
use Rattle.script_commands.specs.Numbers.{has_no_leading_zero, is_number_within}

no_number : (least most : ℕ) (text : List ℕ) → list_all is_ascii_digit text ≡ false → is_number_within least most text ≡ false
no_number least most text h =
    and_left (has_no_leading_zero text && list_all is_ascii_digit text && nat_le least (number_of text)) (nat_le (number_of text) most)
    (and_left (has_no_leading_zero text && list_all is_ascii_digit text) (nat_le least (number_of text))
    (and_right (has_no_leading_zero text) (list_all is_ascii_digit text) h))

-- a number is the same in any case
pub same_number : (least most : ℕ) (text : List ℕ) → is_number_within least most (str_to_ascii_lowercase text) ≡ is_number_within least most text
same_number least most text = same_in_lower_case (is_number_within least most) (no_number least most) text
