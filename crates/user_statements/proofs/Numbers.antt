-- What is a number of an option.
use Rattle.std.proofs.Common.{◌≡◌, ◌&&◌, false, nat_le, length, ℕ, List}
use Rattle.std.proofs.lemmas.Bool.{and_left, and_right}
use Rattle.std.specs.Char.{is_ascii_digit}
use Rattle.std.specs.List.{list_all}
use Rattle.std.specs.Str.{str_to_ascii_lowercase}
use Rattle.grant_words.proofs.Numbers.{same_in_lower_case}
use Rattle.grant_words.specs.Numbers.{number_of}
use Rattle.user_statements.specs.Options.{is_number_text}

no_number : (text : List ℕ) → list_all is_ascii_digit text ≡ false → is_number_text text ≡ false
no_number text h =
    and_left (nat_le 1 (length text) && nat_le (length text) 5 && list_all is_ascii_digit text) (nat_le (number_of text) 32767)
    (and_right (nat_le 1 (length text) && nat_le (length text) 5) (list_all is_ascii_digit text) h)

-- a number is the same in any case
pub same_number : (text : List ℕ) → is_number_text (str_to_ascii_lowercase text) ≡ is_number_text text
same_number text = same_in_lower_case is_number_text no_number text
