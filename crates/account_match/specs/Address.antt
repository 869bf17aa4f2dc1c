-- IPv4 texts, and masks. MySQL 8.0 Reference Manual, "Specifying Account Names".
use Rattle.std.specs.Prelude.{◌≡◌, ℕ, ◌+◌, ◌-◌, ◌*◌, ◌^◌, ◌<◌, Bool, ◌==◌, ◌&&◌, List, [], ◌∷◌, Option, Some, None, option_map, nat_le, if◌then◌else◌}
use Rattle.std.specs.Char.{is_ascii_digit}
use Rattle.std.specs.Int.{w32, from_be_bytes, leading_ones, trailing_zeros}
use Rattle.std.specs.Net.Text.{dotted_text}
use Rattle.std.specs.Net.Reader.{read_ipv4, whole_value}

-- the bits of four decimal numbers from 0 to 255 without leading zeros, with dots between them; none for any other text
unfoldable pub address_of : List ℕ → Option ℕ
address_of text = option_map (from_be_bytes w32) (whole_value (read_ipv4 text))

-- the text spells these bits as four decimal numbers below 256 with dots between them
pub record IsSpelled (text : List ℕ) (bits : ℕ) : Type 0 where
  pub a : ℕ
  pub b : ℕ
  pub c : ℕ
  pub d : ℕ
  pub fit : (a < 256) × (b < 256) × (c < 256) × (d < 256)
  pub spelled : text ≡ dotted_text a b c d
  pub value : bits ≡ ((a * 256 + b) * 256 + c) * 256 + d

-- a length that is not above 32
abbrev pub at_most_32 : ℕ → Option ℕ
at_most_32 length = if nat_le length 32 then Some length else None

-- a length from 0 to 32 without leading zeros; none for any other text
abbrev pub mask_length : List ℕ → Option ℕ
mask_length (unit ∷ []) = if is_ascii_digit unit then at_most_32 (unit - 48) else None
mask_length (tens ∷ unit ∷ []) =
    if is_ascii_digit tens && nat_le 49 tens && is_ascii_digit unit then at_most_32 ((tens - 48) * 10 + (unit - 48)) else None
mask_length text = None

-- so many ones, and zeros behind them
unfoldable pub mask_of : ℕ → ℕ
mask_of length = 2 ^ 32 - 2 ^ (32 - length)

-- ones followed by zeros, 32 together
abbrev pub is_mask : ℕ → Bool
is_mask bits = leading_ones w32 bits + trailing_zeros w32 bits == 32
