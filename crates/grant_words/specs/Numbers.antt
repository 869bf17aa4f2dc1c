-- Numbers that digits write.
use Rattle.std.specs.Prelude.{◌≡◌, ℕ, ◌+◌, ◌-◌, ◌*◌, Bool, ◌&&◌, nat_le, List, [], ◌∷◌, codes, refl}
use Rattle.std.specs.Char.{is_ascii_digit}
use Rattle.std.specs.List.{list_all}

-- the number that digits write behind those of another number
abbrev pub number_behind : ℕ → List ℕ → ℕ
number_behind before [] = before
number_behind before (digit ∷ digits) = number_behind (before * 10 + (digit - 48)) digits

abbrev pub number_of : List ℕ → ℕ
number_of digits = number_behind 0 digits

example-number : number_of (codes "00120") ≡ 120
example-number = refl

-- digits alone, of a number below 2 ^ 32; no digit at all writes 0
abbrev pub is_number : List ℕ → Bool
is_number text = list_all is_ascii_digit text && nat_le (number_of text) 4_294_967_295
