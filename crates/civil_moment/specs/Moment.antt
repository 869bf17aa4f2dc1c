-- Moments, as they are written, and the seconds that they stand for.
use Rattle.std.specs.Prelude.{ℕ, ◌+◌, ◌-◌, ◌*◌, Bool, ◌&&◌, ◌==◌, nat_le, nat_lt, if◌then◌else◌, List, length, slice_index, Option, Some, None, ℤ, pos, ◌+ℤ◌, ◌*ℤ◌}
use Rattle.std.specs.Char.{is_ascii_digit}
use Rattle.jiff_core.specs.Calendar.{days_in_month, days_from_civil}

-- two digits stand at this place
abbrev pub is_pair : List ℕ → ℕ → Bool
is_pair text place = is_ascii_digit (slice_index text place) && is_ascii_digit (slice_index text (place + 1))

-- their number
abbrev pub pair_at : List ℕ → ℕ → ℕ
pair_at text place = (slice_index text place - 48) * 10 + (slice_index text (place + 1) - 48)

-- `-`, `T`, `:` and `Z` at their places in `2024-03-01T00:00:00Z`
unfoldable pub has_marks : List ℕ → Bool
has_marks text =
    (slice_index text 4 == 45 && slice_index text 7 == 45) && (slice_index text 13 == 58 && slice_index text 16 == 58)
    && slice_index text 10 == 84 && slice_index text 19 == 90

-- digits at all other places
unfoldable pub has_pairs : List ℕ → Bool
has_pairs text =
    (is_pair text 0 && is_pair text 2 && is_pair text 5 && is_pair text 8)
    && is_pair text 11 && is_pair text 14 && is_pair text 17

-- the text is written as a moment is
unfoldable pub has_form : List ℕ → Bool
has_form text = length text == 20 && has_marks text && has_pairs text

-- the calendar has this day
abbrev pub is_day : ℕ → ℕ → ℕ → Bool
is_day year month day = (nat_le 1 month && nat_le month 12) && (nat_le 1 day && nat_le day (days_in_month (pos year) month))

-- the clock has this time
abbrev pub is_time : ℕ → ℕ → ℕ → Bool
is_time hour minute second = nat_lt hour 24 && nat_lt minute 60 && nat_lt second 60

-- the seconds from 1970-01-01T00:00:00Z to this time of this day, if there is one
unfoldable pub second_of : ℕ → ℕ → ℕ → ℕ → ℕ → ℕ → Option ℤ
second_of year month day hour minute second =
    if is_day year month day && is_time hour minute second
    then Some (days_from_civil (pos year) month day *ℤ pos 86400 +ℤ pos (hour * 3600 + minute * 60 + second)) else None

-- the seconds from 1970-01-01T00:00:00Z to the moment that the text writes, if it writes one
unfoldable pub moment_of : List ℕ → Option ℤ
moment_of text =
    if has_form text
    then second_of (pair_at text 0 * 100 + pair_at text 2) (pair_at text 5) (pair_at text 8) (pair_at text 11) (pair_at text 14) (pair_at text 17)
    else None
