-- What stands before the limits of an entry.
use Rattle.std.specs.Prelude.{ℕ, List, ◌++◌}
use Rattle.entry_bytes.specs.Spelling.{IsHost, IsNumber, IsUser, number_bytes, short_text}
use Rattle.entry_reading.specs.declared.front.Front.{Front}

-- caller, number, user, host, the number of limits, and other bytes behind them
abbrev pub front_bytes : Front → List ℕ → List ℕ
front_bytes front rest =
    number_bytes front.caller.0 ++ (number_bytes front.number ++ (short_text front.by.user ++ (short_text front.by.host ++ (number_bytes front.count ++ rest))))

pub record IsFront (front : Front) : Type 0 where
  pub caller : IsNumber front.caller.0
  pub number : IsNumber front.number
  pub user : IsUser front.by.user
  pub host : IsHost front.by.host
  pub count : IsNumber front.count
