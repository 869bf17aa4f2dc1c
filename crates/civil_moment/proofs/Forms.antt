-- What is known of a text that is written as a moment is, and of the parts that a day and a time have.
use Rattle.std.proofs.Common.{◌≡◌, ℕ, ◌+◌, ◌*◌, ◌<◌, ◌≤◌, ◌↔◌, true, ◌&&◌, ◌==◌, nat_le, nat_lt, if◌then◌else◌, List, length, Some, None, pos, ◌+ℤ◌, ◌*ℤ◌, Result, Ok, Err, IfOk, IsOk, refl, ap, subst, arith}
use Rattle.std.specs.Result.{result_ok}
use Rattle.std.proofs.lemmas.Bool.{and_parts, eqb-true, false_from_ne_true, le-leb, leb-true, lt-ltb, ltb-true}
use Rattle.std.proofs.lemmas.Int.{ints}
use Rattle.jiff_core.specs.Calendar.{days_from_civil, days_in_month, IsDate}
use Rattle.jiff_core.specs.Time.{IsTime}
use Rattle.civil_moment.specs.Moment.{has_form, has_marks, has_pairs, is_day, is_pair, is_time, second_of}

pub record IsForm (text : List ℕ) : Type 0 where
  pub long : length text ≡ 20
  pub first : is_pair text 0 ≡ true
  pub second : is_pair text 2 ≡ true
  pub third : is_pair text 5 ≡ true
  pub fourth : is_pair text 8 ≡ true
  pub fifth : is_pair text 11 ≡ true
  pub sixth : is_pair text 14 ≡ true
  pub seventh : is_pair text 17 ≡ true

pub form_parts : (text : List ℕ) → has_form text ≡ true → IsForm text
unfolding has_form has_pairs
form_parts text form =
    let all = and_parts (length text == 20 && has_marks text) (has_pairs text) form in
    let front = and_parts (length text == 20) (has_marks text) all.0 in
    let a = and_parts ((is_pair text 0 && is_pair text 2 && is_pair text 5 && is_pair text 8) && is_pair text 11 && is_pair text 14) (is_pair text 17) all.1 in
    let b = and_parts ((is_pair text 0 && is_pair text 2 && is_pair text 5 && is_pair text 8) && is_pair text 11) (is_pair text 14) a.0 in
    let c = and_parts (is_pair text 0 && is_pair text 2 && is_pair text 5 && is_pair text 8) (is_pair text 11) b.0 in
    let d = and_parts (is_pair text 0 && is_pair text 2 && is_pair text 5) (is_pair text 8) c.0 in
    let e = and_parts (is_pair text 0 && is_pair text 2) (is_pair text 5) d.0 in
    let f = and_parts (is_pair text 0) (is_pair text 2) e.0 in
    record { long = eqb-true (length text) 20 front.0; first = f.0; second = f.1; third = e.1; fourth = d.1; fifth = c.1; sixth = b.1; seventh = a.1 }

-- the day and the time as jiff's constructor takes them
abbrev pub IsCivil : ℕ → ℕ → ℕ → ℕ → ℕ → ℕ → Type 0
IsCivil year month day hour minute second = IsDate (pos year) (pos month) (pos day) × IsTime (pos hour) (pos minute) (pos second) (pos 0)

pub civil_tests : (year month day hour minute second : ℕ) → IsCivil year month day hour minute second → (is_day year month day && is_time hour minute second) ≡ true
civil_tests year month day hour minute second civil =
    let month_some : 1 ≤ month = omega (arith, ints, civil.0.1.0) in
    let month_most : month ≤ 12 = omega (arith, ints, civil.0.1.1) in
    let day_some : 1 ≤ day = omega (arith, ints, civil.0.2.0) in
    let day_most : day ≤ days_in_month (pos year) month = omega (arith, ints, civil.0.2.1) in
    let hours : hour < 24 = omega (arith, ints, civil.1.0.1) in
    let minutes : minute < 60 = omega (arith, ints, civil.1.1.1) in
    let seconds : second < 60 = omega (arith, ints, civil.1.2.1) in
    rw (le-leb 1 month month_some, le-leb month 12 month_most, le-leb 1 day day_some, le-leb day (days_in_month (pos year) month) day_most, lt-ltb hour 24 hours, lt-ltb minute 60 minutes, lt-ltb second 60 seconds)

pub tests_civil : (year month day hour minute second : ℕ) → year ≤ 9999 → (is_day year month day && is_time hour minute second) ≡ true → IsCivil year month day hour minute second
tests_civil year month day hour minute second small tests =
    let both = and_parts (is_day year month day) (is_time hour minute second) tests in
    let days = and_parts (nat_le 1 month && nat_le month 12) (nat_le 1 day && nat_le day (days_in_month (pos year) month)) both.0 in
    let months = and_parts (nat_le 1 month) (nat_le month 12) days.0 in
    let inside = and_parts (nat_le 1 day) (nat_le day (days_in_month (pos year) month)) days.1 in
    let times = and_parts (nat_lt hour 24 && nat_lt minute 60) (nat_lt second 60) both.1 in
    let hours = and_parts (nat_lt hour 24) (nat_lt minute 60) times.0 in
    let month_some : 1 ≤ month = leb-true 1 month months.0 in
    let month_most : month ≤ 12 = leb-true month 12 months.1 in
    let day_some : 1 ≤ day = leb-true 1 day inside.0 in
    let day_most : day ≤ days_in_month (pos year) month = leb-true day (days_in_month (pos year) month) inside.1 in
    let hour_most : hour < 24 = ltb-true hour 24 hours.0 in
    let minute_most : minute < 60 = ltb-true minute 60 hours.1 in
    let second_most : second < 60 = ltb-true second 60 times.1 in (
      ((omega (arith, ints), omega (arith, ints)), (omega (arith, ints), omega (arith, ints)), (omega (arith, ints), omega (arith, ints))),
      ((omega (arith, ints), omega (arith, ints)), (omega (arith, ints), omega (arith, ints)), (omega (arith, ints), omega (arith, ints)), (omega (arith, ints), omega (arith, ints))),
    )

-- where the constructor refuses, there is no second, and where it does not, there is this one
pub no_second : {T E : Type 0} (made : Result T E) (year month day hour minute second : ℕ) → year ≤ 9999 → IsOk made ↔ IsCivil year month day hour minute second → result_ok made ≡ None → second_of year month day hour minute second ≡ None
unfolding second_of
no_second (Ok x) year month day hour minute second small succeeds none = absurd (cc)
no_second (Err e) year month day hour minute second small succeeds none =
    ap (λ b. if b then Some (days_from_civil (pos year) month day *ℤ pos 86400 +ℤ pos (hour * 3600 + minute * 60 + second)) else None)
    (false_from_ne_true (is_day year month day && is_time hour minute second) (λ tests. let wrong = succeeds.1 (tests_civil year month day hour minute second small tests) in absurd (cc)))

pub some_second : {T E : Type 0} (made : Result T E) (x : T) (year month day hour minute second : ℕ) → IsOk made ↔ IsCivil year month day hour minute second → result_ok made ≡ Some x
    → second_of year month day hour minute second ≡ Some (days_from_civil (pos year) month day *ℤ pos 86400 +ℤ pos (hour * 3600 + minute * 60 + second))
unfolding second_of
some_second (Ok y) x year month day hour minute second succeeds some =
    ap (λ b. if b then Some (days_from_civil (pos year) month day *ℤ pos 86400 +ℤ pos (hour * 3600 + minute * 60 + second)) else None)
    (civil_tests year month day hour minute second (succeeds.0 refl))
some_second (Err e) x year month day hour minute second succeeds some = absurd (cc)

-- the value of what was made
pub made_value : {T E : Type 0} (made : Result T E) (x : T) (P : T → Type 0) → IfOk made P → result_ok made ≡ Some x → P x
made_value (Ok y) x P value some = let same : y ≡ x = cc in subst P same value
made_value (Err e) x P value some = absurd (cc)

pub same_pos : (m n : ℕ) → pos m ≡ pos n → m ≡ n
same_pos m n e = cc
