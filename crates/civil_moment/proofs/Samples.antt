-- Moments, computed.
use Rattle.std.specs.Prelude.{◌≡◌, codes, Some, None, pos, negsuc, refl}
use Rattle.jiff_core.specs.Calendar.{days_from_civil, days_of_months, days_of_years, day_count}
use Rattle.civil_moment.specs.Moment.{has_form, has_marks, has_pairs, moment_of, second_of}

epoch : moment_of (codes "1970-01-01T00:00:00Z") ≡ Some (pos 0)
unfolding days_from_civil days_of_months days_of_years day_count has_form has_marks has_pairs moment_of second_of
epoch = refl

before_epoch : moment_of (codes "1969-12-31T23:59:59Z") ≡ Some (negsuc 0)
unfolding days_from_civil days_of_months days_of_years day_count has_form has_marks has_pairs moment_of second_of
before_epoch = refl

march : moment_of (codes "2024-03-01T00:00:00Z") ≡ Some (pos 1_709_251_200)
unfolding days_from_civil days_of_months days_of_years day_count has_form has_marks has_pairs moment_of second_of
march = refl

no_such_day : moment_of (codes "2024-02-30T00:00:00Z") ≡ None
unfolding days_from_civil days_of_months days_of_years day_count has_form has_marks has_pairs moment_of second_of
no_such_day = refl

leap_second : moment_of (codes "2016-12-31T23:59:60Z") ≡ None
unfolding days_from_civil days_of_months days_of_years day_count has_form has_marks has_pairs moment_of second_of
leap_second = refl

lower_case : moment_of (codes "2024-03-01t00:00:00Z") ≡ None
unfolding days_from_civil days_of_months days_of_years day_count has_form has_marks has_pairs moment_of second_of
lower_case = refl
