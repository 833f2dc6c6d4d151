-- Fields 2 and 3: a date and a time, which may not be blank.
-- Assumes nothing.
use Rattle.std.specs.Prelude.{ℕ, ◌+◌, ◌*◌, ◌%◌, Bool, cond, not, ◌&&◌, ◌||◌, List, length, get_or, eqb, leb, Ok, Err, is_err}
use Rattle.text.specs.Bytes.{all_digits}
use Rattle.text.specs.Lists.{part}
use Rattle.text.specs.Numbers.{number_of}
use Rattle.layout.specs.Layout.{width_of}
use Rattle.fields.specs.Readings.{DateReading, TimeReading, no_form}

-- ---- 2: date ccyymmdd, a real Gregorian date in 2000 to 2099
abbrev pub is_leap : ℕ → Bool
is_leap y = eqb (y % 4) 0 && (not (eqb (y % 100) 0) || eqb (y % 400) 0)

unfoldable pub days_in : ℕ → ℕ → ℕ
days_in y m = cond (eqb m 2) (cond (is_leap y) 29 28) (cond (eqb m 4 || eqb m 6 || eqb m 9 || eqb m 11) 30 31)

abbrev pub real_date : ℕ → ℕ → ℕ → Bool
real_date y m d = leb 2000 y && leb y 2099 && leb 1 m && leb m 12 && leb 1 d && leb d (days_in y m)

abbrev pub year_of : List ℕ → ℕ
year_of f = number_of (part f 0 4)

abbrev pub month_of : List ℕ → ℕ
month_of f = number_of (part f 4 6)

abbrev pub day_of : List ℕ → ℕ
day_of f = number_of (part f 6 8)

-- the value is the number ccyymmdd
unfoldable pub read_date : List ℕ → DateReading
read_date f =
    cond (eqb (length f) (width_of 2))
    (cond (all_digits f && real_date (year_of f) (month_of f) (day_of f)) (Ok (year_of f * 10000 + month_of f * 100 + day_of f)) (Err no_form))
    (Err no_form)

abbrev pub malformed_date : DateReading → Bool
malformed_date r = is_err r

-- ---- 3: time hh:mm:ss, hours to 23, minutes and seconds to 59
abbrev pub hours_of : List ℕ → ℕ
hours_of f = number_of (part f 0 2)

abbrev pub minutes_of : List ℕ → ℕ
minutes_of f = number_of (part f 3 5)

abbrev pub seconds_of : List ℕ → ℕ
seconds_of f = number_of (part f 6 8)

abbrev pub has_time_form : List ℕ → Bool
has_time_form f = all_digits (part f 0 2) && eqb (get_or f 2 0) 58 && all_digits (part f 3 5) && eqb (get_or f 5 0) 58 && all_digits (part f 6 8)

abbrev pub is_time : List ℕ → Bool
is_time f = has_time_form f && leb (hours_of f) 23 && leb (minutes_of f) 59 && leb (seconds_of f) 59

-- the value is in seconds from midnight
unfoldable pub read_time : List ℕ → TimeReading
read_time f =
    cond (eqb (length f) (width_of 3))
    (cond (is_time f) (Ok (hours_of f * 3600 + minutes_of f * 60 + seconds_of f)) (Err no_form))
    (Err no_form)

abbrev pub malformed_time : TimeReading → Bool
malformed_time r = is_err r
