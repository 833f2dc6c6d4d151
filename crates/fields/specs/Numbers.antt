-- Fields of digits alone: telephone, variable symbol, serial and pieces; and the digits of a postcode at home.
-- Assumes nothing.
use Rattle.std.specs.Prelude.{ℕ, Bool, ◌&&◌, ◌≡◌, refl, List, get_or, eqb, ltb, unwrap_or}
use Rattle.text.specs.Bytes.{all_digits, is_blank}
use Rattle.text.specs.Lists.{part}
use Rattle.text.specs.Numbers.{number_of}
use Rattle.layout.specs.Layout.{width_of}
use Rattle.fields.specs.Frame.{framed}
use Rattle.fields.specs.declared.reading.Reading.TheVariants.{Absent, Value, Malformed}
use Rattle.fields.specs.Readings.{NumberReading, malformed, absent, value_in}

-- so many digits, or blank
abbrev pub read_digits : ℕ → List ℕ → NumberReading
read_digits w f = framed Absent Malformed w f (all_digits f) (Value (number_of f))

-- ---- 12: telephone, blank, or "+", twelve digits, spaces
abbrev pub is_telephone : List ℕ → Bool
is_telephone f = eqb (get_or f 0 0) 43 && all_digits (part f 1 13) && is_blank (part f 13 20)

abbrev pub read_telephone : List ℕ → NumberReading
read_telephone f = framed Absent Malformed (width_of 12) f (is_telephone f) (Value (number_of (part f 1 13)))

-- ---- 21: variable symbol, blank or ten digits
abbrev pub read_symbol : List ℕ → NumberReading
read_symbol = read_digits (width_of 21)

-- ---- 23 serial and 24 pieces: blank or 01 to 99
abbrev pub read_count : List ℕ → NumberReading
read_count f = framed Absent Malformed (width_of 23) f (all_digits f && ltb 0 (number_of f)) (Value (number_of f))

pub pieces_as_wide_as_serial : width_of 24 ≡ width_of 23
pieces_as_wide_as_serial = refl

-- ---- what the rules ask of such a field
abbrev pub malformed_number : NumberReading → Bool
malformed_number r = malformed r

abbrev pub absent_number : NumberReading → Bool
absent_number r = absent r

-- the number that was read; 0 where there is none
abbrev pub number_in : NumberReading → ℕ
number_in r = unwrap_or (value_in r) 0
