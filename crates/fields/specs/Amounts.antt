-- Fields 15 to 17: weight in whole grams, money in whole haléře; how each is read, and its one writing.
-- Assumes nothing.
use Rattle.std.specs.Prelude.{ℕ, ◌+◌, ◌-◌, ◌*◌, ◌/◌, Bool, true, cond, not, ◌&&◌, ◌||◌, ◌≡◌, refl, List, ◌∷◌, ◌++◌, get_or, replicate, eqb, leb, ltb}
use Rattle.text.specs.Bytes.{is_digit, all_digits, is_blank, run}
use Rattle.text.specs.Lists.{part}
use Rattle.text.specs.Numbers.{number_of, digits, decimal_places, decimal}
use Rattle.layout.specs.Layout.{width_of}
use Rattle.fields.specs.Frame.{framed}
use Rattle.fields.specs.declared.reading.Reading.TheVariants.{Absent, Value, Malformed}
use Rattle.fields.specs.Readings.{WeightReading, MoneyReading, malformed, absent}

-- ---- 15: weight in kg, right-aligned: one or two digits, dot, three digits; no leading zero except a lone 0 before the dot
abbrev pub is_weight : List ℕ → Bool
is_weight f =
    (eqb (get_or f 0 0) 32 || is_digit (get_or f 0 0) && not (eqb (get_or f 0 0) 48))
    && is_digit (get_or f 1 0) && eqb (get_or f 2 0) 46 && all_digits (part f 3 6)

-- a space in front counts as 0
abbrev pub grams_in : List ℕ → ℕ
grams_in f = number_of (part f 0 2) * 1000 + number_of (part f 3 6)

abbrev pub grams : ℕ → WeightReading
grams v = Value (record { 0 = v })

abbrev pub read_weight : List ℕ → WeightReading
read_weight f = framed Absent Malformed (width_of 15) f (is_weight f) (grams (grams_in f))

-- the one writing of so many grams
unfoldable pub weight_text : ℕ → List ℕ
weight_text v = cond (ltb v 10000) (32 ∷ digits 1 (v / 1000)) (digits 2 (v / 1000)) ++ 46 ∷ digits 3 v

abbrev pub malformed_weight : WeightReading → Bool
malformed_weight r = malformed r

abbrev pub absent_or_zero_weight : WeightReading → Bool
absent_or_zero_weight Absent = true
absent_or_zero_weight (Value g) = eqb g.0 0
absent_or_zero_weight Malformed = true

-- ---- 16 and 17: money in Kč, left-aligned: one to nine digits, dot, two digits; no leading zero except a lone 0 before the dot
-- so many digits stand before the dot
abbrev pub crown_digits : List ℕ → ℕ
crown_digits f = run is_digit f

unfoldable pub is_money : List ℕ → Bool
is_money f =
    leb 1 (crown_digits f) && leb (crown_digits f) 9 && (eqb (crown_digits f) 1 || not (eqb (get_or f 0 0) 48))
    && eqb (get_or f (crown_digits f) 0) 46
    && all_digits (part f (crown_digits f + 1) (crown_digits f + 3)) && is_blank (part f (crown_digits f + 3) 12)

abbrev pub hellers_in : List ℕ → ℕ
hellers_in f = number_of (part f 0 (crown_digits f)) * 100 + number_of (part f (crown_digits f + 1) (crown_digits f + 3))

abbrev pub hellers : ℕ → MoneyReading
hellers v = Value (record { 0 = v })

abbrev pub read_money : List ℕ → MoneyReading
read_money f = framed Absent Malformed (width_of 16) f (is_money f) (hellers (hellers_in f))

-- the one writing of so many haléře
unfoldable pub money_text : ℕ → List ℕ
money_text v = decimal (v / 100) ++ 46 ∷ (digits 2 v ++ replicate (9 - decimal_places (v / 100)) 32)

pub price_as_wide_as_cash : width_of 17 ≡ width_of 16
price_as_wide_as_cash = refl

abbrev pub malformed_money : MoneyReading → Bool
malformed_money r = malformed r

abbrev pub absent_money : MoneyReading → Bool
absent_money r = absent r

abbrev pub absent_or_zero_money : MoneyReading → Bool
absent_or_zero_money Absent = true
absent_or_zero_money (Value h) = eqb h.0 0
absent_or_zero_money Malformed = true
