-- The paper's marked examples, in its order, and some of its sentences on writing: one list, under the one claim `shown`, computed over the definitions.
-- Assumes nothing.
use Rattle.std.specs.Prelude.{ℕ, ◌-◌, ◌≡◌, refl, List, [], ◌∷◌, ◌++◌, Bool, true, false, not, ◌&&◌, ◌||◌, eqb, length, replicate, Ok, Err}
use Prim.Native.String.{String}
use Rattle.text.specs.Lists.{same_bytes}
use Rattle.text.specs.Numbers.{number_after, digits, decimal_places_up_to}
use Rattle.text.specs.Texts.{bytes, all_hold}
use Rattle.ident.specs.Identifier.{shape_of, weighted, sum_of, remainder, ends_right, right_id}
use Rattle.fields.specs.declared.reading.Reading.TheVariants.{Absent, Value, Malformed}
use Rattle.fields.specs.Readings.{DateReading, WeightReading, MoneyReading, ServicesReading}
use Rattle.fields.specs.declared.services.Services.{Services}
use Rattle.fields.specs.Frame.{framed}
use Rattle.fields.specs.Dates.{days_in, read_date, malformed_date}
use Rattle.fields.specs.Amounts.{is_money, grams, read_weight, malformed_weight, hellers, read_money, malformed_money}
use Rattle.fields.specs.Calls.{has_money_text, money_bytes, has_weight_text, weight_bytes}
use Rattle.fields.specs.Codes.{numbers_from, codes, number_for}
use Rattle.fields.specs.Services.{words, has_code, no_services, with_code, added, read_by, read_services, malformed_services}

-- ---- an identifier, right or wrong, with its weighted sum and the remainder
unfoldable pub adds : List ℕ → ℕ → ℕ → Bool
adds s sum rest = eqb (sum_of s) sum && eqb (remainder s) rest

unfoldable pub right : String → ℕ → ℕ → Bool
right t sum rest = right_id (bytes t) && adds (bytes t) sum rest

unfoldable pub wrong : String → ℕ → ℕ → Bool
wrong t sum rest = not (right_id (bytes t)) && adds (bytes t) sum rest

-- ---- a text in a field of width w, with spaces behind it
unfoldable pub in_field : ℕ → String → List ℕ
in_field w t = bytes t ++ replicate (w - length (bytes t)) 32

-- ---- what a reading is
unfoldable pub is_hellers : ℕ → MoneyReading → Bool
is_hellers v Absent = false
is_hellers v (Value h) = eqb h.0 v
is_hellers v Malformed = false

unfoldable pub is_grams : ℕ → WeightReading → Bool
is_grams v Absent = false
is_grams v (Value g) = eqb g.0 v
is_grams v Malformed = false

-- the set of just these codes
unfoldable pub is_set : Services → ServicesReading → Bool
is_set t Absent = false
is_set t (Value s) = eqb s.bits t.bits
is_set t Malformed = false

unfoldable pub is_date : ℕ → DateReading → Bool
is_date v (Ok d) = eqb d v
is_date v (Err e) = false

-- ---- the list
unfoldable pub claims : List Bool
claims =
    right "BO5412345671F" 197 10  -- 1
    ∷ right "EE021831216CZ" 71 5  -- 2
    ∷ right "BO3601002029C" 79 2  -- 3
    ∷ wrong "BO0800000026F" 78 1  -- 4, as printed
    ∷ right "BO0800000020F" 78 1  -- 4, corrected
    ∷ wrong "BO0810000026U" 84 7  -- 5, as printed
    ∷ right "BO0810000024U" 84 7  -- 5, corrected
    ∷ right "BO0100010005F" 11 0  -- 7
    ∷ right "BO0100010045F" 39 6  -- 7
    ∷ is_hellers 0 (read_money (in_field 12 "0.00"))  -- 9
    ∷ is_hellers 99999999999 (read_money (in_field 12 "999999999.99"))  -- 9
    ∷ malformed_money (read_money (in_field 12 "00.50"))  -- 10
    ∷ malformed_money (read_money (in_field 12 "1.5"))  -- 10
    ∷ malformed_money (read_money (in_field 12 " 1.50"))  -- 10
    ∷ is_grams 1 (read_weight (bytes " 0.001"))  -- 11
    ∷ malformed_weight (read_weight (bytes "00.500"))  -- 11
    ∷ malformed_weight (read_weight (bytes "0.500 "))  -- 11
    ∷ is_set (with_code (with_code no_services 7) 41) (read_services (in_field 30 "7+41"))  -- 12
    ∷ malformed_services (read_services (in_field 30 "7+"))  -- 12
    ∷ malformed_services (read_services (in_field 30 "7+7"))  -- 12
    ∷ malformed_services (read_services (in_field 30 "07"))  -- 12
    ∷ is_set (with_code no_services 99) (read_services (in_field 30 "99"))  -- codes: numbers, letters, sizes
    ∷ is_set (with_code (with_code (with_code no_services 100) 1) 105) (read_services (in_field 30 "1A+1+S"))
    ∷ is_set (with_code (with_code (with_code (with_code no_services 101) 102) 103) 104) (read_services (in_field 30 "1B+1D+1K+1N"))
    ∷ is_set (with_code (with_code (with_code no_services 106) 107) 108) (read_services (in_field 30 "M+L+XL"))
    ∷ malformed_services (read_services (in_field 30 "S+S"))
    ∷ malformed_services (read_services (in_field 30 "X"))
    ∷ malformed_services (read_services (in_field 30 "1a"))
    ∷ malformed_services (read_services (in_field 30 "S M"))
    ∷ is_date 20240229 (read_date (bytes "20240229"))  -- 13
    ∷ malformed_date (read_date (bytes "20230229"))  -- 13
    ∷ malformed_date (read_date (bytes "19991231"))  -- 13
    ∷ malformed_date (read_date (bytes "21000101"))  -- 13
    ∷ (has_money_text Absent && same_bytes (money_bytes Absent) (in_field 12 ""))  -- absent is written as blank
    ∷ (has_weight_text Absent && same_bytes (weight_bytes Absent) (in_field 6 ""))
    ∷ (has_money_text (hellers 99999999999) && not (has_money_text (hellers 100000000000)))  -- the widest
    ∷ (has_weight_text (grams 99999) && not (has_weight_text (grams 100000)))
    ∷ not (has_money_text Malformed || has_weight_text Malformed)
    ∷ []

pub shown : all_hold claims ≡ true
unfolding bytes all_hold number_after shape_of weighted ends_right right_id adds right wrong framed days_in read_date is_money same_bytes digits decimal_places_up_to numbers_from codes number_for words has_code with_code added read_by in_field is_hellers is_grams is_set is_date claims
shown = refl
