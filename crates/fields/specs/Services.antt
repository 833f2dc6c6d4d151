-- Field 18: services, blank, or codes joined by "+", left-aligned, no code twice. `Codes` has the table of them.
-- Assumes nothing.
use Rattle.std.specs.Prelude.{ℕ, suc, ◌+◌, ◌/◌, ◌%◌, ◌^◌, Bool, cond, not, ◌&&◌, List, [], ◌∷◌, map, length, eqb, ltb, unwrap_or}
use Rattle.text.specs.Bytes.{is_blank}
use Rattle.layout.specs.Layout.{width_of}
use Rattle.fields.specs.declared.services.Services.{Services}
use Rattle.fields.specs.declared.reading.Reading.TheVariants.{Absent, Value, Malformed}
use Rattle.fields.specs.Readings.{ServicesReading, malformed, value_in}
use Rattle.fields.specs.Codes.{Code, sizes, codes, numbers_of, number_for, is_code}

-- ---- the words of a text, joined by "+": the spaces at its end are in none of them
abbrev pub in_front : ℕ → List (List ℕ) → List (List ℕ)
in_front b [] = (b ∷ []) ∷ []
in_front b (w ∷ ws) = (b ∷ w) ∷ ws

unfoldable pub words : List ℕ → List (List ℕ)
words [] = [] ∷ []
words (b ∷ bs) = cond (is_blank (b ∷ bs)) ([] ∷ []) (cond (eqb b 43) ([] ∷ words bs) (in_front b (words bs)))

-- the numbers of the codes that they are, with 0 for a word that is none
abbrev pub numbers_in : List Code → List ℕ → List ℕ
numbers_in table f = map (number_for table) (words f)

-- ---- a set of codes as data: number c is bit c
abbrev pub bit : ℕ → ℕ → Bool
bit k n = eqb (n / 2 ^ k % 2) 1

unfoldable pub has_code : Services → ℕ → Bool
has_code s c = bit c s.bits

abbrev pub no_services : Services
no_services = record { bits = 0 }

unfoldable pub with_code : Services → ℕ → Services
with_code s c = record { bits = s.bits + 2 ^ c }

-- codes added to a set one by one: malformed at the first that is no code, or is there already
unfoldable pub added : Services → List ℕ → ServicesReading
added s [] = Value s
added s (c ∷ cs) = cond (is_code c && not (has_code s c)) (added (with_code s c) cs) Malformed

-- by any table of codes, and by ours
unfoldable pub read_by : List Code → List ℕ → ServicesReading
read_by table f = cond (eqb (length f) (width_of 18)) (cond (is_blank f) Absent (added no_services (numbers_in table f))) Malformed

abbrev pub read_services : List ℕ → ServicesReading
read_services = read_by codes

-- ---- what the rules ask of the field
abbrev pub malformed_services : ServicesReading → Bool
malformed_services r = malformed r

-- the services that were read; none where the field is blank
abbrev pub services_in : ServicesReading → Services
services_in r = unwrap_or (value_in r) no_services

-- how many of some numbers pass a test
unfoldable pub how_many : (ℕ → Bool) → List ℕ → ℕ
how_many test [] = 0
how_many test (n ∷ ns) = cond (test n) (suc (how_many test ns)) (how_many test ns)

-- more than one size is there
unfoldable pub several_sizes : Services → Bool
several_sizes s = ltb 1 (how_many (has_code s) (numbers_of sizes))
