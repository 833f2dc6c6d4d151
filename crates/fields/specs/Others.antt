-- Country, the fields that stay blank, status and main consignment.
-- Assumes nothing.
use Rattle.std.specs.Prelude.{ℕ, Bool, false, not, ◌&&◌, List, get_or, eqb, Ok, Err, is_err}
use Rattle.text.specs.Bytes.{is_capital}
use Rattle.ident.specs.Identifier.{right_id}
use Rattle.ident.specs.Calls.{parts_of}
use Rattle.layout.specs.Layout.{width_of}
use Rattle.fields.specs.Frame.{framed}
use Rattle.fields.specs.declared.reading.Reading.TheVariants.{Absent, Value, Malformed}
use Rattle.fields.specs.Readings.{CountryReading, EmptyReading, MainReading, no_form, malformed, absent}
use Rattle.fields.specs.declared.others.Country.{Country}
use Rattle.fields.specs.declared.others.StatusReading.{StatusReading}
use Rattle.fields.specs.declared.others.StatusReading.TheVariants as Status

-- ---- 6: country, blank (domestic) or two capitals, never CZ
abbrev pub is_country : ℕ → ℕ → Bool
is_country a b = is_capital a && is_capital b && not (eqb a 67 && eqb b 90)

abbrev pub capitals : ℕ → ℕ → Country
capitals a b = record { 0 = a; 1 = b }

abbrev pub read_country : List ℕ → CountryReading
read_country f =
    framed Absent Malformed (width_of 6) f (is_country (get_or f 0 0) (get_or f 1 0)) (Value (capitals (get_or f 0 0) (get_or f 1 0)))

-- ---- 14 and 25 blank
abbrev pub read_empty : ℕ → List ℕ → EmptyReading
read_empty w f = framed (Ok tt) (Err no_form) w f false (Err no_form)

-- ---- 19: status, two spaces (to be posted) or "0" and a space (cancelled)
abbrev pub read_status : List ℕ → StatusReading
read_status f = framed Status.Live Status.Malformed (width_of 19) f (eqb (get_or f 0 0) 48 && eqb (get_or f 1 0) 32) Status.Cancelled

-- ---- 22: main consignment, blank or a right identifier
abbrev pub read_main : List ℕ → MainReading
read_main f = framed Absent Malformed (width_of 22) f (right_id f) (Value (parts_of f))

-- ---- what the rules ask of such a field
abbrev pub malformed_country : CountryReading → Bool
malformed_country r = malformed r

-- domestic
abbrev pub absent_country : CountryReading → Bool
absent_country r = absent r

abbrev pub malformed_empty : EmptyReading → Bool
malformed_empty r = is_err r

abbrev pub malformed_main : MainReading → Bool
malformed_main r = malformed r

abbrev pub absent_main : MainReading → Bool
absent_main r = absent r
