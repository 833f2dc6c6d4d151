-- The postcode, judged by the country.
-- Assumes nothing.
use Rattle.std.specs.Prelude.{ℕ, Bool, cond, List}
use Rattle.layout.specs.Layout.{width_of}
use Rattle.fields.specs.Readings.{NumberReading, TextReading, CountryReading, PostcodeReading, malformed, absent, mapped}
use Rattle.fields.specs.declared.postcodes.Postcode.TheVariants.{Domestic, Foreign}
use Rattle.fields.specs.Numbers.{read_digits}
use Rattle.fields.specs.Texts.{read_text}
use Rattle.fields.specs.Others.{absent_country}

-- digits or blank, at home
abbrev pub domestic : NumberReading → PostcodeReading
domestic r = mapped Domestic r

-- a text or blank, abroad
abbrev pub foreign : TextReading → PostcodeReading
foreign r = mapped Foreign r

-- ---- 5: postcode. With field 6 blank five digits, or blank; with field 6 not blank, right or malformed, text under the rules of field 4, or blank
abbrev pub read_postcode : CountryReading → List ℕ → PostcodeReading
read_postcode country f = cond (absent_country country) (domestic (read_digits (width_of 5) f)) (foreign (read_text (width_of 5) f))

-- ---- what the rules ask of it
abbrev pub malformed_postcode : PostcodeReading → Bool
malformed_postcode r = malformed r

abbrev pub absent_postcode : PostcodeReading → Bool
absent_postcode r = absent r
