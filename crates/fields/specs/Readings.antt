-- What a field's reading is: absent, a value as data, or malformed. A field that cannot be absent is a result.
-- Assumes nothing.
use Rattle.std.specs.Prelude.{ℕ, Bool, true, false, ◌≡◌, ⊤, Option, Some, None, Result}
use Rattle.ident.specs.declared.Parts.{Parts}
use Rattle.fields.specs.declared.reading.Reading.{Reading}
use Rattle.fields.specs.declared.reading.Reading.TheVariants.{Absent, Value, Malformed}
use Rattle.fields.specs.declared.reading.Malformed as form
use Rattle.fields.specs.declared.amounts.Grams.{Grams}
use Rattle.fields.specs.declared.amounts.Hellers.{Hellers}
use Rattle.fields.specs.declared.others.Country.{Country}
use Rattle.fields.specs.declared.postcodes.Postcode.{Postcode}
use Rattle.fields.specs.declared.services.Services.{Services}

-- ---- of any kind
abbrev pub malformed : {T : Type 0} → Reading T → Bool
malformed Absent = false
malformed (Value v) = false
malformed Malformed = true

abbrev pub absent : {T : Type 0} → Reading T → Bool
absent Absent = true
absent (Value v) = false
absent Malformed = false

abbrev pub value_in : {T : Type 0} → Reading T → Option T
value_in Absent = None
value_in (Value v) = Some v
value_in Malformed = None

-- P of the value, if there is one
abbrev pub ForValue : {T : Type 0} → Reading T → (T → Type 0) → Type 0
ForValue Absent P = ⊤
ForValue (Value v) P = P v
ForValue Malformed P = ⊤

-- the same reading, of a value that P relates to the first
abbrev pub IsMapped : {T U : Type 0} → Reading T → (T → U → Type 0) → Reading U → Type 0
IsMapped Absent P r = r ≡ Absent
IsMapped {U = U} (Value v) P r = (u : U) × (r ≡ Value u) × P v u
IsMapped Malformed P r = r ≡ Malformed

abbrev pub mapped : {T U : Type 0} → (T → U) → Reading T → Reading U
mapped f Absent = Absent
mapped f (Value v) = Value (f v)
mapped f Malformed = Malformed

-- in the place of the value of a field that cannot be absent
abbrev pub no_form : form.Malformed
no_form = record {}

-- ---- the kinds
abbrev pub WeightReading : Type 0
WeightReading = Reading Grams

abbrev pub MoneyReading : Type 0
MoneyReading = Reading Hellers

abbrev pub TextReading : Type 0
TextReading = Reading ℕ

abbrev pub NumberReading : Type 0
NumberReading = Reading ℕ

abbrev pub CountryReading : Type 0
CountryReading = Reading Country

abbrev pub MainReading : Type 0
MainReading = Reading Parts

abbrev pub PostcodeReading : Type 0
PostcodeReading = Reading Postcode

abbrev pub ServicesReading : Type 0
ServicesReading = Reading Services

-- those of fields that cannot be absent, or have to be
abbrev pub DateReading : Type 0
DateReading = Result ℕ form.Malformed

abbrev pub TimeReading : Type 0
TimeReading = Result ℕ form.Malformed

abbrev pub EmptyReading : Type 0
EmptyReading = Result ⊤ form.Malformed
