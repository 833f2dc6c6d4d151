-- The postcode: exactly which bytes are good at home and abroad, and what they say.
-- Assumes nothing.
use Prim.Native.Nat.{ℕ}
use mathlib.Core.Path.{◌≡◌, refl, ap}
use mathlib.Core.Bool.{Bool, true, false, cond}
use mathlib.Core.Logic.{◌↔◌}
use mathlib.Core.List.{List}
use native.Mathlib.Omega.{arith}
use lib.ListN.{replicate}
use Rattle.text.proofs.Booleans.{clash}
use Rattle.fields.specs.declared.reading.Reading.TheVariants.{Absent, Value, Malformed}
use Rattle.fields.specs.Readings.{NumberReading, TextReading, CountryReading, PostcodeReading}
use Rattle.fields.specs.declared.postcodes.Postcode.TheVariants.{Domestic, Foreign}
use Rattle.fields.specs.Numbers.{read_digits}
use Rattle.fields.specs.Texts.{read_text}
use Rattle.fields.specs.Others.{read_country, absent_country}
use Rattle.fields.specs.Postcodes.{domestic, foreign, read_postcode, malformed_postcode, absent_postcode}
use Rattle.fields.specs.Meanings.{IsDigits, IsTextOf, GoodPostcode, blank, at_home, abroad}
use Rattle.fields.proofs.NumberLaws.{digits_exactly, digits_absent}
use Rattle.fields.proofs.TextLaws.{text_exactly, text_absent}
use Rattle.fields.proofs.OtherLaws.{country_absent}

-- ---- the country is blank, or not
pub home_exactly : (f : List ℕ) → (absent_country (read_country f) ≡ true) ↔ (f ≡ replicate 2 32)
home_exactly f = (λ h. (country_absent f).0 (is_absent (read_country f) h), λ e. ap absent_country ((country_absent f).1 e))
  where
    is_absent : (c : CountryReading) → absent_country c ≡ true → c ≡ Absent
    is_absent Absent h = refl
    is_absent (Value c) h = absurd (clash h refl)
    is_absent Malformed h = absurd (clash h refl)

not_home : (f : List ℕ) → (f ≡ replicate 2 32 → ⊥) → absent_country (read_country f) ≡ false
not_home f n = go (absent_country (read_country f)) refl
  where
    go : (t : Bool) → absent_country (read_country f) ≡ t → t ≡ false
    go true e = absurd (n ((home_exactly f).0 e))
    go false e = refl

-- ---- how digits and a text pass as postcodes
-- readings of different kinds differ
abbrev kind : PostcodeReading → ℕ
kind Absent = 0
kind (Value (Domestic v)) = 1
kind (Value (Foreign n)) = 2
kind Malformed = 3

domestic_absent : (r : NumberReading) → domestic r ≡ Absent → r ≡ Absent
domestic_absent Absent h = refl
domestic_absent (Value n) h = absurd (omega (arith, ap kind h))
domestic_absent Malformed h = absurd (omega (arith, ap kind h))

domestic_value : (r : NumberReading) (v : ℕ) → domestic r ≡ Value (Domestic v) → r ≡ Value v
domestic_value Absent v h = absurd (omega (arith, ap kind h))
domestic_value (Value n) v h = cc
domestic_value Malformed v h = absurd (omega (arith, ap kind h))

never_foreign : (r : NumberReading) (n : ℕ) → domestic r ≡ Value (Foreign n) → ⊥
never_foreign Absent n h = omega (arith, ap kind h)
never_foreign (Value v) n h = omega (arith, ap kind h)
never_foreign Malformed n h = omega (arith, ap kind h)

foreign_absent : (r : TextReading) → foreign r ≡ Absent → r ≡ Absent
foreign_absent Absent h = refl
foreign_absent (Value n) h = absurd (omega (arith, ap kind h))
foreign_absent Malformed h = absurd (omega (arith, ap kind h))

foreign_value : (r : TextReading) (n : ℕ) → foreign r ≡ Value (Foreign n) → r ≡ Value n
foreign_value Absent n h = absurd (omega (arith, ap kind h))
foreign_value (Value k) n h = cc
foreign_value Malformed n h = absurd (omega (arith, ap kind h))

never_domestic : (r : TextReading) (v : ℕ) → foreign r ≡ Value (Domestic v) → ⊥
never_domestic Absent v h = omega (arith, ap kind h)
never_domestic (Value n) v h = omega (arith, ap kind h)
never_domestic Malformed v h = omega (arith, ap kind h)

-- ---- which bytes are which reading
module _ (country : CountryReading) (f : List ℕ) where
  pub domestic_exactly : (v : ℕ) → (read_postcode country f ≡ Value (Domestic v)) ↔ ((absent_country country ≡ true) × IsDigits 5 f v)
  domestic_exactly v = go (absent_country country) (digits_exactly 5 f v (omega arith))
    where
      go : (t : Bool) → (read_digits 5 f ≡ Value v) ↔ IsDigits 5 f v
          → (cond t (domestic (read_digits 5 f)) (foreign (read_text 5 f)) ≡ Value (Domestic v)) ↔ ((t ≡ true) × IsDigits 5 f v)
      go true e = (λ h. (refl, e.0 (domestic_value (read_digits 5 f) v h)), λ p. ap domestic (e.1 p.1))
      go false e = (λ h. absurd (never_domestic (read_text 5 f) v h), λ p. absurd (clash p.0 refl))

  pub foreign_exactly : (n : ℕ) → (read_postcode country f ≡ Value (Foreign n)) ↔ ((absent_country country ≡ false) × IsTextOf 5 f n)
  foreign_exactly n = go (absent_country country) (text_exactly 5 f n)
    where
      go : (t : Bool) → (read_text 5 f ≡ Value n) ↔ IsTextOf 5 f n
          → (cond t (domestic (read_digits 5 f)) (foreign (read_text 5 f)) ≡ Value (Foreign n)) ↔ ((t ≡ false) × IsTextOf 5 f n)
      go true e = (λ h. absurd (never_foreign (read_digits 5 f) n h), λ p. absurd (clash refl p.0))
      go false e = (λ h. (refl, e.0 (foreign_value (read_text 5 f) n h)), λ p. ap foreign (e.1 p.1))

  pub postcode_absent : (read_postcode country f ≡ Absent) ↔ (f ≡ replicate 5 32)
  postcode_absent = go (absent_country country) (digits_absent 5 f) (text_absent 5 f)
    where
      go : (t : Bool) → (read_digits 5 f ≡ Absent) ↔ (f ≡ replicate 5 32) → (read_text 5 f ≡ Absent) ↔ (f ≡ replicate 5 32)
          → (cond t (domestic (read_digits 5 f)) (foreign (read_text 5 f)) ≡ Absent) ↔ (f ≡ replicate 5 32)
      go true d e = (λ h. d.0 (domestic_absent (read_digits 5 f) h), λ s. ap domestic (d.1 s))
      go false d e = (λ h. e.0 (foreign_absent (read_text 5 f) h), λ s. ap foreign (e.1 s))

pub absent_exactly : (country : CountryReading) (f : List ℕ) → (absent_postcode (read_postcode country f) ≡ true) ↔ (f ≡ replicate 5 32)
absent_exactly country f = (λ h. (postcode_absent country f).0 (is_absent (read_postcode country f) h), λ s. ap absent_postcode ((postcode_absent country f).1 s))
  where
    is_absent : (r : PostcodeReading) → absent_postcode r ≡ true → r ≡ Absent
    is_absent Absent h = refl
    is_absent (Value v) h = absurd (clash h refl)
    is_absent Malformed h = absurd (clash h refl)

-- ---- which bytes are a good postcode beside those of the country
pub good_postcode_exactly : (country f : List ℕ) → (malformed_postcode (read_postcode (read_country country) f) ≡ false) ↔ GoodPostcode country f
good_postcode_exactly country f = (to (read_postcode c f) refl, from)
  where
    c : CountryReading
    c = read_country country

    to : (r : PostcodeReading) → read_postcode c f ≡ r → malformed_postcode r ≡ false → GoodPostcode country f
    to Absent e h = blank ((postcode_absent c f).0 e)
    to (Value (Domestic v)) e h = let p = (domestic_exactly c f v).0 e in at_home v ((home_exactly country).0 p.0) p.1
    to (Value (Foreign n)) e h = let p = (foreign_exactly c f n).0 e in abroad n (λ s. clash ((home_exactly country).1 s) p.0) p.1
    to Malformed e h = absurd (clash refl h)

    from : GoodPostcode country f → malformed_postcode (read_postcode c f) ≡ false
    from (blank s) = ap malformed_postcode ((postcode_absent c f).1 s)
    from (at_home v s i) = ap malformed_postcode ((domestic_exactly c f v).1 ((home_exactly country).1 s, i))
    from (abroad n s i) = ap malformed_postcode ((foreign_exactly c f n).1 (not_home country s, i))
