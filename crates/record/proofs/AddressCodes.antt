-- What is said of an address: 27 at each of its places and 210 at the postcode and the country, exactly.
-- Assumes nothing.
use Prim.Native.Nat.{ℕ}
use mathlib.Core.Path.{◌≡◌, refl, ap}
use mathlib.Core.Bool.{true, ◌&&◌, and-eq-true_iff}
use mathlib.Core.List.{List}
use mathlib.Core.Logic.{◌↔◌}
use Rattle.text.specs.Answers.{answer}
use Rattle.text.proofs.Booleans.{clash}
use Rattle.layout.specs.Layout.{width_of, field_of}
use Rattle.fields.specs.Readings.{TextReading}
use Rattle.fields.specs.declared.reading.Reading.TheVariants as Reading
use Rattle.fields.specs.Texts.{absent_text}
use Rattle.fields.specs.Others.{read_country, absent_country}
use Rattle.fields.specs.Postcodes.{malformed_postcode, absent_postcode}
use Rattle.fields.specs.Meanings.{GoodPostcode}
use Rattle.fields.proofs.TextLaws.{text_absent}
use Rattle.fields.proofs.PostcodeLaws.{home_exactly, absent_exactly, good_postcode_exactly}
use Rattle.record.specs.Readings.{text_in, address_of}
use Rattle.record.specs.Rules.{Terms, table, record_answer}
use Rattle.record.specs.Codes.{lacks}
use Rattle.record.specs.Outcomes.{Blank, PostcodeMalformed, CountryMalformed, NameMissing, PostcodeMissing, MunicipalityMissing}
use Rattle.record.proofs.Turns.{bad_exactly, turn_exactly}

module _ (t : Terms) (rec : List ℕ) where
  text_blank : (n : ℕ) → (absent_text (text_in rec n) ≡ true) ↔ Blank rec n
  text_blank n = (λ h. (text_absent (width_of n) (field_of rec n)).0 (is_absent (text_in rec n) h), λ s. ap absent_text ((text_absent (width_of n) (field_of rec n)).1 s))
    where
      is_absent : (r : TextReading) → absent_text r ≡ true → r ≡ Reading.Absent
      is_absent Reading.Absent h = refl
      is_absent (Reading.Value k) h = absurd (clash h refl)
      is_absent Reading.Malformed h = absurd (clash h refl)

  missing : ((absent_country (address_of rec).country && absent_postcode (address_of rec).postcode) ≡ true) ↔ (Blank rec 6 × Blank rec 5)
  missing =
      let and = and-eq-true_iff (absent_country (address_of rec).country) (absent_postcode (address_of rec).postcode) in
      let home = home_exactly (field_of rec 6) in
      let none = absent_exactly (read_country (field_of rec 6)) (field_of rec 5) in
      (λ h. let p = and.0 h in (home.0 p.0, none.0 p.1), λ b. and.1 (home.1 b.0, none.1 b.1))

  wrong : (malformed_postcode (address_of rec).postcode ≡ true) ↔ (GoodPostcode (field_of rec 6) (field_of rec 5) → ⊥)
  wrong = bad_exactly (malformed_postcode (address_of rec).postcode) (good_postcode_exactly (field_of rec 6) (field_of rec 5))

  -- ---- 210
  pub code_210_at_5_exactly : (record_answer t rec ≡ answer 210 5) ↔ PostcodeMalformed rec
  unfolding table lacks
  code_210_at_5_exactly = turn_exactly t rec _ _ _ _ _ _ _ _ wrong refl refl refl refl refl

  pub code_210_at_6_exactly : (record_answer t rec ≡ answer 210 6) ↔ CountryMalformed rec
  unfolding table lacks
  code_210_at_6_exactly = turn_exactly t rec _ _ _ _ _ _ _ _ (λ h. h, λ h. h) refl refl refl refl refl

  -- ---- 27
  pub code_27_at_4_exactly : (record_answer t rec ≡ answer 27 4) ↔ NameMissing t.to_be_posted rec
  unfolding table lacks
  code_27_at_4_exactly = turn_exactly t rec _ _ _ _ _ _ _ _ (text_blank 4) refl refl refl refl refl

  pub code_27_at_5_exactly : (record_answer t rec ≡ answer 27 5) ↔ PostcodeMissing t.to_be_posted rec
  unfolding table lacks
  code_27_at_5_exactly = turn_exactly t rec _ _ _ _ _ _ _ _ missing refl refl refl refl refl

  pub code_27_at_7_exactly : (record_answer t rec ≡ answer 27 7) ↔ MunicipalityMissing t.to_be_posted rec
  unfolding table lacks
  code_27_at_7_exactly = turn_exactly t rec _ _ _ _ _ _ _ _ (text_blank 7) refl refl refl refl refl
