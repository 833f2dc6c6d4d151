-- Beside the table as it stood when the postcode had to be blank abroad: only for a filled postcode beside a country that is not blank is the answer
-- another. So every record that was accepted is accepted still, in a file and to be posted.
-- Assumes nothing.
use Prim.Native.Nat.{ℕ}
use mathlib.Core.Path.{◌≡◌, refl, ap, ◌∙◌}
use mathlib.Core.Bool.{Bool, true, false, cond, not, ◌&&◌, ◌||◌}
use mathlib.Core.List.{List, ◌∷◌, ◌++◌}
use mathlib.Core.Logic.{◌⊎◌, inl, inr}
use native.Mathlib.Omega.{arith}
use lib.Dec.{eqb}
use lib.ListN.{length, replicate}
use Rattle.text.specs.declared.Answer.{Answer}
use Rattle.text.specs.Answers.{wrong_length}
use Rattle.text.proofs.Booleans.{clash}
use Rattle.layout.specs.Layout.{field_of}
use Rattle.fields.specs.Readings.{NumberReading, CountryReading}
use Rattle.fields.specs.declared.reading.Reading.TheVariants as Reading
use Rattle.fields.specs.Texts.{read_text, absent_text}
use Rattle.fields.specs.Numbers.{read_digits, malformed_number, absent_number}
use Rattle.fields.specs.Others.{read_country, absent_country}
use Rattle.fields.specs.Postcodes.{domestic, read_postcode, malformed_postcode, absent_postcode}
use Rattle.fields.proofs.NumberLaws.{digits_absent}
use Rattle.fields.proofs.TextLaws.{text_absent}
use Rattle.fields.proofs.OtherLaws.{country_absent}
use Rattle.record.specs.Table.{Rule, broken, verdict}
use Rattle.record.specs.Readings.{text_in, address_of, contact_of, goods_of, marks_of, piece_of}
use Rattle.record.specs.Rules.{Terms, identifier_rule, malformed_rule, asked_in, postcode_rules, later_rules, table, record_answer}
use Rattle.record.specs.BlankAbroad.{misplaced, malformed_blank_abroad, address_rule_blank_abroad, table_blank_abroad, answer_blank_abroad}
use Rattle.record.specs.Codes.{lacks}
use Rattle.record.specs.Outcomes.{none_broken, Blank}
use Rattle.record.proofs.Order.{table_accepts}
use Rattle.record.proofs.Status.{second_kept}

-- ---- at home, and where it is blank, a postcode is judged as it was
record JudgedAlike (c : CountryReading) (f : List ℕ) : Type 0 where
  formed : malformed_postcode (read_postcode c f) ≡ malformed_number (read_digits 5 f)
  placed : (absent_country c && absent_postcode (read_postcode c f)) ≡ misplaced c (read_digits 5 f)

alike : (c : CountryReading) (f : List ℕ) → (c ≡ Reading.Absent) ⊎ (f ≡ replicate 5 32) → JudgedAlike c f
alike c f (inl home) = rw home (record { formed = formed (read_digits 5 f); placed = placed (read_digits 5 f) })
  where
    formed : (r : NumberReading) → malformed_postcode (domestic r) ≡ malformed_number r
    formed Reading.Absent = refl
    formed (Reading.Value n) = refl
    formed Reading.Malformed = refl

    placed : (r : NumberReading) → absent_postcode (domestic r) ≡ misplaced Reading.Absent r
    placed Reading.Absent = refl
    placed (Reading.Value n) = refl
    placed Reading.Malformed = refl
alike c f (inr blank) = go c ((digits_absent 5 f).1 blank) ((text_absent 5 f).1 blank)
  where
    go : (c : CountryReading) → read_digits 5 f ≡ Reading.Absent → read_text 5 f ≡ Reading.Absent → JudgedAlike c f
    go Reading.Absent d t = record { formed = rw d; placed = rw d }
    go (Reading.Value v) d t = record { formed = rw (d, t); placed = rw d }
    go Reading.Malformed d t = record { formed = rw (d, t); placed = rw d }

module _ (t : Terms) (rec : List ℕ) where
  pub same_answer : Blank rec 6 ⊎ Blank rec 5 → record_answer t rec ≡ answer_blank_abroad t rec
  unfolding record_answer answer_blank_abroad table table_blank_abroad
  same_answer b = let a = alike (read_country (field_of rec 6)) (field_of rec 5) (home b) in rw (a.formed, a.placed)
    where
      home : Blank rec 6 ⊎ Blank rec 5 → (read_country (field_of rec 6) ≡ Reading.Absent) ⊎ (field_of rec 5 ≡ replicate 5 32)
      home (inl s) = inl ((country_absent (field_of rec 6)).1 s)
      home (inr s) = inr s

-- ---- what was accepted was at home, or had a blank postcode
left_blank : (f : List ℕ) → not (absent_number (read_digits 5 f)) ≡ false → f ≡ replicate 5 32
left_blank f h = (digits_absent 5 f).0 (go (read_digits 5 f) h)
  where
    go : (r : NumberReading) → not (absent_number r) ≡ false → r ≡ Reading.Absent
    go Reading.Absent h = refl
    go (Reading.Value n) h = absurd (clash refl h)
    go Reading.Malformed h = absurd (clash refl h)

home_or_blank : (c : CountryReading) (f : List ℕ) → misplaced c (read_digits 5 f) ≡ false → (c ≡ Reading.Absent) ⊎ (f ≡ replicate 5 32)
home_or_blank Reading.Absent f h = inl refl
home_or_blank (Reading.Value v) f h = inr (left_blank f h)
home_or_blank Reading.Malformed f h = inr (left_blank f h)

third_kept : (r s t : Rule) (rs : List Rule) → none_broken (r ∷ s ∷ t ∷ rs) ≡ true → broken t ≡ false
unfolding none_broken
third_kept r s t rs h = go (broken r) h
  where
    go : (a : Bool) → cond a false (none_broken (s ∷ t ∷ rs)) ≡ true → broken t ≡ false
    go true e = absurd (clash e refl)
    go false e = second_kept s t rs e

middle : (a b c : Bool) → (a || (b || (c || false))) ≡ false → b ≡ false
middle true b c h = absurd (clash refl h)
middle false true c h = absurd (clash refl h)
middle false false c h = refl

module _ (t : Terms) (rec : List ℕ) where
  kept_blank : none_broken (table_blank_abroad t rec) ≡ true → Blank rec 6 ⊎ Blank rec 5
  unfolding table_blank_abroad
  kept_blank h =
      let later = postcode_rules t.known (address_of rec).postcode (asked_in (goods_of rec)).service41 ++ later_rules rec (contact_of rec) (goods_of rec) (marks_of rec) (piece_of rec) in
      let address = third_kept (identifier_rule rec) (malformed_rule (malformed_blank_abroad t.to_be_posted rec)) (address_rule_blank_abroad rec) later h in
      go (home_or_blank (read_country (field_of rec 6)) (field_of rec 5) (middle (absent_text (text_in rec 4)) _ (absent_text (text_in rec 7)) address))
    where
      go : (read_country (field_of rec 6) ≡ Reading.Absent) ⊎ (field_of rec 5 ≡ replicate 5 32) → Blank rec 6 ⊎ Blank rec 5
      go (inl s) = inl ((country_absent (field_of rec 6)).0 s)
      go (inr s) = inr s

  accepted_blank : (answer_blank_abroad t rec).code ≡ 0 → Blank rec 6 ⊎ Blank rec 5
  unfolding answer_blank_abroad table_blank_abroad lacks
  accepted_blank = go (eqb (length rec) 399)
    where
      go : (long : Bool) → (cond long (verdict (table_blank_abroad t rec)) wrong_length).code ≡ 0 → Blank rec 6 ⊎ Blank rec 5
      go true z = kept_blank ((table_accepts (table_blank_abroad t rec) refl).0 z)
      go false z = absurd (omega (arith, z))

  pub still_accepted : (answer_blank_abroad t rec).code ≡ 0 → (record_answer t rec).code ≡ 0
  still_accepted z = ap (λ (a : Answer). a.code) (same_answer t rec (accepted_blank z)) ∙ z
