-- Weight, field 15: each number of grams below 100000 has exactly one writing in six bytes, and no other text reads as a number.
-- Assumes nothing.
use Prim.Native.Nat.{ℕ, ◌+◌, ◌-◌, ◌*◌, ◌/◌, ◌%◌, ◌≤◌, ◌<◌}
use mathlib.Core.Path.{◌≡◌, refl, sym, ap, ◌∙◌}
use mathlib.Core.Bool.{Bool, true, false, not, ◌&&◌, ◌||◌, and-eq-true_iff}
use mathlib.Core.List.{List, [], ◌∷◌}
use mathlib.Core.Logic.{◌↔◌}
use native.Mathlib.Omega.{arith}
use borrow.Author.Tests.{ltb-true, ltb-false, lt-ltb, le-ltb, eqb-true, eqb-false, ne_eqb, not-true}
use lib.Dec.{eqb, ltb}
use lib.ListN.{length}
use Rattle.text.specs.Bytes.{is_digit}
use Rattle.text.specs.Numbers.{number_after, digits}
use Rattle.text.proofs.Lists.{spelled}
use Rattle.text.proofs.Numbers.{digit_bounds, is_digit_lem}
use Rattle.fields.specs.declared.reading.Reading.TheVariants.{Absent, Value, Malformed}
use Rattle.fields.specs.Readings.{WeightReading}
use Rattle.fields.specs.Frame.{framed}
use Rattle.fields.specs.Amounts.{is_weight, grams_in, grams, read_weight, weight_text}
use Rattle.fields.specs.Calls.{has_weight_text, weight_bytes}
use Rattle.fields.proofs.FrameLaws.{reads_exactly, read_written}

-- ---- the writing of a number is read back
-- below 10 kg: a space, then the digits
module _ (v : ℕ) (small : v < 10000) where
  small_text : weight_text v ≡ 32 ∷ (48 + v / 1000 % 10) ∷ 46 ∷ (48 + v / 10 / 10 % 10) ∷ (48 + v / 10 % 10) ∷ (48 + v % 10) ∷ []
  unfolding weight_text digits
  small_text = rw (lt-ltb v 10000 small)

  small_reads : read_weight (weight_text v) ≡ grams v
  unfolding framed number_after
  small_reads =
      let kilos : v / 1000 ≡ v / 10 / 10 / 10 = omega arith in
      let one : v / 1000 % 10 ≡ v / 1000 = omega arith in
      rw (
        small_text,
        is_digit_lem (48 + v / 1000 % 10) (omega arith) (omega arith),
        is_digit_lem (48 + v / 10 / 10 % 10) (omega arith) (omega arith),
        is_digit_lem (48 + v / 10 % 10) (omega arith) (omega arith),
        is_digit_lem (48 + v % 10) (omega arith) (omega arith),
        ne_eqb (48 + v / 1000 % 10) 32 (λ e. omega arith),
      )
      (ap grams (omega arith))

-- from 10 kg on: two digits, the first not 0
module _ (v : ℕ) (large : 10000 ≤ v) (below : v < 100000) where
  large_text : weight_text v ≡ (48 + v / 1000 / 10 % 10) ∷ (48 + v / 1000 % 10) ∷ 46 ∷ (48 + v / 10 / 10 % 10) ∷ (48 + v / 10 % 10) ∷ (48 + v % 10) ∷ []
  unfolding weight_text digits
  large_text = rw (le-ltb v 10000 large)

  large_reads : read_weight (weight_text v) ≡ grams v
  unfolding framed number_after
  large_reads =
      let kilos : v / 1000 ≡ v / 10 / 10 / 10 = omega arith in
      let two : v / 1000 / 10 % 10 ≡ v / 1000 / 10 = omega arith in
      rw (
        large_text,
        is_digit_lem (48 + v / 1000 / 10 % 10) (omega arith) (omega arith),
        is_digit_lem (48 + v / 1000 % 10) (omega arith) (omega arith),
        is_digit_lem (48 + v / 10 / 10 % 10) (omega arith) (omega arith),
        is_digit_lem (48 + v / 10 % 10) (omega arith) (omega arith),
        is_digit_lem (48 + v % 10) (omega arith) (omega arith),
        ne_eqb (48 + v / 1000 / 10 % 10) 32 (λ e. omega arith),
        ne_eqb (48 + v / 1000 / 10 % 10) 48 (λ e. omega arith),
      )
      (ap grams (omega arith))

-- a number that has a writing, written and read
pub weight_written_read : (v : ℕ) → v < 100000 → read_weight (weight_text v) ≡ grams v
weight_written_read v h = go (ltb v 10000) refl
  where
    go : (t : Bool) → ltb v 10000 ≡ t → read_weight (weight_text v) ≡ grams v
    go true e = small_reads v (ltb-true v 10000 e)
    go false e = large_reads v (ltb-false v 10000 e) h

-- ---- a good text is the writing of its number
-- what the form says of the six bytes
record Form (a b c d e g : ℕ) : Type 0 where
  first : (eqb a 32 || is_digit a && not (eqb a 48)) ≡ true
  second : (48 ≤ b) × (b ≤ 57)
  dot : c ≡ 46
  hundreds : (48 ≤ d) × (d ≤ 57)
  tens : (48 ≤ e) × (e ≤ 57)
  units : (48 ≤ g) × (g ≤ 57)

form_is : (a b c d e g : ℕ) → is_weight (a ∷ b ∷ c ∷ d ∷ e ∷ g ∷ []) ≡ true → Form a b c d e g
form_is a b c d e g h =
    let p = (and-eq-true_iff ((eqb a 32 || is_digit a && not (eqb a 48)) && is_digit b && eqb c 46) (is_digit d && (is_digit e && (is_digit g && true)))).0 h in
    let q = (and-eq-true_iff ((eqb a 32 || is_digit a && not (eqb a 48)) && is_digit b) (eqb c 46)).0 p.0 in
    let r = (and-eq-true_iff (eqb a 32 || is_digit a && not (eqb a 48)) (is_digit b)).0 q.0 in
    let s = (and-eq-true_iff (is_digit d) (is_digit e && (is_digit g && true))).0 p.1 in
    let t = (and-eq-true_iff (is_digit e) (is_digit g && true)).0 s.1 in
    let u = (and-eq-true_iff (is_digit g) true).0 t.1 in
    record { first = r.0; second = digit_bounds b r.1; dot = eqb-true c 46 q.1; hundreds = digit_bounds d s.0; tens = digit_bounds e t.0; units = digit_bounds g u.0 }

last_digit : (n q b : ℕ) → (48 ≤ b) × (b ≤ 57) → n ≡ q * 10 + (b - 48) → 48 + n % 10 ≡ b
last_digit n q b k e = omega arith

module _ (a b c d e g v : ℕ) (form : Form a b c d e g)
    (is : v ≡ ((a - 48) * 10 + (b - 48)) * 1000 + ((d - 48) * 100 + (e - 48) * 10 + (g - 48))) where
  good_small : a ≡ 32 → (v < 100000) × (a ∷ b ∷ c ∷ d ∷ e ∷ g ∷ [] ≡ weight_text v)
  good_small i =
      let t₁ : v / 10 ≡ (b - 48) * 100 + (d - 48) * 10 + (e - 48) = omega arith in
      let t₂ : v / 10 / 10 ≡ (b - 48) * 10 + (d - 48) = omega arith in
      let t₃ : v / 1000 ≡ b - 48 = omega arith in
      let e₁ = last_digit (v / 1000) 0 b form.second (omega arith) in
      let e₂ = last_digit (v / 10 / 10) (b - 48) d form.hundreds (omega arith) in
      let e₃ = last_digit (v / 10) ((b - 48) * 10 + (d - 48)) e form.tens (omega arith) in
      let e₄ = last_digit v ((b - 48) * 100 + (d - 48) * 10 + (e - 48)) g form.units (omega arith) in
      (omega arith, rw (small_text v (omega arith), e₁, e₂, e₃, e₄, i, form.dot))

  good_large : (49 ≤ a) × (a ≤ 57) → (v < 100000) × (a ∷ b ∷ c ∷ d ∷ e ∷ g ∷ [] ≡ weight_text v)
  good_large i =
      let t₁ : v / 10 ≡ (a - 48) * 1000 + (b - 48) * 100 + (d - 48) * 10 + (e - 48) = omega arith in
      let t₂ : v / 10 / 10 ≡ (a - 48) * 100 + (b - 48) * 10 + (d - 48) = omega arith in
      let t₃ : v / 1000 ≡ (a - 48) * 10 + (b - 48) = omega arith in
      let t₄ : v / 1000 / 10 ≡ a - 48 = omega arith in
      let e₀ = last_digit (v / 1000 / 10) 0 a (omega arith, omega arith) (omega arith) in
      let e₁ = last_digit (v / 1000) (a - 48) b form.second (omega arith) in
      let e₂ = last_digit (v / 10 / 10) ((a - 48) * 10 + (b - 48)) d form.hundreds (omega arith) in
      let e₃ = last_digit (v / 10) ((a - 48) * 100 + (b - 48) * 10 + (d - 48)) e form.tens (omega arith) in
      let e₄ = last_digit v ((a - 48) * 1000 + (b - 48) * 100 + (d - 48) * 10 + (e - 48)) g form.units (omega arith) in
      (omega arith, rw (large_text v (omega arith) (omega arith), e₀, e₁, e₂, e₃, e₄, form.dot))

  good_six : (v < 100000) × (a ∷ b ∷ c ∷ d ∷ e ∷ g ∷ [] ≡ weight_text v)
  good_six = go (eqb a 32) refl form.first
    where
      go : (t : Bool) → eqb a 32 ≡ t → (t || is_digit a && not (eqb a 48)) ≡ true → (v < 100000) × (a ∷ b ∷ c ∷ d ∷ e ∷ g ∷ [] ≡ weight_text v)
      go true s h = good_small (eqb-true a 32 s)
      go false s h =
          let p = (and-eq-true_iff (is_digit a) (not (eqb a 48))).0 h in
          let q = digit_bounds a p.0 in
          let r = eqb-false a 48 (not-true (eqb a 48) p.1) in
          good_large (omega arith, omega arith)

good_is_written : (f : List ℕ) → length f ≡ 6 → is_weight f ≡ true → (grams_in f < 100000) × (f ≡ weight_text (grams_in f))
unfolding number_after
good_is_written f long good = rw (spelled 6 f long) (good_six _ _ _ _ _ _ _ (form_is _ _ _ _ _ _ (rw (spelled 6 f long) at good)) (omega arith))

-- a field that reads as a number is the writing of that number
read_is_written : (f : List ℕ) (v : ℕ) → read_weight f ≡ grams v → (v < 100000) × (f ≡ weight_text v)
read_is_written f v r =
    let p = (reads_exactly 6 f (is_weight f) (record { 0 = grams_in f }) (record { 0 = v })).0 r in
    rw (ap (λ n. n.0) p.1) at (good_is_written f p.0.long p.0.fine)

-- each number below 100000 has exactly one writing, and no other number has one
pub weight_exactly : (f : List ℕ) (v : ℕ) → (read_weight f ≡ grams v) ↔ ((v < 100000) × (f ≡ weight_text v))
weight_exactly f v = (read_is_written f v, λ p. ap read_weight p.1 ∙ weight_written_read v p.0)

-- ---- a field that is not malformed, read and written: the field again, blank where the weight is absent
pub weight_read_written : (f : List ℕ) → (read_weight f ≡ Malformed → ⊥) → weight_bytes (read_weight f) ≡ f
weight_read_written f good =
    read_written Absent Malformed 6 f (is_weight f) (grams (grams_in f)) weight_bytes refl (λ p. sym (good_is_written f p.long p.fine).1) good

-- ---- and a reading that has a writing, written and read: the reading again, absent where it was absent
pub weight_reading_back : (m : WeightReading) → has_weight_text m ≡ true → read_weight (weight_bytes m) ≡ m
unfolding framed
weight_reading_back Absent e = refl
weight_reading_back (Value v) e = weight_written_read v.0 (ltb-true v.0 100000 e)
weight_reading_back Malformed e = cc
