-- What the public calls promise that give more than a reading: the writers, and the sum of two amounts.
-- Assumes nothing.
use Rattle.std.specs.Prelude.{ℕ, ◌+◌, ◌^◌, Bool, true, false, cond, ◌&&◌, ◌≡◌, List, length, replicate, eqb, ltb, Option, Some, None}
use Rattle.text.specs.declared.Answer.{Answer}
use Rattle.text.specs.Answers.{answer, accepted, wrong_length}
use Rattle.layout.specs.Layout.{width_of}
use Rattle.fields.specs.declared.amounts.Hellers.{Hellers}
use Rattle.fields.specs.declared.reading.Reading.{Reading}
use Rattle.fields.specs.declared.reading.Reading.TheVariants.{Absent, Value, Malformed}
use Rattle.fields.specs.Readings.{WeightReading, MoneyReading}
use Rattle.fields.specs.Amounts.{weight_text, money_text}

-- ---- the writing of a reading: an amount that has one, or blanks; of any kind, by which amounts fit and what they write
abbrev pub has_text : {A : Type 0} → (A → Bool) → Reading A → Bool
has_text fits Absent = true
has_text fits (Value v) = fits v
has_text fits Malformed = false

abbrev pub text_bytes : {A : Type 0} → ℕ → (A → List ℕ) → Reading A → List ℕ
text_bytes width text Absent = replicate width 32
text_bytes width text (Value v) = text v
text_bytes width text Malformed = replicate width 32

-- so many haléře, and so many grams, have a writing
abbrev pub money_fits : ℕ → Bool
money_fits v = ltb v 100000000000

abbrev pub weight_fits : ℕ → Bool
weight_fits v = ltb v 100000

abbrev pub has_money_text : MoneyReading → Bool
has_money_text = has_text (λ h. money_fits h.0)

abbrev pub money_bytes : MoneyReading → List ℕ
money_bytes = text_bytes (width_of 16) (λ h. money_text h.0)

abbrev pub has_weight_text : WeightReading → Bool
has_weight_text = has_text (λ g. weight_fits g.0)

abbrev pub weight_bytes : WeightReading → List ℕ
weight_bytes = text_bytes (width_of 15) (λ g. weight_text g.0)

-- 236 if the part hasn't the field's width, then 210 if the number has no writing there, both place 0 and the part unchanged
pub record Written (width : ℕ) (has : Bool) (text before : List ℕ) (r : Answer) (after : List ℕ) : Type 0 where
  pub answers : r ≡ cond (eqb (length before) width) (cond has accepted (answer 210 0)) wrong_length
  pub bytes : after ≡ cond (eqb (length before) width && has) text before

abbrev pub MoneyWritten : List ℕ → MoneyReading → Answer → List ℕ → Type 0
MoneyWritten before m r after = Written (width_of 16) (has_money_text m) (money_bytes m) before r after

abbrev pub WeightWritten : List ℕ → WeightReading → Answer → List ℕ → Type 0
WeightWritten before m r after = Written (width_of 15) (has_weight_text m) (weight_bytes m) before r after

-- ---- a sum takes only its own kind
unfoldable pub sum_of_hellers : Hellers → Hellers → Option Hellers
sum_of_hellers a b = cond (ltb (a.0 + b.0) (2 ^ 64)) (Some (record { 0 = a.0 + b.0 })) None
