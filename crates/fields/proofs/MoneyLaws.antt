-- Money, fields 16 and 17: each number of haléře below 100000000000 has exactly one writing in twelve bytes, and no other text reads as a number.
-- Assumes nothing.
use Prim.Native.Nat.{ℕ, suc, ◌+◌, ◌-◌, ◌*◌, ◌/◌, ◌%◌, ◌^◌, ◌≤◌, ◌<◌}
use mathlib.Core.Path.{◌≡◌, refl, sym, ap, ◌∙◌}
use mathlib.Core.Bool.{Bool, true, false, not, ◌||◌, and-false, or-true}
use mathlib.Core.List.{List, [], ◌∷◌, ◌++◌}
use mathlib.Core.Logic.{◌↔◌}
use native.Mathlib.Nat.{sub-zero}
use native.Mathlib.Numerals.{add-one}
use native.Mathlib.Omega.{arith}
use borrow.Author.Tests.{ltb-true, ltb-false, le-leb, eqb-true, eqb-false, eq-eqb, ne_eqb, not-true}
use borrow.Rule.Slice.PartMut.{mid_len}
use lib.Dec.{eqb, ltb}
use lib.ListN.{length, get_or, drop, replicate, length-append, length-drop, length-replicate, take-append-drop, get_or-append}
use lib.Seq.{take_at, drop_at, get_or_at, drop-drop, drop-cons, take_all, get_or-take}
use Rattle.text.specs.Bytes.{is_digit, all_digits, is_space, is_blank}
use Rattle.text.specs.Lists.{part}
use Rattle.text.specs.Numbers.{number_of, digits, decimal_places, decimal}
use Rattle.text.proofs.Numbers.{ten, ten_grows, every_append, length_digits, digits_all, number_digits, number_below, digits_number}
use Rattle.text.proofs.Decimals.{decimal_places_one, sized_decimal, decimal_read, decimal_written, decimal_first, digits_last}
use Rattle.text.proofs.Runs.{run_is, run_passes}
use Rattle.fields.specs.declared.reading.Reading.TheVariants.{Absent, Value, Malformed}
use Rattle.fields.specs.Readings.{MoneyReading}
use Rattle.fields.specs.Frame.{framed}
use Rattle.fields.specs.Amounts.{crown_digits, is_money, hellers_in, hellers, read_money, money_text}
use Rattle.fields.specs.Calls.{has_money_text, money_bytes}
use Rattle.fields.proofs.AmountWays.{Amount, amount_has, nine_at_most}
use Rattle.fields.proofs.ByteLaws.{spaces_blank, blank_exactly}
use Rattle.fields.proofs.FrameLaws.{reads_exactly, read_written}

-- ---- crowns, a dot, two digits, spaces: what such a field reads as
module _ (c d s : List ℕ) (p : ℕ) (long₁ : length c ≡ p) (long₂ : length d ≡ 2) (long₃ : length s ≡ 9 - p) (low : 1 ≤ p) (high : p ≤ 9)
    (good₁ : all_digits c ≡ true) (good₂ : all_digits d ≡ true) (good₃ : is_blank s ≡ true) where
  abbrev line : List ℕ
  line = c ++ 46 ∷ (d ++ s)

  line_long : length line ≡ 12
  line_long = simp length-append (omega arith)

  line_filled : is_blank line ≡ false
  line_filled = every_append is_space c (46 ∷ (d ++ s)) ∙ and-false (is_blank c)

  line_crowns : crown_digits line ≡ p
  line_crowns = run_is is_digit c 46 (d ++ s) good₁ refl ∙ long₁

  line_front : part line 0 p ≡ c
  line_front = rw (sub-zero p) (take_at c (46 ∷ (d ++ s)) p long₁)

  line_dot : get_or line p 0 ≡ 46
  line_dot = get_or_at c 46 (d ++ s) 0 p long₁

  line_two_digits : part line (p + 1) (p + 3) ≡ d
  line_two_digits =
      let two : p + 3 - (p + 1) ≡ 2 = omega arith in
      rw (two, ← drop-drop 1 p line, drop_at c (46 ∷ (d ++ s)) p long₁) (take_at d s 2 long₂)

  line_rest : part line (p + 3) 12 ≡ s
  line_rest =
      rw (← drop-drop 3 p line, drop_at c (46 ∷ (d ++ s)) p long₁, drop_at d s 2 long₂) (take_all (12 - (p + 3)) s (omega arith))

  line_reads : (eqb p 1 || not (eqb (get_or line 0 0) 48)) ≡ true → read_money line ≡ hellers (number_of c * 100 + number_of d)
  unfolding framed is_money
  line_reads first =
      rw (eq-eqb (length line) 12 line_long, line_filled, line_crowns, le-leb 1 p low, le-leb p 9 high, first, line_dot, line_two_digits, good₂, line_rest, good₃, line_front)

-- ---- the writing of a number is read back
-- the last two digits write what is left by 100
two_digits_read : (v : ℕ) → number_of (digits 2 v) ≡ v % 100
two_digits_read v =
    let e : v / 100 * ten 2 + v % 100 ≡ v = omega arith in
    ap (λ (n : ℕ). number_of (digits 2 n)) (sym e) ∙ ap number_of (digits_last 2 (v / 100) (v % 100) (omega arith)) ∙ number_digits 2 (v % 100) (omega arith)

module _ (v : ℕ) (below : v < 100000000000) where
  crowns_first : (eqb (decimal_places (v / 100)) 1 || not (eqb (get_or (money_text v) 0 0) 48)) ≡ true
  unfolding money_text
  crowns_first = go (ltb (v / 100) 10) refl
    where
      go : (t : Bool) → ltb (v / 100) 10 ≡ t → (eqb (decimal_places (v / 100)) 1 || not (eqb (get_or (decimal (v / 100) ++ 46 ∷ (digits 2 v ++ replicate (9 - decimal_places (v / 100)) 32)) 0 0) 48)) ≡ true
      go true e = rw (eq-eqb (decimal_places (v / 100)) 1 (decimal_places_one 19 (v / 100) (ltb-true (v / 100) 10 e)))
      go false e =
          let size = sized_decimal (v / 100) (omega arith) in
          rw (get_or-append (decimal (v / 100)) (46 ∷ (digits 2 v ++ replicate (9 - decimal_places (v / 100)) 32)) 0 0 (rw (length_digits (decimal_places (v / 100)) (v / 100)) (omega (arith, size.is))), ne_eqb (get_or (decimal (v / 100)) 0 0) 48 (decimal_first (v / 100) (omega arith) (ltb-false (v / 100) 10 e)))
          (or-true (eqb (decimal_places (v / 100)) 1))

  text_reads : read_money (money_text v) ≡ hellers v
  unfolding money_text
  text_reads =
      let n : ℕ = v / 100 in
      let small : n < 2 ^ 64 = omega arith in
      let size = sized_decimal n small in
      let nine : decimal_places n ≤ 9 = nine_at_most n (omega arith) in
      line_reads (decimal n) (digits 2 v) (replicate (9 - decimal_places n) 32) (decimal_places n)
      (length_digits (decimal_places n) n) (length_digits 2 v) (length-replicate (9 - decimal_places n) 32) (omega (arith, size.is)) nine
      (digits_all (decimal_places n) n) (digits_all 2 v) (spaces_blank (9 - decimal_places n)) crowns_first
      ∙ ap hellers (rw (decimal_read n small, two_digits_read v) (omega arith))

-- a number that has a writing, written and read
pub money_written_read : (v : ℕ) → v < 100000000000 → read_money (money_text v) ≡ hellers v
money_written_read v h = text_reads v h

-- ---- a good text is the writing of its number
-- one to nine digits, the first 0 only where it is the only one, are the decimal writing of their number
crowns_decimal : (c : List ℕ) → 1 ≤ length c → length c ≤ 9 → all_digits c ≡ true → (eqb (length c) 1 || not (eqb (get_or c 0 0) 48)) ≡ true → decimal (number_of c) ≡ c
crowns_decimal [] low high good first = absurd (omega arith)
crowns_decimal (x ∷ c) low high good first = decimal_written x c (omega arith) good (go (eqb (suc (length c)) 1) refl first)
  where
    go : (t : Bool) → eqb (suc (length c)) 1 ≡ t → (t || not (eqb x 48)) ≡ true → 1 ≤ length c → x ≡ 48 → ⊥
    go true e h l z = let one = eqb-true (suc (length c)) 1 e in omega arith
    go false e h l z = eqb-false x 48 (not-true (eqb x 48) h) z

module _ (f : List ℕ) (p : ℕ) (long : length f ≡ 12) (form : Amount f p) (crowns : all_digits (part f 0 p) ≡ true) where
  abbrev c : List ℕ
  c = part f 0 p

  abbrev d : List ℕ
  d = part f (p + 1) (p + 3)

  abbrev s : List ℕ
  s = part f (p + 3) 12

  abbrev v : ℕ
  v = number_of c * 100 + number_of d

  long_c : length c ≡ p
  long_c = mid_len 0 p f (omega (arith, form.high)) ∙ sub-zero p

  long_d : length d ≡ 2
  long_d = mid_len (p + 1) (p + 3) f (omega (arith, form.high)) ∙ omega arith

  long_s : length s ≡ 9 - p
  long_s = mid_len (p + 3) 12 f (omega arith) ∙ omega arith

  field_is : f ≡ c ++ 46 ∷ (d ++ s)
  field_is =
      let two : p + 3 - (p + 1) ≡ 2 = omega arith in
      let three : p + 1 + 2 ≡ p + 3 = omega arith in
      let within : p < length f = omega (arith, form.high) in
      let spaces : part f (p + 3) 12 ≡ drop 2 (drop (p + 1) f) =
      take_all (12 - (p + 3)) (drop (p + 3) f) (simp length-drop (omega arith)) ∙ rw (drop-drop 2 (p + 1) f, three) in
      rw (spaces, sub-zero p, two, take-append-drop 2 (drop (p + 1) f), ← form.dot, add-one p, ← drop-cons f p 0 within) (sym (take-append-drop p f))

  crowns_are : decimal (number_of c) ≡ c
  crowns_are = crowns_decimal c (omega (arith, long_c, form.low)) (omega (arith, long_c, form.high)) crowns
      (rw (long_c, sub-zero p, get_or-take p f 0 0 form.low) form.first)

  hundredth : v / 100 ≡ number_of c
  hundredth = omega (arith, number_below 2 d long_d form.two_digits)

  crowns_long : decimal_places (v / 100) ≡ p
  crowns_long = rw hundredth (sym (length_digits (decimal_places (number_of c)) (number_of c)) ∙ ap length crowns_are ∙ long_c)

  two_digits_are : digits 2 v ≡ d
  two_digits_are = digits_last 2 (number_of c) (number_of d) (number_below 2 d long_d form.two_digits) ∙ digits_number 2 d long_d form.two_digits

  good_below : v < 100000000000
  good_below = omega (arith, number_below 2 d long_d form.two_digits, number_below p c long_c crowns, ten_grows p 9 form.high)

  good_text : f ≡ money_text v
  unfolding money_text
  good_text = rw (crowns_long, hundredth, digits_number p c long_c crowns, two_digits_are, ← (blank_exactly (9 - p) s).0 (long_s, form.rest)) field_is

good_is_written : (f : List ℕ) → length f ≡ 12 → is_money f ≡ true → (hellers_in f < 100000000000) × (f ≡ money_text (hellers_in f))
good_is_written f long good =
    let form = amount_has f good in
    let crowns : all_digits (part f 0 (crown_digits f)) ≡ true = rw (sub-zero (crown_digits f)) (run_passes is_digit f) in
    (good_below f (crown_digits f) long form crowns, good_text f (crown_digits f) long form crowns)

-- a field that reads as a number is the writing of that number
read_is_written : (f : List ℕ) (v : ℕ) → read_money f ≡ hellers v → (v < 100000000000) × (f ≡ money_text v)
read_is_written f v r =
    let p = (reads_exactly 12 f (is_money f) (record { 0 = hellers_in f }) (record { 0 = v })).0 r in
    rw (ap (λ n. n.0) p.1) at (good_is_written f p.0.long p.0.fine)

-- each number below 100000000000 has exactly one writing, and no other number has one
pub money_exactly : (f : List ℕ) (v : ℕ) → (read_money f ≡ hellers v) ↔ ((v < 100000000000) × (f ≡ money_text v))
money_exactly f v = (read_is_written f v, λ p. ap read_money p.1 ∙ money_written_read v p.0)

-- ---- a field that is not malformed, read and written: the field again, blank where the amount is absent
pub money_read_written : (f : List ℕ) → (read_money f ≡ Malformed → ⊥) → money_bytes (read_money f) ≡ f
money_read_written f good =
    read_written Absent Malformed 12 f (is_money f) (hellers (hellers_in f)) money_bytes refl (λ p. sym (good_is_written f p.long p.fine).1) good

-- ---- and a reading that has a writing, written and read: the reading again, absent where it was absent
pub money_reading_back : (m : MoneyReading) → has_money_text m ≡ true → read_money (money_bytes m) ≡ m
unfolding framed
money_reading_back Absent e = refl
money_reading_back (Value v) e = money_written_read v.0 (ltb-true v.0 100000000000 e)
money_reading_back Malformed e = cc
