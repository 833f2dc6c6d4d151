-- Text and tables: a right table that is written is read back, and no other text is read as it.
-- Assumes nothing.
use Prim.Native.Nat.{ℕ, zero, suc, ◌+◌, ◌*◌, ◌<◌}
use mathlib.Core.Path.{◌≡◌, refl, sym, ap, ◌∙◌}
use mathlib.Core.Bool.{Bool, true, false}
use mathlib.Core.List.{List, [], ◌∷◌, ◌++◌}
use native.Mathlib.Omega.{arith}
use borrow.Author.Tests.{ltb-true, ltb-false, leb-true, le-leb, eqb-true}
use lib.Dec.{eqb, ltb}
use lib.ListN.{length, get_or, take, drop, get_or-eq_default}
use lib.Seq.{length-take-le, append_snoc, split_at}
use Rattle.text.specs.Bytes.{every, all_digits}
use Rattle.text.specs.Numbers.{number_of, digits}
use Rattle.text.proofs.Booleans.{both}
use Rattle.text.proofs.Lists.{spelled}
use Rattle.text.proofs.Numbers.{digits_all, number_digits, number_below, digits_number}
use Rattle.psc.specs.Table.{is_postcode, right_table}
use Rattle.psc.specs.Text.{line_of, text_of, starts_with_line, is_lines, numbers_in, lines_in, table_in, right_text}
use Rattle.psc.specs.Outcomes.{ReadExactly}
use Rattle.psc.proofs.TableLaws.{right_postcodes}

-- ---- a line at the front of a text
module _ (text : List ℕ) (good : starts_with_line text ≡ true) where
  line_is : (all_digits (take 5 text) ≡ true) × (get_or text 5 0 ≡ 10)
  line_is =
      let p = both (all_digits (take 5 text)) (eqb (get_or text 5 0) 10) good in
      (p.0, eqb-true (get_or text 5 0) 10 p.1)

  line_long : 5 < length text
  line_long = go (ltb 5 (length text)) refl
    where
      go : (t : Bool) → ltb 5 (length text) ≡ t → 5 < length text
      go true e = ltb-true 5 (length text) e
      go false e = absurd (omega (arith, line_is.1, get_or-eq_default text 0 (ltb-false 5 (length text) e)))

  five : length (take 5 text) ≡ 5
  five = length-take-le 5 text (omega (arith, line_long))

  pub line_below : number_of (take 5 text) < 100000
  line_below = number_below 5 (take 5 text) five line_is.0

  line_written : line_of (number_of (take 5 text)) ++ drop 6 text ≡ text
  line_written =
      rw (digits_number 5 (take 5 text) five line_is.0, append_snoc)
      (sym (split_at text 5 0 line_long ∙ ap (λ (b : ℕ). take 5 text ++ b ∷ drop 6 text) line_is.1))

-- ---- read, then written
pub lines_written : (k : ℕ) (text : List ℕ) → is_lines k text ≡ true → text_of (numbers_in k text) ≡ text
unfolding is_lines numbers_in
lines_written zero text h = sym (spelled 0 text (eqb-true (length text) 0 h))
lines_written (suc k) text h =
    let p = both (starts_with_line text) (is_lines k (drop 6 text)) h in
    rw (lines_written k (drop 6 text) p.1) (line_written text p.0)

pub lines_within : (k : ℕ) (text : List ℕ) → is_lines k text ≡ true → every is_postcode (numbers_in k text) ≡ true
unfolding is_lines numbers_in
lines_within zero text h = refl
lines_within (suc k) text h =
    let p = both (starts_with_line text) (is_lines k (drop 6 text)) h in
    rw (le-leb (number_of (take 5 text)) 99999 (omega (arith, line_below text p.0)), lines_within k (drop 6 text) p.1)

pub length_numbers : (k : ℕ) (text : List ℕ) → length (numbers_in k text) ≡ k
unfolding numbers_in
length_numbers zero text = refl
length_numbers (suc k) text = ap suc (length_numbers k (drop 6 text))

-- ---- written, then read
-- a line, and what is behind it
module _ (n : ℕ) (rest : List ℕ) where
  front : take 5 (line_of n ++ rest) ≡ digits 5 n
  unfolding digits
  front = refl

  feed : get_or (line_of n ++ rest) 5 0 ≡ 10
  unfolding digits
  feed = refl

  behind : drop 6 (line_of n ++ rest) ≡ rest
  unfolding digits
  behind = refl

  line_length : length (line_of n ++ rest) ≡ 6 + length rest
  unfolding digits
  line_length = omega arith

length_text : (table : List ℕ) → length (text_of table) ≡ length table * 6
length_text [] = refl
length_text (n ∷ ns) = omega (arith, line_length n (text_of ns), length_text ns)

lines_in_lem : (table : List ℕ) → lines_in (text_of table) ≡ length table
lines_in_lem table = rw (length_text table) (omega arith)

text_lines : (table : List ℕ) → is_lines (length table) (text_of table) ≡ true
unfolding is_lines
text_lines [] = refl
text_lines (n ∷ ns) = rw (front n (text_of ns), feed n (text_of ns), behind n (text_of ns), digits_all 5 n, text_lines ns)

text_numbers : (table : List ℕ) → every is_postcode table ≡ true → numbers_in (length table) (text_of table) ≡ table
unfolding numbers_in
text_numbers [] h = refl
text_numbers (n ∷ ns) h =
    let p = both (is_postcode n) (every is_postcode ns) h in
    rw (
      front n (text_of ns),
      behind n (text_of ns),
      number_digits 5 n (omega (arith, leb-true n 99999 p.0)),
      text_numbers ns p.1,
    )

-- so a text of lines has six bytes to each
pub lines_long : (k : ℕ) (text : List ℕ) → is_lines k text ≡ true → length text ≡ k * 6
lines_long k text h = ap length (sym (lines_written k text h)) ∙ length_text (numbers_in k text) ∙ ap (λ (m : ℕ). m * 6) (length_numbers k text)

-- ---- a right table, and right text
module _ (table : List ℕ) (right : right_table table ≡ true) where
  pub read_back : table_in (text_of table) ≡ table
  read_back = rw (lines_in_lem table) (text_numbers table (right_postcodes table right))

  pub written_read : right_text (text_of table) ≡ true
  unfolding right_text
  written_read = rw (read_back, lines_in_lem table, text_lines table) right

pub right_text_table : (text : List ℕ) → right_text text ≡ true → right_table (table_in text) ≡ true
unfolding right_text
right_text_table text h = (both (is_lines (lines_in text) text) (right_table (table_in text)) h).1

right_text_written : (text : List ℕ) → right_text text ≡ true → text_of (table_in text) ≡ text
unfolding right_text
right_text_written text h = lines_written (lines_in text) text (both (is_lines (lines_in text) text) (right_table (table_in text)) h).0

pub read_exactly : (text table : List ℕ) → ReadExactly text table
read_exactly text table = (
  λ p. rw (← p.1) (right_text_table text p.0, right_text_written text p.0),
  λ p. rw (← p.1) (written_read table p.0, read_back table p.0),
)
