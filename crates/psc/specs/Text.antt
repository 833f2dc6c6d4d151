-- The table as text: five digits and a line feed a line.
-- Assumes nothing.
use Rattle.std.specs.Prelude.{ℕ, zero, suc, ◌/◌, Bool, ◌&&◌, List, [], ◌∷◌, ◌++◌, map, length, get_or, take, drop, eqb}
use Rattle.text.specs.Bytes.{all_digits}
use Rattle.text.specs.Lists.{joined}
use Rattle.text.specs.Numbers.{number_of, digits}
use Rattle.psc.specs.Table.{right_table}

-- ---- written
abbrev pub line_of : ℕ → List ℕ
line_of n = digits 5 n ++ 10 ∷ []

abbrev pub text_of : List ℕ → List ℕ
text_of table = joined (map line_of table)

-- ---- read
-- a line stands at the front: five digits, and the line feed that ends it
abbrev pub starts_with_line : List ℕ → Bool
starts_with_line text = all_digits (take 5 text) && eqb (get_or text 5 0) 10

-- k lines, and nothing behind them
unfoldable pub is_lines : ℕ → List ℕ → Bool
is_lines zero text = eqb (length text) 0
is_lines (suc k) text = starts_with_line text && is_lines k (drop 6 text)

-- the numbers of k lines
unfoldable pub numbers_in : ℕ → List ℕ → List ℕ
numbers_in zero text = []
numbers_in (suc k) text = number_of (take 5 text) ∷ numbers_in k (drop 6 text)

abbrev pub lines_in : List ℕ → ℕ
lines_in text = length text / 6

abbrev pub table_in : List ℕ → List ℕ
table_in text = numbers_in (lines_in text) text

-- lines, and their numbers make a right table
unfoldable pub right_text : List ℕ → Bool
right_text text = is_lines (lines_in text) text && right_table (table_in text)
