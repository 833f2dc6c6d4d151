-- What is shown of tables and of their text, in the order's words (`proofs/TableLaws`, `SearchLaws`, `TextLaws`).
-- Assumes nothing.
use Rattle.std.specs.Prelude.{ℕ, ◌≤◌, ◌<◌, ◌≡◌, true, List, ◌↔◌, length, get_or}
use Rattle.psc.specs.Table.{right_table, holds}
use Rattle.psc.specs.Search.{found}
use Rattle.psc.specs.Text.{text_of, table_in, right_text}

-- ---- at most 16,000 entries, strictly rising, none above 99999
pub record RightTable (table : List ℕ) : Type 0 where
  pub few : length table ≤ 16000
  pub rises : (i j : ℕ) → i < j → j < length table → get_or table i 0 < get_or table j 0
  pub within : (i : ℕ) → i < length table → get_or table i 0 ≤ 99999

-- 238 is not given exactly then (`right_exactly`)
abbrev pub RightExactly : List ℕ → Type 0
RightExactly table = (right_table table ≡ true) ↔ RightTable table

-- ---- a number is one of the entries
pub record IsEntry (table : List ℕ) (n : ℕ) : Type 0 where
  pub place : ℕ
  pub inside : place < length table
  pub there : get_or table place 0 ≡ n

-- in any table (`holds_exactly`)
abbrev pub HoldsExactly : List ℕ → ℕ → Type 0
HoldsExactly table n = (holds table n ≡ true) ↔ IsEntry table n

-- looked up in halves, a number is found exactly if it is an entry (`found_exactly`, of every right table)
abbrev pub FoundExactly : List ℕ → ℕ → Type 0
FoundExactly table n = (found table n ≡ true) ↔ IsEntry table n

-- ---- text is right exactly if it is a right table written as lines, and that is the table which is read (`read_exactly`, of all texts and tables)
abbrev pub ReadExactly : List ℕ → List ℕ → Type 0
ReadExactly text table = ((right_text text ≡ true) × (table_in text ≡ table)) ↔ ((right_table table ≡ true) × (text_of table ≡ text))
