-- The line of seven decimal numbers that the checking program prints.
-- Assumes nothing.
use Rattle.std.specs.Prelude.{ℕ, cond, ◌≡◌, List, [], ◌∷◌, ◌++◌, length, take, leb, ltb, Result, Ok, Err}
use Rattle.text.specs.declared.Refusal.{Refusal}
use Rattle.text.specs.declared.Refusal.TheVariants.{WrongLength}
use Rattle.text.specs.Lists.{overlay}
use Rattle.text.specs.Numbers.{decimal}
use Rattle.psc.specs.Table.{right_table, holds}
use Rattle.psc.specs.Text.{table_in, right_text}
use Rattle.posting.specs.declared.FileAnswer.{FileAnswer}
use Rattle.posting.specs.File.{file_answer, refused, table_refused}

-- code, record, place, live, cancelled, cash on delivery in haléře, price specified in haléře
abbrev pub numbers_of : FileAnswer → List ℕ
numbers_of a =
    a.code ∷ a.number ∷ a.place ∷ a.totals.live ∷ a.totals.cancelled ∷ a.totals.cash.0 ∷ a.totals.price.0 ∷ []

-- the byte behind a number: a space if more numbers follow, a line feed behind the last
abbrev pub behind : List ℕ → ℕ
behind [] = 10
behind (m ∷ ns) = 32

-- each number in decimal, with the byte behind it
unfoldable pub line : List ℕ → List ℕ
line [] = []
line (n ∷ ns) = decimal n ++ behind ns ∷ line ns

abbrev pub report_of : FileAnswer → List ℕ
report_of a = line (numbers_of a)

-- the line in front of a lent buffer and its length; 236, place 0, exactly if the buffer is shorter than the line, and then it stays
pub record Report (a : FileAnswer) (before : List ℕ) (r : Result ℕ Refusal) (after : List ℕ) : Type 0 where
  pub answers : r ≡ cond (leb (length (report_of a)) (length before)) (Ok (length (report_of a))) (Err WrongLength)
  pub bytes : after ≡ cond (leb (length (report_of a)) (length before)) (overlay before 0 (report_of a)) before

-- ---- the longest line: seven numbers of 20 digits, each with a byte behind it
abbrev pub longest_line : ℕ
longest_line = 147

-- what `Report` says where the buffer has at least so many bytes: the whole line stands there
pub record WholeLine (a : FileAnswer) (r : Result ℕ Refusal) (after : List ℕ) : Type 0 where
  pub answers : r ≡ Ok (length (report_of a))
  pub bytes : take (length (report_of a)) after ≡ report_of a

-- ---- the checking program takes at most 64,160 bytes; 238 is ahead of its 213
unfoldable pub input_answer : List ℕ → List ℕ → FileAnswer
input_answer psc input = cond (right_table psc) (cond (ltb 64160 (length input)) (refused 213 0 0) (file_answer (holds psc) input)) table_refused

-- ---- under a table that is given as text: 238 where it is otherwise written, else by its table
abbrev pub under_text : List ℕ → (List ℕ → FileAnswer) → FileAnswer
under_text text answer = cond (right_text text) (answer (table_in text)) table_refused
