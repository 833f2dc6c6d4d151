-- What reading text into a table promises.
-- Assumes nothing.
use Rattle.std.specs.Prelude.{ℕ, ◌≡◌, Bool, cond, ◌&&◌, List, length, leb, Result, IfOk}
use Rattle.text.specs.declared.Answer.{Answer}
use Rattle.text.specs.declared.Refusal.{Refusal}
use Rattle.text.specs.Answers.{accepted, wrong_length, answered}
use Rattle.text.specs.Lists.{overlay}
use Rattle.psc.specs.Table.{wrong_table}
use Rattle.psc.specs.Text.{lines_in, table_in, right_text}

-- 238 for text that is otherwise written, then 236 for a lent table of fewer places than there are lines
abbrev pub read_answer : List ℕ → ℕ → Answer
read_answer text places = cond (right_text text) (cond (leb (lines_in text) places) accepted wrong_length) wrong_table

abbrev pub is_read : List ℕ → ℕ → Bool
is_read text places = right_text text && leb (lines_in text) places

-- the table of the text at the front of the lent one, and how many entries it has; refused, nothing is changed
pub record TableRead (text before : List ℕ) (r : Result ℕ Refusal) (after : List ℕ) : Type 0 where
  pub answers : answered r ≡ read_answer text (length before)
  pub counts : IfOk r (λ n. n ≡ lines_in text)
  pub entries : after ≡ cond (is_read text (length before)) (overlay before 0 (table_in text)) before
