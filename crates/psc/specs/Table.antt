-- Order 5: the post's list of postcodes as numbers, strictly rising, 0 to 99999, at most 16,000 entries. An empty one is right.
-- Assumes nothing.
use Rattle.std.specs.Prelude.{ℕ, ◌+◌, Bool, true, false, ◌&&◌, ◌||◌, List, [], ◌∷◌, length, eqb, leb}
use Rattle.text.specs.declared.Answer.{Answer}
use Rattle.text.specs.Answers.{answer}
use Rattle.text.specs.Bytes.{every}

-- ---- a right table
-- the first entry is at least this, and each of the others is above the one before it
unfoldable pub rises_from : ℕ → List ℕ → Bool
rises_from least [] = true
rises_from least (n ∷ ns) = leb least n && rises_from (n + 1) ns

abbrev pub is_postcode : ℕ → Bool
is_postcode n = leb n 99999

unfoldable pub right_table : List ℕ → Bool
right_table table = leb (length table) 16000 && rises_from 0 table && every is_postcode table

-- 238, place 0: it is too long, doesn't rise or passes 99999
abbrev pub wrong_table : Answer
wrong_table = answer 238 0

-- ---- which postcodes exist
abbrev pub Known : Type 0
Known = ℕ → Bool

-- those that are in a table
unfoldable pub holds : List ℕ → Known
holds [] n = false
holds (m ∷ ms) n = eqb m n || holds ms n
