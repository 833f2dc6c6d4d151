-- Tables that are right and wrong, numbers looked up, and text: one list of examples under the one claim `shown`.
-- Assumes nothing.
use Rattle.std.specs.Prelude.{ℕ, Bool, true, not, List, [], ◌∷◌, ◌++◌, ◌≡◌, refl}
use Rattle.text.specs.Lists.{same_bytes}
use Rattle.text.specs.Numbers.{number_after, digits}
use Rattle.text.specs.Texts.{bytes, all_hold}
use Rattle.psc.specs.Table.{rises_from, right_table, holds}
use Rattle.psc.specs.Search.{found_in, found}
use Rattle.psc.specs.Text.{text_of, is_lines, numbers_in, table_in, right_text}

abbrev pub three : List ℕ
three = 0 ∷ 11000 ∷ 99999 ∷ []

unfoldable pub three_lines : List ℕ
three_lines = bytes "00000" ++ (10 ∷ bytes "11000") ++ (10 ∷ bytes "99999") ++ 10 ∷ []

unfoldable pub claims : List Bool
claims =
    right_table []
    ∷ right_table three
    ∷ not (right_table (11000 ∷ 11000 ∷ []))  -- two are equal
    ∷ not (right_table (60200 ∷ 11000 ∷ []))
    ∷ not (right_table (100000 ∷ []))
    ∷ holds three 0
    ∷ holds three 99999
    ∷ not (holds three 11001)
    ∷ not (holds [] 0)
    ∷ found three 0  -- the first, the middle and the last entry
    ∷ found three 11000
    ∷ found three 99999
    ∷ not (found three 11001)
    ∷ not (found [] 0)
    ∷ same_bytes (text_of three) three_lines
    ∷ same_bytes (table_in three_lines) three
    ∷ right_text three_lines
    ∷ right_text []
    ∷ not (right_text (bytes "11000"))  -- the last line has no line feed
    ∷ not (right_text (bytes "1100" ++ 10 ∷ []))
    ∷ not (right_text (bytes "1100x" ++ 10 ∷ []))
    ∷ not (right_text (bytes "60200" ++ (10 ∷ bytes "11000") ++ 10 ∷ []))
    ∷ []

pub shown : all_hold claims ≡ true
unfolding bytes all_hold same_bytes number_after digits rises_from right_table holds found_in found is_lines numbers_in right_text three_lines claims
shown = refl
