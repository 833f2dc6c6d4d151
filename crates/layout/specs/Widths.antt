-- A record laid out by a list of widths, over any such list: its fields from the front, counted from 0.
-- Assumes nothing.
use Rattle.std.specs.Prelude.{ℕ, ◌+◌, List, [], ◌∷◌, get_or, take, drop}
use Rattle.text.specs.Lists.{sum}

-- field k starts behind the k fields before it
abbrev pub start : List ℕ → ℕ → ℕ
start ws k = sum (take k ws)

abbrev pub cut : {A : Type 0} → List ℕ → List A → ℕ → List A
cut ws rec k = take (get_or ws k 0) (drop (start ws k) rec)

-- all fields, one behind the other
abbrev pub cuts : {A : Type 0} → List ℕ → List A → List (List A)
cuts [] rec = []
cuts (w ∷ ws) rec = take w rec ∷ cuts ws (drop w rec)

-- where each field starts, as a list, the first at a
abbrev pub starts_from : ℕ → List ℕ → List ℕ
starts_from a [] = []
starts_from a (w ∷ ws) = a ∷ starts_from (a + w) ws
