-- The codes that the record check can give, named once. Whoever adds a rule with a new code adds it here.
-- Assumes nothing.
use Rattle.std.specs.Prelude.{ℕ, Bool, true, false, cond, List, [], ◌∷◌, eqb}

-- the table's, in its order
abbrev pub table_codes : List ℕ
table_codes = 1 ∷ 210 ∷ 27 ∷ 21 ∷ 24 ∷ 31 ∷ 34 ∷ 36 ∷ 11 ∷ 221 ∷ 222 ∷ 220 ∷ 223 ∷ 72 ∷ []

-- and 236 for another length than 399, 0 for a good record; 238 is the lent table's
abbrev pub record_codes : List ℕ
record_codes = 236 ∷ 0 ∷ table_codes

-- c is none of these
unfoldable pub lacks : ℕ → List ℕ → Bool
lacks c [] = true
lacks c (x ∷ xs) = cond (eqb x c) false (lacks c xs)
