-- "The identifier, 13 bytes", in the paper's order. A byte is a number; places are counted from 0.
-- Assumes nothing.
use Rattle.std.specs.Prelude.{ℕ, ◌+◌, ◌-◌, ◌*◌, ◌%◌, List, [], ◌∷◌, ◌≡◌, refl, ◌⊎◌, Bool, cond, not, ◌&&◌, ◌||◌, length, get_or, drop, ltb, eqb, ◌≤◌, Option, MatchOption}
use Rattle.text.specs.Bytes.{is_capital, all_digits}
use Rattle.text.specs.Lists.{part}
use Rattle.text.specs.Numbers.{number_of}
use Rattle.ident.specs.declared.Shape.{Shape}

-- ---- prefix: A to Z, then A to Z or a space
abbrev pub right_prefix : ℕ → ℕ → Bool
right_prefix a b = is_capital a && (is_capital b || eqb b 32)

-- ---- the rest goes by the last byte
abbrev pub last_of : List ℕ → ℕ
last_of s = get_or s 12 0

abbrev shape : ℕ → ℕ → Shape
shape c p = record { consignor = c; posting = p }

-- the table, row by row: consignor digits and posting digits; none and none where no row has the byte
unfoldable pub shape_of : ℕ → Shape
shape_of l =
    cond (eqb l 70 || eqb l 69 || eqb l 80) (shape 2 7)  -- F E P
    (cond (eqb l 85 || eqb l 84) (shape 3 6)  -- U T
    (cond (eqb l 67 || eqb l 66) (shape 4 5)  -- C B
    (cond (eqb l 77 || eqb l 76) (shape 5 4)  -- M L
    (cond (eqb l 90) (shape 0 8)  -- Z
    (shape 0 0)))))

-- what the table tells of a last byte: that no row has it, or the digits, of which there are eight or nine
abbrev pub Row : ℕ → Option Shape → Type 0
Row l o = MatchOption o (shape_of l ≡ shape 0 0) (λ h. (h ≡ shape_of l) × (h.consignor ≤ 5) × (8 ≤ h.consignor + h.posting) × (h.consignor + h.posting ≤ 9))

abbrev pub consignor_digits : ℕ → ℕ
consignor_digits l = (shape_of l).consignor

abbrev pub posting_digits : ℕ → ℕ
posting_digits l = (shape_of l).posting

-- the digits before the check digit: nine, and eight for CZ
abbrev pub digits_before : ℕ → ℕ
digits_before l = consignor_digits l + posting_digits l

-- ---- consignor and posting number, from place 2 on
abbrev pub consignor_of : List ℕ → ℕ
consignor_of s = number_of (part s 2 (consignor_digits (last_of s) + 2))

abbrev pub posting_of : List ℕ → ℕ
posting_of s = number_of (part s (consignor_digits (last_of s) + 2) (digits_before (last_of s) + 2))

-- ---- weights for nine digits; n digits have the last n of them
abbrev pub weights : List ℕ
weights = 1 ∷ 8 ∷ 6 ∷ 4 ∷ 2 ∷ 3 ∷ 5 ∷ 9 ∷ 7 ∷ []

abbrev pub weights_for : ℕ → List ℕ
weights_for n = drop (9 - n) weights

pub weights_of_CZ : weights_for 8 ≡ 8 ∷ 6 ∷ 4 ∷ 2 ∷ 3 ∷ 5 ∷ 9 ∷ 7 ∷ []
weights_of_CZ = refl

unfoldable pub weighted : List ℕ → List ℕ → ℕ
weighted [] ds = 0
weighted (w ∷ ws) [] = 0
weighted (w ∷ ws) (d ∷ ds) = w * (d - 48) + weighted ws ds

-- ---- the check digit of a remainder
abbrev pub check_digit : ℕ → ℕ
check_digit a = cond (eqb a 0) 5 (cond (eqb a 1) 0 (11 - a))

-- the weighted sum of the n digits from place 2, its remainder, and whether the byte behind them is the check digit
abbrev pub sum_at : List ℕ → ℕ → ℕ
sum_at s n = weighted (weights_for n) (part s 2 (n + 2))

abbrev pub remainder_at : List ℕ → ℕ → ℕ
remainder_at s n = sum_at s n % 11

abbrev pub passes_at : List ℕ → ℕ → Bool
passes_at s n = eqb (get_or s (n + 2) 0) (48 + check_digit (remainder_at s n))

-- the same of an identifier, by its last byte
abbrev pub sum_of : List ℕ → ℕ
sum_of s = sum_at s (digits_before (last_of s))

abbrev pub remainder : List ℕ → ℕ
remainder s = remainder_at s (digits_before (last_of s))

abbrev pub passes : List ℕ → Bool
passes s = passes_at s (digits_before (last_of s))

-- the remainder moves from 0 to 6 or from 6 to 0
unfoldable pub Moves : ℕ → ℕ → Type 0
Moves a b = ((a ≡ 0) × (b ≡ 6)) ⊎ ((a ≡ 6) × (b ≡ 0))

-- ---- a right identifier
-- the postfix CZ; or consignor and posting number, which are at least 1
unfoldable pub ends_right : List ℕ → Bool
ends_right s = cond (eqb (last_of s) 90) (eqb (get_or s 11 0) 67) (ltb 0 (consignor_of s) && ltb 0 (posting_of s))

unfoldable pub right_id : List ℕ → Bool
right_id s =
    eqb (length s) 13
    && (right_prefix (get_or s 0 0) (get_or s 1 0)
    && (not (eqb (posting_digits (last_of s)) 0)
    && (all_digits (part s 2 (digits_before (last_of s) + 3))
    && (passes s && ends_right s))))
