-- The codes of services: one table, number and text of each, so that the next code is a row more. And which texts of codes can be told apart.
-- Assumes nothing.
use Rattle.std.specs.Prelude.{ℕ, zero, suc, Bool, true, false, cond, not, ◌&&◌, ◌||◌, List, [], ◌∷◌, ◌++◌, map, eqb, leb}
use Rattle.text.specs.Bytes.{every, is_space}
use Rattle.text.specs.Lists.{same_bytes}
use Rattle.text.specs.Numbers.{decimal}

pub record Code : Type 0 where
  pub number : ℕ
  pub text : List ℕ

abbrev pub code : ℕ → List ℕ → Code
code n t = record { number = n; text = t }

-- ---- the table
-- so many codes from n on whose texts are their numbers, with no leading zero
unfoldable pub numbers_from : ℕ → ℕ → List Code
numbers_from n zero = []
numbers_from n (suc k) = code n (decimal n) ∷ numbers_from (suc n) k

-- 1 to 99
abbrev pub numbers : List Code
numbers = numbers_from 1 99

abbrev pub lettered : List Code
lettered =
    code 100 (49 ∷ 65 ∷ [])  -- 1A
    ∷ code 101 (49 ∷ 66 ∷ [])  -- 1B
    ∷ code 102 (49 ∷ 68 ∷ [])  -- 1D
    ∷ code 103 (49 ∷ 75 ∷ [])  -- 1K
    ∷ code 104 (49 ∷ 78 ∷ [])  -- 1N
    ∷ []

abbrev pub sizes : List Code
sizes =
    code 105 (83 ∷ [])  -- S
    ∷ code 106 (77 ∷ [])  -- M
    ∷ code 107 (76 ∷ [])  -- L
    ∷ code 108 (88 ∷ 76 ∷ [])  -- XL
    ∷ []

unfoldable pub codes : List Code
codes = numbers ++ (lettered ++ sizes)

-- ---- what a table says
abbrev pub numbers_of : List Code → List ℕ
numbers_of = map (λ c. c.number)

-- the number of the code with this text; 0, which is none, where no code has it
unfoldable pub number_for : List Code → List ℕ → ℕ
number_for [] t = 0
number_for (c ∷ cs) t = cond (same_bytes c.text t) c.number (number_for cs t)

-- the text of the code with this number
unfoldable pub text_for : List Code → ℕ → List ℕ
text_for [] n = []
text_for (c ∷ cs) n = cond (eqb c.number n) c.text (text_for cs n)

unfoldable pub has_number : List Code → ℕ → Bool
has_number [] n = false
has_number (c ∷ cs) n = eqb c.number n || has_number cs n

unfoldable pub has_text : List Code → List ℕ → Bool
has_text [] t = false
has_text (c ∷ cs) t = same_bytes c.text t || has_text cs t

-- ---- which texts can be told apart
-- a number of which a set can say whether it is there
abbrev pub is_code : ℕ → Bool
is_code n = leb 1 n && leb n 127

-- a byte that neither ends a word nor joins it to another
abbrev pub in_word : ℕ → Bool
in_word b = not (is_space b) && not (eqb b 43)

abbrev pub is_word : List ℕ → Bool
is_word [] = false
is_word (b ∷ bs) = in_word b && every in_word bs

-- each text is a word, each number can be told to be there, and no two codes have one text or one number
unfoldable pub told_apart : List Code → Bool
told_apart [] = true
told_apart (c ∷ cs) = is_code c.number && is_word c.text && not (has_number cs c.number) && not (has_text cs c.text) && told_apart cs
