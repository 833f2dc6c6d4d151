-- Digits and the numbers that they write, both ways. A digit's value is its byte less 48.
use Rattle.std.specs.Prelude.{ℕ, zero, suc, ◌+◌, ◌-◌, ◌*◌, ◌/◌, ◌%◌, List, [], ◌∷◌, ◌++◌, cond, ltb, take}

-- the number that digits write, behind the digits of n
unfoldable pub number_after : ℕ → List ℕ → ℕ
number_after n [] = n
number_after n (d ∷ ds) = number_after (n * 10 + (d - 48)) ds

abbrev pub number_of : List ℕ → ℕ
number_of ds = number_after 0 ds

abbrev pub number_of_first : ℕ → List ℕ → ℕ
number_of_first k ds = number_of (take k ds)

-- the last w decimal places of n
unfoldable pub digits : ℕ → ℕ → List ℕ
digits zero n = []
digits (suc w) n = digits w (n / 10) ++ (48 + n % 10) ∷ []

-- how many decimal places n has: at least 1, at most k + 1
unfoldable pub decimal_places_up_to : ℕ → ℕ → ℕ
decimal_places_up_to zero n = 1
decimal_places_up_to (suc k) n = cond (ltb n 10) 1 (suc (decimal_places_up_to k (n / 10)))

-- of a number of 64 bits, which has at most 20
abbrev pub decimal_places : ℕ → ℕ
decimal_places n = decimal_places_up_to 19 n

-- n in decimal, with no leading zero but a lone 0
abbrev pub decimal : ℕ → List ℕ
decimal n = digits (decimal_places n) n
