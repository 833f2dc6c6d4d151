-- Parts of a list, lists joined and summed, and lists compared.
use Rattle.std.specs.Prelude.{ℕ, ◌+◌, ◌-◌, Bool, true, false, ◌&&◌, List, [], ◌∷◌, ◌++◌, length, take, drop, eqb}

-- the elements from place a up to place e, counted from 0
abbrev pub part : {A : Type 0} → List A → ℕ → ℕ → List A
part s a e = take (e - a) (drop a s)

-- p in the place of as many elements from a on
abbrev pub overlay : {A : Type 0} → List A → ℕ → List A → List A
overlay s a p = take a s ++ (p ++ drop (a + length p) s)

-- the same bytes in the same places
unfoldable pub same_bytes : List ℕ → List ℕ → Bool
same_bytes [] [] = true
same_bytes [] (y ∷ ys) = false
same_bytes (x ∷ xs) [] = false
same_bytes (x ∷ xs) (y ∷ ys) = eqb x y && same_bytes xs ys

abbrev pub sum : List ℕ → ℕ
sum [] = 0
sum (n ∷ ns) = n + sum ns

-- one list behind the other
abbrev pub joined : {A : Type 0} → List (List A) → List A
joined [] = []
joined (s ∷ ss) = s ++ joined ss
