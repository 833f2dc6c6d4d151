-- Our words for lists of bytes in those of the library, as chains of iterators give them.
-- Assumes nothing.
use Rattle.std.proofs.Common.{rules, ◌≡◌, refl, ℕ, List, [], ◌∷◌}
use lib.Pointwise.{pointwise}
use lib.Dec.{eqb}
use Rattle.text.specs.Lists.{same_bytes}

pub same_is_pointwise : (xs ys : List ℕ) → same_bytes xs ys ≡ pointwise eqb xs ys
unfolding same_bytes
same_is_pointwise [] [] = refl
same_is_pointwise [] (y ∷ ys) = refl
same_is_pointwise (x ∷ xs) [] = refl
same_is_pointwise (x ∷ xs) (y ∷ ys) = search rules
