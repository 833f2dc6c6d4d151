-- A test that is computed at each number of a range holds at every number of it.
-- Assumes nothing.
use Prim.Native.Nat.{ℕ, zero, suc, ◌+◌, ◌≤◌, ◌<◌, zero-le}
use mathlib.Core.Path.{◌≡◌, refl, subst}
use mathlib.Core.Bool.{Bool, true, false, ◌&&◌, ◌||◌}
use mathlib.Core.Logic.{◌⊎◌, inl, inr, ⊎_elim}
use native.Mathlib.Nat.{eq-or-lt_of_le}
use native.Mathlib.Omega.{arith}
use lib.Dec.{T}

-- n numbers from lo on pass the test
abbrev pub all_from : (ℕ → Bool) → ℕ → ℕ → Bool
all_from test lo zero = true
all_from test lo (suc n) = test lo && all_from test (suc lo) n

and_left : (a b : Bool) → T (a && b) → T a
and_left true b t = tt
and_left false b t = t

and_right : (a b : Bool) → T (a && b) → T b
and_right true b t = t
and_right false b t = absurd t

pub either : (a b : Bool) → T (a || b) → T a ⊎ T b
either true b t = inl tt
either false b t = inr t

pub is_true : (b : Bool) → T b → b ≡ true
is_true true t = refl
is_true false t = absurd t

pub within : (test : ℕ → Bool) (lo n k : ℕ) → T (all_from test lo n) → lo ≤ k → k < lo + n → T (test k)
within test lo zero k t l h = absurd (omega arith)
within test lo (suc n) k t l h =
    ⊎_elim
    (λ e. subst (λ (j : ℕ). T (test j)) e (and_left (test lo) (all_from test (suc lo) n) t))
    (λ lt. within test (suc lo) n k (and_right (test lo) (all_from test (suc lo) n) t) lt (omega arith))
    (eq-or-lt_of_le l)

-- the same from 0 on
pub below : (test : ℕ → Bool) (n k : ℕ) → T (all_from test 0 n) → k < n → T (test k)
below test n k t h = within test 0 n k t zero-le (omega arith)
