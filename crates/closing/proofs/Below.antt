-- What holds of every number below n, and of n, holds of every number below n + 1.
-- Assumes nothing.
use Prim.Native.Nat.{ℕ, suc, ◌<◌}
use mathlib.Core.Path.{◌≡◌, refl, sym, subst}
use mathlib.Core.Bool.{Bool, true, false}
use native.Mathlib.Omega.{arith}
use borrow.Author.Tests.{eqb-true, eqb-false}
use lib.Dec.{eqb}

pub below_more : (P : ℕ → Type 0) (n : ℕ) → ((j : ℕ) → j < n → P j) → P n → (j : ℕ) → j < suc n → P j
below_more P n below here j h = go (eqb j n) refl
  where
    go : (t : Bool) → eqb j n ≡ t → P j
    go true e = subst P (sym (eqb-true j n e)) here
    go false e = let other = eqb-false j n e in below j (omega arith)
