-- The bytes at the front of a text that pass a test.
-- Assumes nothing.
use Prim.Native.Nat.{ℕ, suc, ◌+◌}
use native.Mathlib.Omega.{arith}
use mathlib.Core.Path.{◌≡◌, refl, ap, ◌∙◌}
use mathlib.Core.Bool.{Bool, true, false, cond, and-eq-true_iff}
use mathlib.Core.List.{List, [], ◌∷◌, ◌++◌}
use lib.ListN.{length, take}
use Rattle.text.specs.Bytes.{every, run}

one_more : (n : ℕ) → 1 + n ≡ suc n
one_more n = omega arith

module _ (test : ℕ → Bool) where
  -- the run ends at the first byte that fails
  pub run_is : (xs : List ℕ) (y : ℕ) (ys : List ℕ) → every test xs ≡ true → test y ≡ false → run test (xs ++ y ∷ ys) ≡ length xs
  run_is [] y ys g n = rw n
  run_is (x ∷ xs) y ys g n =
      let both = (and-eq-true_iff (test x) (every test xs)).0 g in
      rw both.0 (ap (λ k. 1 + k) (run_is xs y ys both.1 n) ∙ one_more (length xs))

  -- each byte of the run passes
  pub run_passes : (s : List ℕ) → every test (take (run test s) s) ≡ true
  run_passes [] = refl
  run_passes (x ∷ s) = go (test x) refl (run_passes s)
    where
      go : (t : Bool) → test x ≡ t → every test (take (run test s) s) ≡ true → every test (take (cond t (1 + run test s) 0) (x ∷ s)) ≡ true
      go true e rest = rw one_more (rw e rest)
      go false e rest = refl
