-- Nine digits or ten, looked at by eights: the first eight, and the last eight.
-- Assumes nothing.
use Prim.Native.Nat.{ℕ, ◌+◌, ◌-◌, ◌≤◌}
use mathlib.Core.Path.{◌≡◌, refl, ◌∙◌}
use mathlib.Core.Bool.{Bool, false, ◌&&◌}
use mathlib.Core.Logic.{⊎_elim}
use mathlib.Core.List.{List}
use native.Mathlib.Nat.{eq-or-lt_of_le}
use native.Mathlib.Omega.{arith}
use lib.ListN.{length}
use Rattle.text.specs.Bytes.{is_digit, all_digits}
use Rattle.text.specs.Lists.{part}
use Rattle.text.proofs.Lists.{spell, spelled}
use Rattle.text.proofs.Words.{both_ends}

pub eights : (s : List ℕ) (n : ℕ) → length s ≡ 13 → (8 ≤ n) × (n ≤ 9) → (all_digits (part s 2 10) && all_digits (part s (n - 5) (n + 3))) ≡ all_digits (part s 2 (n + 3))
eights s n long bounds = ⊎_elim nine (λ less. eight (omega arith)) (eq-or-lt_of_le bounds.1)
  where
    nine : n ≡ 9 → (all_digits (part s 2 10) && all_digits (part s (n - 5) (n + 3))) ≡ all_digits (part s 2 (n + 3))
    nine e = rw (e, spelled 13 s long) (both_ends is_digit 8 (part (spell 13 s) 2 12) _ _ (omega arith) (omega arith) refl refl)

    eight : n ≡ 8 → (all_digits (part s 2 10) && all_digits (part s (n - 5) (n + 3))) ≡ all_digits (part s 2 (n + 3))
    eight e = rw (e, spelled 13 s long) (both_ends is_digit 8 (part (spell 13 s) 2 11) _ _ (omega arith) (omega arith) refl refl)

pub eights_fail : (s : List ℕ) (n : ℕ) (a : Bool) → length s ≡ 13 → (8 ≤ n) × (n ≤ 9) → a ≡ all_digits (part s 2 10) → a ≡ false → a ≡ all_digits (part s 2 (n + 3))
eights_fail s n a long bounds front fails = fails ∙ (rw (← front, fails) at (eights s n long bounds))
