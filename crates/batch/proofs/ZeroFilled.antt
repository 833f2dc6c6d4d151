-- A text printed at the front of a buffer of zeros: its length, more printed behind it, and the last part taken off again.
-- Assumes nothing.
use Prim.Native.Nat.{ℕ, zero, suc, ◌+◌, ◌-◌, ◌≤◌}
use mathlib.Core.Path.{◌≡◌, sym, ap, ◌∙◌}
use mathlib.Core.List.{List, ◌++◌, append_assoc}
use native.Mathlib.Nat.{sub-zero, zero-sub, suc-sub-suc}
use native.Mathlib.Omega.{arith}
use lib.ListN.{length, drop, length-append, length-replicate, replicate-append-replicate}
use lib.Seq.{take-append_seam, drop-append-add}
use Rattle.text.specs.Lists.{overlay}
use Rattle.posting.proofs.PrintedLines.{overlay_middle}
use Rattle.batch.specs.Batch.{zeros, zero_filled}

drop_zeros : (i k : ℕ) → drop i (zeros k) ≡ zeros (k - i)
drop_zeros zero k = ap zeros (sym (sub-zero k))
drop_zeros (suc i) zero = ap zeros (sym (zero-sub (suc i)))
drop_zeros (suc i) (suc k) = drop_zeros i k ∙ ap zeros (sym (suc-sub-suc k i))

zeros_joined : (a b n : ℕ) → a + b ≡ n → zeros a ++ zeros b ≡ zeros n
zeros_joined a b n e = replicate-append-replicate a b 0 ∙ ap zeros e

pub filled_long : (n : ℕ) (s : List ℕ) → length s ≤ n → length (zero_filled n s) ≡ n
filled_long n s h = omega (arith, length-append s (zeros (n - length s)), length-replicate {A = ℕ} (n - length s) 0)

-- more, behind what is printed
pub filled_more : (n : ℕ) (s p : List ℕ) → overlay (zero_filled n s) (length s) p ≡ zero_filled n (s ++ p)
filled_more n s p =
    let z : n - length s - length p ≡ n - length (s ++ p) = omega (arith, length-append s p) in
    ap (λ (t : List ℕ). t ++ (p ++ drop (length s + length p) (zero_filled n s))) (take-append_seam s (zeros (n - length s)))
    ∙ ap (λ (t : List ℕ). s ++ (p ++ t)) (drop-append-add s (zeros (n - length s)) (length p) ∙ drop_zeros (length p) (n - length s) ∙ ap zeros z)
    ∙ sym (append_assoc s p (zeros (n - length (s ++ p))))

-- the last part taken off again
pub filled_less : (m : ℕ) (s p : List ℕ) → length (s ++ p) ≤ m → overlay (zero_filled m (s ++ p)) (length s) (zeros (length p)) ≡ zero_filled m s
filled_less m s p h =
    ap (λ (t : List ℕ). overlay t (length s) (zeros (length p))) (append_assoc s p (zeros (m - length (s ++ p))))
    ∙ overlay_middle s p (zeros (m - length (s ++ p))) (zeros (length p)) (sym (length-replicate (length p) 0))
    ∙ ap (λ (t : List ℕ). s ++ t) (zeros_joined (length p) (m - length (s ++ p)) (m - length s) (omega (arith, length-append s p)))
