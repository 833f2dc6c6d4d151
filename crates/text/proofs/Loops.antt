-- Each turn of the loops, and each way out of them, from the facts that are known there.
-- Assumes nothing.
use Prim.Native.Nat.{ℕ, zero, suc, ◌+◌, ◌-◌, ◌*◌, ◌/◌, ◌%◌, ◌≤◌, ◌<◌}
use mathlib.Core.Path.{◌≡◌, sym, ◌∙◌}
use mathlib.Core.Bool.{Bool, true, false, not, ◌&&◌, and_assoc, and-true}
use mathlib.Core.List.{List, [], ◌∷◌, ◌++◌, append_assoc, append-nil}
use native.Mathlib.Numerals.{add-one}
use native.Mathlib.Omega.{arith}
use borrow.Author.Tests.{not-true}
use mir.Syntax.{w64}
use mir.Val.{Fits}
use lib.ListN.{length, get_or, drop, set, length-set}
use lib.Seq.{drop-set-lt, get_or-set_same, drop-length}
use Rattle.text.specs.Bytes.{every}
use Rattle.text.specs.Numbers.{number_after, digits}
use Rattle.text.proofs.Lists.{step, ended}
use Rattle.text.proofs.Numbers.{ten, ten_grows}

-- ---- a test at each byte
module _ (test : ℕ → Bool) (s : List ℕ) (i : ℕ) (r : Bool) (known : every test (drop i s) ≡ r) where
  pub every_fails : (b : Bool) → i < length s → b ≡ test (get_or s i 0) → not b ≡ true → false ≡ r
  every_fails b h e n = rw (step s i h, ← e, not-true b n) at known

-- the same with no way out before the end, g saying whether all passed so far
module _ (test : ℕ → Bool) (s : List ℕ) (i : ℕ) (g r : Bool) (known : (g && every test (drop i s)) ≡ r) where
  pub seen_on : (b : Bool) → i < length s → b ≡ test (get_or s i 0) → (g && b && every test (drop (i + 1) s)) ≡ r
  seen_on b h e = and_assoc g b (every test (drop (i + 1) s)) ∙ (rw (step s i h, ← e) at known)

  pub seen_all : length s ≤ i → g ≡ r
  seen_all h = sym (and-true g) ∙ (rw (ended s i h) at known)

-- ---- the number that the first k digits write
-- with fewer than 16 of them read, one more fits into 64 bits
module _ (n i : ℕ) (known : 9 * n + 207 ≤ 207 * ten i) (most : i ≤ 16) (more : i ≡ 16 → ⊥) where
  pub tenfold_fits : Fits w64 (n * 10)
  tenfold_fits = record { fits = omega (arith, ten_grows i 15 (omega arith)) }

  pub digit_fits : (v : ℕ) → v < 208 → Fits w64 (n * 10 + v)
  digit_fits v h = record { fits = omega (arith, ten_grows i 15 (omega arith)) }

module _ (s : List ℕ) (i n r : ℕ) (known : number_after n (drop i s) ≡ r) where
  pub number_on : (v : ℕ) → i < length s → v ≡ get_or s i 0 - 48 → number_after (n * 10 + v) (drop (i + 1) s) ≡ r
  unfolding number_after
  number_on v h e = rw e (rw (step s i h) at known)

  pub number_ends : length s ≤ i → n ≡ r
  unfolding number_after
  number_ends h = rw (ended s i h) at known

-- ---- digits, written from the last place to the first
pub digits_start : (s : List ℕ) (n : ℕ) → digits (length s) n ++ drop (length s) s ≡ digits (length s) n
digits_start s n = rw drop-length (append-nil (digits (length s) n))

pub digits_on : (s : List ℕ) (i n : ℕ) → 0 < i → i ≤ length s → digits (i - 1) (n / 10) ++ drop (i - 1) (set s (i - 1) (48 + n % 10)) ≡ digits i n ++ drop i s
unfolding digits
digits_on s zero n p h = absurd (omega arith)
digits_on s (suc i) n p h =
    let back : suc i - 1 ≡ i = omega arith in
    let long : i < length (set s i (48 + n % 10)) = simp length-set (omega arith) in
    rw (back, step (set s i (48 + n % 10)) i long, get_or-set_same s i (48 + n % 10) 0 (omega arith), add-one, drop-set-lt (suc i) s i (48 + n % 10) (omega arith))
    (sym (append_assoc (digits i (n / 10)) ((48 + n % 10) ∷ []) (drop (suc i) s)))

pub digits_done : (s : List ℕ) (i n : ℕ) → i ≤ 0 → digits i n ++ drop i s ≡ s
unfolding digits
digits_done s i n h = let z : i ≡ 0 = omega arith in rw z
