-- Bits of a number: one more bit that was not there.
-- Assumes nothing.
use Prim.Native.Nat.{ℕ, zero, suc, ◌+◌, ◌*◌, ◌/◌, ◌%◌, ◌^◌, ◌≤◌, ◌<◌}
use mathlib.Core.Path.{◌≡◌, refl, sym, ap, ◌∙◌}
use mathlib.Core.Bool.{Bool, true, false, ◌||◌}
use native.Mathlib.Nat.{pow-succ', div-div-eq-div-mul, div-one}
use native.Mathlib.Omega.{arith}
use borrow.Author.Tests.{eq-eqb, ne_eqb, eqb-true, eqb-false}
use lib.Dec.{eqb}
use Rattle.fields.specs.Services.{bit}

-- two to the k, in a form that `omega` reads
abbrev two : ℕ → ℕ
two zero = 1
two (suc k) = 2 * two k

two_is : (k : ℕ) → 2 ^ k ≡ two k
two_is zero = refl
two_is (suc k) = rw (pow-succ' 2 k, two_is k)

-- bit 0 is the remainder by two, and a later bit is a bit of the half
bit_zero : (n : ℕ) → bit 0 n ≡ eqb (n % 2) 1
bit_zero n = rw (div-one n)

bit_suc : (k n : ℕ) → bit (suc k) n ≡ bit k (n / 2)
bit_suc k n = rw (pow-succ' 2 k, ← div-div-eq-div-mul n 2 (2 ^ k))

rest_below : (n : ℕ) → eqb (n % 2) 1 ≡ false → n % 2 ≡ 0
rest_below n e = let h = eqb-false (n % 2) 1 e in omega arith

with_fits_two : (w c n : ℕ) → n < two w → c < w → bit c n ≡ false → n + two c < two w
with_fits_two zero c n h l e = absurd (omega arith)
with_fits_two (suc w) zero n h l e = omega (arith, rest_below n (sym (bit_zero n) ∙ e))
with_fits_two (suc w) (suc c) n h l e =
    omega (arith, with_fits_two w c (n / 2) (omega arith) (omega arith) (sym (bit_suc c n) ∙ e))

-- a number with a bit more that was not there has no more bits than before
pub with_fits : (w c n : ℕ) → n < 2 ^ w → c < w → bit c n ≡ false → n + 2 ^ c < 2 ^ w
with_fits w c n h l e = rw (two_is c, two_is w) (with_fits_two w c n (rw (two_is w) at h) l e)

bit_with_two : (c k n : ℕ) → bit c n ≡ false → bit k (n + two c) ≡ (eqb k c || bit k n)
bit_with_two zero zero n e =
    let z = rest_below n (sym (bit_zero n) ∙ e) in
    bit_zero (n + 1) ∙ eq-eqb ((n + 1) % 2) 1 (omega arith)
bit_with_two zero (suc k) n e =
    let z = rest_below n (sym (bit_zero n) ∙ e) in
    let half : (n + 1) / 2 ≡ n / 2 = omega arith in
    bit_suc k (n + 1) ∙ rw half (sym (bit_suc k n) ∙ rw (ne_eqb (suc k) 0 (λ q. omega arith)))
bit_with_two (suc c) zero n e =
    let same : (n + 2 * two c) % 2 ≡ n % 2 = omega arith in
    bit_zero (n + 2 * two c) ∙ rw same (sym (bit_zero n) ∙ rw (ne_eqb 0 (suc c) (λ q. omega arith)))
bit_with_two (suc c) (suc k) n e =
    let half : (n + 2 * two c) / 2 ≡ n / 2 + two c = omega arith in
    bit_suc k (n + 2 * two c) ∙ rw half (bit_with_two c k (n / 2) (sym (bit_suc c n) ∙ e) ∙ rw (eqb_suc k c, bit_suc k n))
  where
    eqb_suc : (a b : ℕ) → eqb (suc a) (suc b) ≡ eqb a b
    eqb_suc a b = go (eqb a b) refl
      where
        go : (t : Bool) → eqb a b ≡ t → eqb (suc a) (suc b) ≡ t
        go true h = eq-eqb (suc a) (suc b) (ap suc (eqb-true a b h))
        go false h = ne_eqb (suc a) (suc b) (λ q. eqb-false a b h (omega arith))

-- which bits such a number has
pub bit_with : (c k n : ℕ) → bit c n ≡ false → bit k (n + 2 ^ c) ≡ (eqb k c || bit k n)
bit_with c k n e = rw (two_is c) (bit_with_two c k n e)

-- a number has no bit at or past its size
pub bit_past : (w k n : ℕ) → n < 2 ^ w → w ≤ k → bit k n ≡ false
bit_past w k n h l = go w k n (rw (two_is w) at h) l
  where
    go : (w k n : ℕ) → n < two w → w ≤ k → bit k n ≡ false
    go zero zero n h l = let z : n ≡ 0 = omega arith in rw z
    go zero (suc k) n h l = bit_suc k n ∙ go zero k (n / 2) (omega arith) (omega arith)
    go (suc w) zero n h l = absurd (omega arith)
    go (suc w) (suc k) n h l = bit_suc k n ∙ go w k (n / 2) (omega arith) (omega arith)

pub bit_none : (k : ℕ) → bit k 0 ≡ false
bit_none k = bit_past 0 k 0 (omega arith) (omega arith)
