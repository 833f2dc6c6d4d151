-- How many decimal places a number has, and that its decimal writing is read back and is the only one without leading zeros.
-- Assumes nothing.
use Prim.Native.Nat.{ℕ, zero, suc, ◌+◌, ◌-◌, ◌*◌, ◌/◌, ◌^◌, ◌≤◌, ◌<◌}
use mathlib.Core.Path.{◌≡◌, refl, ap, ◌∙◌}
use mathlib.Core.Bool.{Bool, true, false, cond, and-eq-true_iff}
use mathlib.Core.List.{List, [], ◌∷◌}
use native.Mathlib.Nat.{zero-add, mul-le-mul_right}
use native.Mathlib.Omega.{arith}
use borrow.Author.Tests.{ltb-true, ltb-false, lt-ltb, le-ltb}
use lib.Dec.{ltb}
use lib.ListN.{length, get_or}
use Rattle.text.specs.Bytes.{is_digit, all_digits}
use Rattle.text.specs.Numbers.{number_after, number_of, digits, decimal_places_up_to, decimal_places, decimal}
use Rattle.text.proofs.Numbers.{ten, ten_grows, digit_bounds, length_digits, digits_all, number_digits, number_below, digits_number, digits_beside}

-- ---- one decimal place, or one more than the tenth has
pub decimal_places_one : (k n : ℕ) → n < 10 → decimal_places_up_to k n ≡ 1
unfolding decimal_places_up_to
decimal_places_one zero n h = refl
decimal_places_one (suc k) n h = rw (lt-ltb n 10 h)

decimal_places_zero : (n : ℕ) → decimal_places_up_to 0 n ≡ 1
unfolding decimal_places_up_to
decimal_places_zero n = refl

pub decimal_places_more : (k n : ℕ) → 10 ≤ n → decimal_places_up_to (suc k) n ≡ suc (decimal_places_up_to k (n / 10))
unfolding decimal_places_up_to
decimal_places_more k n h = rw (le-ltb n 10 h)

-- from ten to the p on, and below ten to the p + 1, a number has p + 1
pub decimal_places_of : (k p n : ℕ) → p ≤ k → ten p ≤ n → n < ten (suc p) → decimal_places_up_to k n ≡ suc p
decimal_places_of k zero n w l h = decimal_places_one k n (omega arith)
decimal_places_of zero (suc p) n w l h = absurd (omega arith)
decimal_places_of (suc k) (suc p) n w l h =
    let one : 1 ≤ ten p = ten_grows 0 p (omega arith) in
    decimal_places_more k n (omega arith) ∙ ap suc (decimal_places_of k p (n / 10) (omega arith) (omega arith) (omega arith))

-- ---- a number of w + 1 decimal places is below ten to the w + 1, and not below ten to the w, if it is not 0
pub record Sized (p n : ℕ) : Type 0 where
  pub last : ℕ
  pub is : p ≡ suc last
  pub below : n < ten p
  pub least : 1 ≤ n → ten last ≤ n

pub sized : (k n : ℕ) → n < ten (suc k) → Sized (decimal_places_up_to k n) n
unfolding decimal_places_up_to
sized zero n h = record { last = 0; is = refl; below = h; least = λ g. g }
sized (suc k) n h = go (ltb n 10) refl (sized k (n / 10) (omega arith))
  where
    go : (t : Bool) → ltb n 10 ≡ t → Sized (decimal_places_up_to k (n / 10)) (n / 10) → Sized (cond t 1 (suc (decimal_places_up_to k (n / 10)))) n
    go true e tenth = record { last = 0; is = refl; below = ltb-true n 10 e; least = λ g. g }
    go false e tenth =
        let large = ltb-false n 10 e in
        record {
          last = decimal_places_up_to k (n / 10);
          is = refl;
          below = omega (arith, tenth.below);
          least = λ g. rw tenth.is (omega (arith, tenth.least (omega arith)));
        }

-- a number of 64 bits
pub sized_decimal : (n : ℕ) → n < 2 ^ 64 → Sized (decimal_places n) n
sized_decimal n h = sized 19 n (omega arith)

-- so many decimal places, and no more
pub decimal_places_within : (k n : ℕ) → decimal_places_up_to k n ≤ suc k
unfolding decimal_places_up_to
decimal_places_within zero n = omega arith
decimal_places_within (suc k) n = go (ltb n 10) (decimal_places_within k (n / 10))
  where
    go : (t : Bool) → decimal_places_up_to k (n / 10) ≤ suc k → cond t 1 (suc (decimal_places_up_to k (n / 10))) ≤ suc (suc k)
    go true h = omega arith
    go false h = omega arith

pub decimal_places_at_most : (k w n : ℕ) → n < ten (suc w) → decimal_places_up_to k n ≤ suc w
decimal_places_at_most k zero n h = omega (arith, decimal_places_one k n h)
decimal_places_at_most zero (suc w) n h = omega (arith, decimal_places_zero n)
decimal_places_at_most (suc k) (suc w) n h = go (ltb n 10) refl (decimal_places_at_most k w (n / 10) (omega arith))
  where
    go : (t : Bool) → ltb n 10 ≡ t → decimal_places_up_to k (n / 10) ≤ suc w → decimal_places_up_to (suc k) n ≤ suc (suc w)
    go true e tenth = omega (arith, decimal_places_one (suc k) n (ltb-true n 10 e))
    go false e tenth = omega (arith, decimal_places_more k n (ltb-false n 10 e))

pub decimal_places_are : (k w n : ℕ) → w ≤ k → n < ten (suc w) → (1 ≤ w → ten w ≤ n) → decimal_places_up_to k n ≡ suc w
decimal_places_are k zero n l h g = decimal_places_one k n h
decimal_places_are zero (suc w) n l h g = absurd (omega arith)
decimal_places_are (suc k) (suc w) n l h g =
    let low : ten (suc w) ≤ n = g (omega arith) in
    let one : 1 ≤ ten w = ten_grows 0 w (omega arith) in
    decimal_places_more k n (omega arith) ∙ ap suc (decimal_places_are k w (n / 10) (omega arith) (omega arith) (λ s. omega arith))

-- ---- written in decimal, and read
pub decimal_read : (n : ℕ) → n < 2 ^ 64 → number_of (decimal n) ≡ n
decimal_read n h = number_digits (decimal_places n) n (sized_decimal n h).below

-- ---- digits without a leading zero are the decimal writing of their number
-- the first digit counts ten to the others
number_first : (d : ℕ) (s : List ℕ) → number_of (d ∷ s) ≡ (d - 48) * ten (length s) + number_of s
unfolding number_after
number_first d s = behind (0 + (d - 48)) s ∙ ap (λ (x : ℕ). x * ten (length s) + number_of s) (zero-add (d - 48))
  where
    turn : (m x t n : ℕ) → (m * 10 + x) * t + n ≡ m * (10 * t) + ((0 + x) * t + n)
    turn m x t n = omega arith

    behind : (m : ℕ) (s : List ℕ) → number_after m s ≡ m * ten (length s) + number_of s
    behind m [] = omega arith
    behind m (d ∷ s) =
        rw (behind (m * 10 + (d - 48)) s, behind (0 + (d - 48)) s) (turn m (d - 48) (ten (length s)) (number_of s))

-- several digits with a first that is not 0
number_large : (d : ℕ) (s : List ℕ) → 49 ≤ d → ten (length s) ≤ number_of (d ∷ s)
number_large d s h =
    let more : 1 * ten (length s) ≤ (d - 48) * ten (length s) = mul-le-mul_right (ten (length s)) (omega arith) in
    omega (arith, number_first d s)

pub decimal_written : (d : ℕ) (s : List ℕ) → length s ≤ 19 → all_digits (d ∷ s) ≡ true → (1 ≤ length s → d ≡ 48 → ⊥) → decimal (number_of (d ∷ s)) ≡ d ∷ s
decimal_written d s short good first =
    let n : ℕ = number_of (d ∷ s) in
    let digit = digit_bounds d ((and-eq-true_iff (is_digit d) (all_digits s)).0 good).0 in
    let size : decimal_places n ≡ suc (length s) =
    decimal_places_are 19 (length s) n short (number_below (suc (length s)) (d ∷ s) refl good) (λ l. number_large d s (omega (arith, ne_lt d digit (first l)))) in
    rw size (digits_number (suc (length s)) (d ∷ s) refl good)
  where
    ne_lt : (d : ℕ) → (48 ≤ d) × (d ≤ 57) → (d ≡ 48 → ⊥) → 49 ≤ d
    ne_lt d b n = omega arith

-- with a leading zero a number is smaller
number_small : (w : ℕ) (s : List ℕ) → length s ≡ suc w → all_digits s ≡ true → get_or s 0 0 ≡ 48 → number_of s < ten w
number_small w [] long good e = absurd (omega arith)
number_small w (d ∷ s) long good e =
    let rest = number_below w s (omega arith) ((and-eq-true_iff (is_digit d) (all_digits s)).0 good).1 in
    rw (number_first d s, e) (omega (arith, rest))

-- so the first digit is 0 only where it is the only one
pub decimal_first : (n : ℕ) → n < 2 ^ 64 → 10 ≤ n → get_or (decimal n) 0 0 ≡ 48 → ⊥
decimal_first n h l e =
    let size = sized_decimal n h in
    let small = number_small size.last (decimal n) (length_digits (decimal_places n) n ∙ size.is) (digits_all (decimal_places n) n) e in
    omega (arith, decimal_read n h, size.least (omega arith))

-- ---- the last w digits of a number are those of what is left by ten to the w
pub digits_last : (w c n : ℕ) → n < ten w → digits w (c * ten w + n) ≡ digits w n
unfolding digits
digits_last w c n h = rw (zero-add w) at (digits_beside 0 c w n h)
