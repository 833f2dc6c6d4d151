-- Digits and numbers: writing then reading gives the number back, and reading then writing the digits.
-- Assumes nothing.
use Prim.Native.Nat.{ℕ, zero, suc, ◌+◌, ◌-◌, ◌*◌, ◌/◌, ◌%◌, ◌^◌, ◌≤◌, ◌<◌}
use mathlib.Core.Path.{◌≡◌, refl, sym, ap, ◌∙◌}
use mathlib.Core.Bool.{Bool, true, ◌&&◌, and-eq-true_iff, and_assoc}
use mathlib.Core.List.{List, [], ◌∷◌, ◌++◌, append_assoc, append-nil}
use native.Mathlib.Nat.{pow-succ', add-zero, add-suc, mul_left_comm}
use native.Mathlib.Omega.{arith}
use borrow.Author.Tests.{leb-true, le-leb}
use borrow.Rule.Slice.PartMut.{put_mid, mid_len}
use lib.Dec.{leb}
use lib.ListN.{length, get_or, take, drop, length-append, length-take}
use lib.Seq.{take_all, take-suc, length-take-le}
use Rattle.text.specs.Bytes.{is_digit, every, all_digits}
use Rattle.text.specs.Lists.{part, overlay}
use Rattle.text.specs.Numbers.{number_after, number_of, number_of_first, digits}
use Rattle.text.proofs.Lists.{spelled, put_is}

-- ten to the k, in a form that `omega` reads
abbrev pub ten : ℕ → ℕ
ten zero = 1
ten (suc k) = 10 * ten k

pub ten_is : (k : ℕ) → 10 ^ k ≡ ten k
ten_is zero = refl
ten_is (suc k) = rw (pow-succ' 10 k, ten_is k)

pub ten_grows : (i k : ℕ) → i ≤ k → ten i ≤ ten k
ten_grows zero zero h = omega arith
ten_grows zero (suc k) h = omega (arith, ten_grows zero k (omega arith))
ten_grows (suc i) zero h = absurd (omega arith)
ten_grows (suc i) (suc k) h = omega (arith, ten_grows i k (omega arith))

-- ---- digits
pub digit_bounds : (b : ℕ) → is_digit b ≡ true → (48 ≤ b) × (b ≤ 57)
digit_bounds b h =
    let p = (and-eq-true_iff (leb 48 b) (leb b 57)).0 h in
    (leb-true 48 b p.0, leb-true b 57 p.1)

pub is_digit_lem : (b : ℕ) → 48 ≤ b → b ≤ 57 → is_digit b ≡ true
is_digit_lem b p q = rw (le-leb 48 b p, le-leb b 57 q)

pub every_append : (test : ℕ → Bool) (xs ys : List ℕ) → every test (xs ++ ys) ≡ (every test xs && every test ys)
every_append test [] ys = refl
every_append test (x ∷ xs) ys = rw (every_append test xs ys) (sym (and_assoc (test x) (every test xs) (every test ys)))

pub length_digits : (w n : ℕ) → length (digits w n) ≡ w
unfolding digits
length_digits zero n = refl
length_digits (suc w) n = rw length-append (omega (arith, length_digits w (n / 10)))

pub digits_all : (w n : ℕ) → all_digits (digits w n) ≡ true
unfolding digits
digits_all zero n = refl
digits_all (suc w) n =
    rw (every_append is_digit (digits w (n / 10)) ((48 + n % 10) ∷ []), digits_all w (n / 10), is_digit_lem (48 + n % 10) (omega arith) (omega arith))

-- ---- numbers
pub number_append : (n : ℕ) (xs ys : List ℕ) → number_after n (xs ++ ys) ≡ number_after (number_after n xs) ys
unfolding number_after
number_append n [] ys = refl
number_append n (x ∷ xs) ys = number_append (n * 10 + (x - 48)) xs ys

-- no more than 16 digits are the first 16
pub few_digits : (k : ℕ) (s : List ℕ) → length s ≤ k → number_of_first k s ≡ number_of s
few_digits k s h = rw take_all

-- a part of few bytes is read whole
pub few : (s : List ℕ) (a e : ℕ) → e - a ≤ 16 → number_of_first 16 (part s a e) ≡ number_of (part s a e)
few s a e h = few_digits 16 (part s a e) (simp length-take (omega arith))

-- written, then read
pub number_digits : (w n : ℕ) → n < ten w → number_of (digits w n) ≡ n
unfolding number_after digits
number_digits zero n h = omega arith
number_digits (suc w) n h =
    rw (number_append 0 (digits w (n / 10)) ((48 + n % 10) ∷ []), number_digits w (n / 10) (omega arith)) (omega arith)

-- a list of suc w digits: w digits, and the last one
module _ (w : ℕ) (s : List ℕ) (long : length s ≡ suc w) (good : all_digits s ≡ true) where
  last_split : s ≡ take w s ++ get_or s w 0 ∷ []
  last_split = sym (take_all (suc w) s (omega arith)) ∙ take-suc s w 0 (omega arith)

  front_long : length (take w s) ≡ w
  front_long = length-take-le w s (omega arith)

  both_digits : (all_digits (take w s) ≡ true) × (is_digit (get_or s w 0) ≡ true)
  both_digits =
      let all = sym (every_append is_digit (take w s) (get_or s w 0 ∷ [])) ∙ ap all_digits (sym last_split) ∙ good in
      let p = (and-eq-true_iff (all_digits (take w s)) (is_digit (get_or s w 0) && true)).0 all in
      (p.0, ((and-eq-true_iff (is_digit (get_or s w 0)) true).0 p.1).0)

  number_last : number_of s ≡ number_of (take w s) * 10 + (get_or s w 0 - 48)
  unfolding number_after
  number_last = ap number_of last_split ∙ number_append 0 (take w s) (get_or s w 0 ∷ [])

pub number_below : (w : ℕ) (s : List ℕ) → length s ≡ w → all_digits s ≡ true → number_of s < ten w
unfolding number_after
number_below zero s h g = rw (spelled 0 s h) (omega arith)
number_below (suc w) s h g =
    let both = both_digits w s h g in
    omega (arith, number_last w s h g, number_below w (take w s) (front_long w s h g) both.0, digit_bounds (get_or s w 0) both.1)

-- read, then written
pub digits_number : (w : ℕ) (s : List ℕ) → length s ≡ w → all_digits s ≡ true → digits w (number_of s) ≡ s
unfolding digits
digits_number zero s h g = sym (spelled 0 s h)
digits_number (suc w) s h g =
    let both = both_digits w s h g in
    let n : ℕ = number_of (take w s) in
    let v : ℕ = get_or s w 0 - 48 in
    let bounds = digit_bounds (get_or s w 0) both.1 in
    let front : (n * 10 + v) / 10 ≡ n = omega arith in
    let last : 48 + (n * 10 + v) % 10 ≡ get_or s w 0 = omega arith in
    rw (number_last w s h g, front, last, digits_number w (take w s) (front_long w s h g) both.0) (sym (last_split w s h g))

-- ---- two numbers side by side
module _ (k c : ℕ) where
  pub digits_beside : (w n : ℕ) → n < ten w → digits (k + w) (c * ten w + n) ≡ digits k c ++ digits w n
  unfolding digits
  digits_beside zero n h =
      let none : c * 1 + n ≡ c = omega arith in
      rw (add-zero k, none) (sym (append-nil (digits k c)))
  digits_beside (suc w) n h =
      let tens : c * (10 * ten w) ≡ 10 * (c * ten w) = mul_left_comm c 10 (ten w) in
      let front : (c * (10 * ten w) + n) / 10 ≡ c * ten w + n / 10 = omega arith in
      let last : (c * (10 * ten w) + n) % 10 ≡ n % 10 = omega arith in
      rw (add-suc k w, front, last, digits_beside w (n / 10) (omega arith))
      (append_assoc (digits k c) (digits w (n / 10)) ((48 + n % 10) ∷ []))

-- ---- digits put where they are to stand
pub digits_put : (s t : List ℕ) (a w n : ℕ) → a + w ≤ length s → t ≡ digits (length (take (a + w - a) (drop a s))) n
    → put_mid a (a + w - a) s t ≡ overlay s a (digits w n)
digits_put s t a w n h e =
    let wide : length (take (a + w - a) (drop a s)) ≡ w = mid_len a (a + w) s h ∙ omega arith in
    let text : t ≡ digits w n = e ∙ ap (λ (k : ℕ). digits k n) wide in
    put_is a (a + w) s t (omega arith) h ∙ rw (text, length_digits w n)
