-- What the check digit catches, and what not.
-- Assumes nothing.
use Prim.Native.Nat.{ℕ, zero, suc, ◌+◌, ◌-◌, ◌*◌, ◌%◌, ◌≤◌, ◌<◌}
use mathlib.Core.Path.{◌≡◌, sym, ap, ◌∙◌}
use mathlib.Core.Bool.{Bool, true, false, not, ◌&&◌, ◌||◌, and-eq-true_iff, and-false}
use mathlib.Core.List.{List, [], ◌∷◌}
use mathlib.Core.Logic.{◌↔◌, inl, inr, ⊎_elim}
use native.Mathlib.Nat.{mul-add, add_comm}
use native.Mathlib.Omega.{arith, ne_cases}
use borrow.Author.Tests.{eqb-true, eq-eqb, ne_eqb}
use lib.Dec.{T, eqb, eqb→eq}
use lib.ListN.{length, get_or, drop, set, length-take, length-drop}
use lib.Seq.{get_or-take, get_or-drop, get_or-set_same, get_or-set_other, take-set-lt, take-set-le, drop-set-add}
use Rattle.text.specs.Bytes.{is_digit, all_digits}
use Rattle.text.specs.Lists.{part}
use Rattle.text.proofs.Ranges.{all_from, below, within, either, is_true}
use Rattle.text.proofs.Numbers.{digit_bounds}
use Rattle.ident.specs.Identifier.{last_of, digits_before, weights, weights_for, weighted, check_digit, sum_at, remainder_at, remainder, passes_at, Moves, passes, right_id}
use Rattle.ident.proofs.Shapes.{at_most_nine}
use Rattle.ident.proofs.Facts.{Right, right_facts}

-- ---- remainders 0 and 6 alone share a check digit
shared : ℕ → ℕ → Bool
shared a b = eqb a b || ((eqb a 0 && eqb b 6) || (eqb a 6 && eqb b 0))

table : (a b : ℕ) → a < 11 → b < 11 → T (not (eqb (check_digit a) (check_digit b)) || shared a b)
unfolding shared
table a b p q =
    below (λ y. not (eqb (check_digit a) (check_digit y)) || shared a y) 11 b
    (below (λ x. all_from (λ y. not (eqb (check_digit x) (check_digit y)) || shared x y) 0 11) 11 a tt p)
    q

both : (a m b n : ℕ) → T (eqb a m && eqb b n) → (a ≡ m) × (b ≡ n)
both a m b n t =
    let h = (and-eq-true_iff (eqb a m) (eqb b n)).0 (is_true _ t) in
    (eqb-true a m h.0, eqb-true b n h.1)

differ : (m n : ℕ) → T (not (eqb m n)) → m ≡ n → ⊥
differ m n t e = rw (eq-eqb m n e) at t

moves : (a b : ℕ) → a < 11 → b < 11 → check_digit a ≡ check_digit b → (a ≡ b → ⊥) → Moves a b
unfolding shared Moves
moves a b p q e ne =
    ⊎_elim (λ t. absurd (differ _ _ t e))
    (λ t. ⊎_elim (λ u. absurd (ne (eqb→eq a b u)))
    (λ u. ⊎_elim (λ v. inl (both a 0 b 6 v)) (λ v. inr (both a 6 b 0 v)) (either (eqb a 0 && eqb b 6) (eqb a 6 && eqb b 0) u))
    (either (eqb a b) ((eqb a 0 && eqb b 6) || (eqb a 6 && eqb b 0)) t))
    (either (not (eqb (check_digit a) (check_digit b))) (shared a b) (table a b p q))

-- ---- another digit moves the sum by a multiple of its weight, and that is no multiple of 11
weighted_set : (ws ds : List ℕ) (k d : ℕ) → k < length ws → k < length ds
    → weighted ws (set ds k d) + get_or ws k 0 * (get_or ds k 0 - 48) ≡ weighted ws ds + get_or ws k 0 * (d - 48)
unfolding weighted
weighted_set [] ds k d p q = absurd (omega arith)
weighted_set (w ∷ ws) [] k d p q = absurd (omega arith)
weighted_set (w ∷ ws) (x ∷ ds) zero d p q = omega arith
weighted_set (w ∷ ws) (x ∷ ds) (suc k) d p q = omega (arith, weighted_set ws ds k d (omega arith) (omega arith))

coprime : (k x : ℕ) → k < 9 → 1 ≤ x → x < 10 → get_or weights k 0 * x % 11 ≡ 0 → ⊥
coprime k x p q r =
    differ _ _
    (within (λ y. not (eqb (get_or weights k 0 * y % 11) 0)) 1 9 x
    (below (λ j. all_from (λ y. not (eqb (get_or weights j 0 * y % 11) 0)) 1 9) 9 k tt p)
    q
    (omega arith))

rises : (k a b s t : ℕ) → k < 9 → a < b → b < 10 → t + get_or weights k 0 * a ≡ s + get_or weights k 0 * b → s % 11 ≡ t % 11 → ⊥
rises k a b s t p l u e m =
    let w : ℕ = get_or weights k 0 in
    let split : w * (a + (b - a)) ≡ w * a + w * (b - a) = mul-add w a (b - a) in
    let back : a + (b - a) ≡ b = omega arith in
    let sum : w * b ≡ w * a + w * (b - a) = rw back at split in
    coprime k (b - a) p (omega arith) (omega arith) (omega arith)

apart : (k a b s t : ℕ) → k < 9 → a < 10 → b < 10 → (a ≡ b → ⊥) → t + get_or weights k 0 * a ≡ s + get_or weights k 0 * b → s % 11 ≡ t % 11 → ⊥
apart k a b s t p u v ne e m =
    ne_cases a b ⊥ ne (λ l. rises k a b s t p l v e m) (λ l. rises k b a t s p l u (sym e) (sym m))

-- ---- a list of 13 with n digits and their check digit from place 2 on
digit_in : (l : List ℕ) (k : ℕ) → all_digits l ≡ true → k < length l → is_digit (get_or l k 0) ≡ true
digit_in [] k h p = absurd (omega arith)
digit_in (x ∷ l) zero h p = ((and-eq-true_iff (is_digit x) (all_digits l)).0 h).0
digit_in (x ∷ l) (suc k) h p = digit_in l k ((and-eq-true_iff (is_digit x) (all_digits l)).0 h).1 (omega arith)

module _ (s : List ℕ) (n : ℕ) (long : length s ≡ 13) (few : n ≤ 9) (digits : all_digits (part s 2 (n + 3)) ≡ true) (good : passes_at s n ≡ true) where
  right_digit : get_or s (n + 2) 0 ≡ 48 + check_digit (remainder_at s n)
  right_digit = eqb-true _ _ good

  -- one digit before the check digit, replaced by another
  module _ (k d : ℕ) (at : k < n) (new : is_digit d ≡ true) (other : d ≡ get_or s (2 + k) 0 → ⊥) where
    old_bounds : (48 ≤ get_or s (2 + k) 0) × (get_or s (2 + k) 0 ≤ 57)
    old_bounds =
        digit_bounds (get_or s (2 + k) 0)
        (rw (← get_or-drop 2 s k 0, ← get_or-take (n + 3 - 2) (drop 2 s) k 0 (omega arith))
        (digit_in (part s 2 (n + 3)) k digits (simp (length-take, length-drop) (omega arith))))

    sums : sum_at (set s (2 + k) d) n + get_or weights (9 - n + k) 0 * (get_or s (2 + k) 0 - 48) ≡ sum_at s n + get_or weights (9 - n + k) 0 * (d - 48)
    sums =
        let inside : k < n + 2 - 2 = omega arith in
        let placed : part (set s (2 + k) d) 2 (n + 2) ≡ set (part s 2 (n + 2)) k d = rw (drop-set-add, take-set-lt) in
        rw placed
        (rw (get_or-drop (9 - n) weights k 0, get_or-take (n + 2 - 2) (drop 2 s) k 0, get_or-drop 2 s k 0) at
        (weighted_set (weights_for n) (part s 2 (n + 2)) k d (simp length-drop (omega arith)) (simp (length-take, length-drop) (omega arith))))

    remainders_differ : remainder_at s n ≡ remainder_at (set s (2 + k) d) n → ⊥
    remainders_differ =
        apart (9 - n + k) (get_or s (2 + k) 0 - 48) (d - 48) (sum_at s n) (sum_at (set s (2 + k) d) n)
        (omega arith)
        (omega (arith, old_bounds))
        (omega (arith, digit_bounds d new))
        (λ e. other (omega (arith, digit_bounds d new, old_bounds)))
        sums

    still : get_or (set s (2 + k) d) (n + 2) 0 ≡ get_or s (n + 2) 0
    still = get_or-set_other s (2 + k) (n + 2) d 0 (λ e. omega arith)

    one_digit : (passes_at (set s (2 + k) d) n ≡ true) ↔ Moves (remainder_at s n) (remainder_at (set s (2 + k) d) n)
    unfolding Moves
    one_digit = (
      λ h. moves (remainder_at s n) (remainder_at (set s (2 + k) d) n) (omega arith) (omega arith)
          (omega (arith, eqb-true (get_or (set s (2 + k) d) (n + 2) 0) (48 + check_digit (remainder_at (set s (2 + k) d) n)) h, still, right_digit))
          remainders_differ,
      ⊎_elim
          (λ m. eq-eqb _ _ (still ∙ right_digit ∙ ap (λ (a : ℕ). 48 + a) (rw (m.0, m.1))))
          (λ m. eq-eqb _ _ (still ∙ right_digit ∙ ap (λ (a : ℕ). 48 + a) (rw (m.0, m.1)))),
    )

  -- the check digit alone, replaced by another byte
  check_digit_alone : (d : ℕ) → (d ≡ get_or s (n + 2) 0 → ⊥) → passes_at (set s (n + 2) d) n ≡ false
  check_digit_alone d other =
      let inside : n + 2 < length s = omega arith in
      let before : 2 + n - 2 ≤ n = omega arith in
      let kept : part (set s (n + 2) d) 2 (n + 2) ≡ part s 2 (n + 2) = rw (add_comm n 2, drop-set-add, take-set-le) in
      rw (get_or-set_same, kept, ← right_digit, ne_eqb d (get_or s (n + 2) 0) other)

-- ---- the two theorems
module _ (s : List ℕ) (right : right_id s ≡ true) where
  abbrev before : ℕ
  before = digits_before (last_of s)

  known : Right s
  known = right_facts s right

  nine : before ≤ 9
  nine = at_most_nine (last_of s) known.known

  last_stays : (i d : ℕ) → i < before + 3 → i < 12 → last_of (set s i d) ≡ last_of s
  last_stays i d h g = get_or-set_other s i 12 d 0 (λ e. omega arith)

  -- In a right identifier, another digit in the place of one before the check digit still satisfies the check digit exactly if the
  -- remainder moves from 0 to 6 or from 6 to 0.
  pub single_wrong_digit : (k d : ℕ) → k < before → is_digit d ≡ true → (d ≡ get_or s (2 + k) 0 → ⊥)
      → (passes (set s (2 + k) d) ≡ true) ↔ Moves (remainder s) (remainder (set s (2 + k) d))
  single_wrong_digit k d h new other =
      rw (last_stays (2 + k) d (omega arith) (omega (arith, nine)))
      (one_digit s before known.long nine known.digits known.passing k d h new other)

  -- Another byte in the place of the check digit alone never passes.
  pub wrong_check_digit : (d : ℕ) → (d ≡ get_or s (before + 2) 0 → ⊥)
      → (passes (set s (before + 2) d) ≡ false) × (right_id (set s (before + 2) d) ≡ false)
  unfolding right_id
  wrong_check_digit d other =
      let last = last_stays (before + 2) d (omega arith) (omega (arith, nine)) in
      let fails = check_digit_alone s before known.long nine known.digits known.passing d other in
      (rw (last, fails), rw (last, fails) (simp and-false))
