-- Writing gives a right identifier with those parts; a right identifier is what its parts write; and code 1 comes exactly where none has them.
-- Assumes nothing.
use Prim.Native.Nat.{ℕ, suc, ◌+◌, ◌-◌, ◌%◌, ◌^◌, ◌≤◌, ◌<◌}
use mathlib.Core.Path.{◌≡◌, refl, sym, ap, ◌∙◌}
use mathlib.Core.Bool.{Bool, true, false, cond, ◌&&◌, ◌||◌, and-eq-true_iff}
use mathlib.Core.List.{List, [], ◌∷◌, ◌++◌, append_assoc}
use mathlib.Core.Logic.{◌↔◌}
use native.Mathlib.Nat.{mod-lt, add_comm}
use native.Mathlib.Numerals.{add-two}
use native.Mathlib.Omega.{arith}
use borrow.Author.Tests.{lt-ltb, eqb-true, eq-eqb, ne_eqb}
use borrow.Rule.Slice.PartMut.{mid_len}
use lib.Dec.{leb→le, leb, ltb, eqb}
use lib.ListN.{length, get_or}
use lib.Seq.{take-add, drop-drop, take_at, drop_at}
use Rattle.text.specs.Bytes.{is_digit, all_digits}
use Rattle.text.specs.Lists.{part}
use Rattle.text.specs.Numbers.{digits}
use Rattle.text.proofs.Lists.{spelled}
use Rattle.text.proofs.Numbers.{ten_is, is_digit_lem, every_append, length_digits, digits_all, number_digits, number_below, digits_number}
use Rattle.text.proofs.Ranges.{below}
use Rattle.text.proofs.Booleans.{clash}
use Rattle.ident.specs.declared.Parts.{Parts}
use Rattle.ident.specs.Identifier.{last_of, consignor_digits, posting_digits, consignor_of, posting_of, weights_for, weighted, check_digit, remainder, ends_right, right_id}
use Rattle.ident.specs.Calls.{parts_of, both_numbers, check_byte, postfix, written, can_write}
use Rattle.ident.proofs.Shapes.{eight_or_nine, at_most_nine}
use Rattle.ident.proofs.Facts.{Right, right_facts}
use Rattle.ident.proofs.Writing.{can_prefix, can_known, consignor_fits, posting_fits, can_numbers, before_is, body_long}

check_digit_small : (r : ℕ) → r < 11 → check_digit r ≤ 9
check_digit_small r h = leb→le (check_digit r) 9 (below (λ x. leb (check_digit x) 9) 11 r tt h)

-- ---- a line of a prefix, 8 digits for CZ and 9 otherwise, a check digit and the postfix
abbrev line : Bool → ℕ → ℕ → ℕ → ℕ → List ℕ → List ℕ
line cz a b l x d = a ∷ b ∷ (d ++ x ∷ cond cz (67 ∷ l ∷ []) (l ∷ []))

pub record Line (s : List ℕ) (n l x : ℕ) (cz : Bool) (d : List ℕ) : Type 0 where
  pub long : length s ≡ 13
  pub last : get_or s 12 0 ≡ l
  pub digits : part s 2 (n + 3) ≡ d ++ x ∷ []
  pub body : part s 2 (n + 2) ≡ d
  pub check : get_or s (n + 2) 0 ≡ x
  pub letter : cond cz (get_or s 11 0) 67 ≡ 67

line_has : (cz : Bool) (a b l x n : ℕ) (d : List ℕ) → n ≡ cond cz 8 9 → length d ≡ n → Line (line cz a b l x d) n l x cz d
line_has true a b l x n d e h =
    let s = spelled 8 d (h ∙ e) in
    record { long = rw s; last = rw s; digits = rw (e, s); body = rw (e, s); check = rw (e, s); letter = rw s }
line_has false a b l x n d e h =
    let s = spelled 9 d (h ∙ e) in
    record { long = rw s; last = rw s; digits = rw (e, s); body = rw (e, s); check = rw (e, s); letter = refl }

-- consignor and posting digits stand in it
module _ (a b k w : ℕ) (d₁ d₂ r : List ℕ) (l₁ : length d₁ ≡ k) (l₂ : length d₂ ≡ w) where
  first_part : part (a ∷ b ∷ ((d₁ ++ d₂) ++ r)) 2 (k + 2) ≡ d₁
  first_part =
      let e : length d₁ ≡ k + 2 - 2 = omega arith in
      rw (append_assoc d₁ d₂ r, take_at d₁ (d₂ ++ r) (k + 2 - 2) e)

  second_part : part (a ∷ b ∷ ((d₁ ++ d₂) ++ r)) (k + 2) (k + w + 2) ≡ d₂
  second_part =
      let e : length d₂ ≡ k + w + 2 - suc (suc k) = omega arith in
      rw (add-two k, append_assoc d₁ d₂ r, drop_at d₁ (d₂ ++ r) k l₁, take_at d₂ r (k + w + 2 - suc (suc k)) e)

-- ---- what can be written is right, and has the parts that it was written from
module _ (p : Parts) (can : can_write p ≡ true) where
  abbrev k : ℕ
  k = consignor_digits p.last

  abbrev w : ℕ
  w = posting_digits p.last

  abbrev cz : Bool
  cz = eqb p.last 90

  has : Line (written p) (k + w) p.last (check_byte p) cz (both_numbers p)
  unfolding written
  has = line_has cz p.first p.second p.last (check_byte p) (k + w) (both_numbers p) (before_is p can) (body_long p can)

  consignor_back : consignor_of (written p) ≡ p.consignor
  unfolding written
  consignor_back =
      rw (has.last, first_part p.first p.second k w (digits k p.consignor) (digits w p.posting) (check_byte p ∷ postfix p.last) (length_digits k p.consignor) (length_digits w p.posting))
      (number_digits k p.consignor (rw (ten_is k) at (consignor_fits p can)))

  posting_back : posting_of (written p) ≡ p.posting
  unfolding written
  posting_back =
      rw (has.last, second_part p.first p.second k w (digits k p.consignor) (digits w p.posting) (check_byte p ∷ postfix p.last) (length_digits k p.consignor) (length_digits w p.posting))
      (number_digits w p.posting (rw (ten_is w) at (posting_fits p can)))

  first_back : get_or (written p) 0 0 ≡ p.first
  unfolding written
  first_back = refl

  second_back : get_or (written p) 1 0 ≡ p.second
  unfolding written
  second_back = refl

  pub written_parts : parts_of (written p) ≡ p
  unfolding parts_of
  written_parts = rw (first_back, second_back, consignor_back, posting_back, has.last)

  all_digits_lem : all_digits (part (written p) 2 (k + w + 3)) ≡ true
  all_digits_lem =
      let r : ℕ = weighted (weights_for (k + w)) (both_numbers p) % 11 in
      let small : check_digit r ≤ 9 = check_digit_small r (mod-lt _ (omega arith)) in
      let digit : is_digit (check_byte p) ≡ true = is_digit_lem (check_byte p) (omega arith) (omega arith) in
      let body : all_digits (both_numbers p) ≡ true =
      every_append is_digit (digits k p.consignor) (digits w p.posting) ∙ rw (digits_all k p.consignor, digits_all w p.posting) in
      rw (has.digits, every_append is_digit (both_numbers p) (check_byte p ∷ []), body, digit)

  ends : ends_right (written p) ≡ true
  unfolding ends_right
  ends = rw (consignor_back, posting_back, has.last) (go cz refl has.letter (can_numbers p can))
    where
      go : (t : Bool) → eqb p.last 90 ≡ t → cond cz (get_or (written p) 11 0) 67 ≡ 67 → (cz || (ltb 0 p.consignor && ltb 0 p.posting)) ≡ true
          → cond cz (eqb (get_or (written p) 11 0) 67) (ltb 0 p.consignor && ltb 0 p.posting) ≡ true
      go true e c n = rw e (eq-eqb _ 67 (rw e at c))
      go false e c n = rw e (rw e at n)

  pub written_right : right_id (written p) ≡ true
  unfolding right_id
  written_right =
      rw (eq-eqb (length (written p)) 13 has.long, has.last, first_back, second_back, can_prefix p can, ne_eqb w 0 (λ e. omega (arith, can_known p can)), all_digits_lem, has.body, eq-eqb _ (check_byte p) has.check) ends

-- ---- a right identifier is what its parts write
line_of : (cz : Bool) (s : List ℕ) (n : ℕ) → length s ≡ 13 → n ≡ cond cz 8 9 → cond cz (get_or s 11 0) 67 ≡ 67
    → line cz (get_or s 0 0) (get_or s 1 0) (get_or s 12 0) (get_or s (n + 2) 0) (part s 2 (n + 2)) ≡ s
line_of true s n h e g =
    rw e (ap (λ (z : ℕ). get_or s 0 0 ∷ get_or s 1 0 ∷ (part s 2 10 ++ get_or s 10 0 ∷ z ∷ get_or s 12 0 ∷ [])) (sym g) ∙ rw (spelled 13 s h))
line_of false s n h e g = rw e (rw (spelled 13 s h))

-- two parts side by side
beside : (s : List ℕ) (k n : ℕ) → k ≤ n → part s 2 (k + 2) ++ part s (k + 2) (n + 2) ≡ part s 2 (n + 2)
beside s k n h =
    let e₁ : k + 2 - 2 ≡ k = omega arith in
    let e₂ : n + 2 - (k + 2) ≡ n - k = omega arith in
    let e₃ : n + 2 - 2 ≡ k + (n - k) = omega arith in
    rw (e₁, e₂, e₃, take-add, add_comm k 2, ← drop-drop k 2 s)

module _ (s : List ℕ) (right : right_id s ≡ true) where
  known : Right s
  known = right_facts s right

  abbrev k' : ℕ
  k' = consignor_digits (last_of s)

  abbrev w' : ℕ
  w' = posting_digits (last_of s)

  before : k' + w' ≡ cond (eqb (last_of s) 90) 8 9
  before = eight_or_nine (last_of s) known.known

  nine : k' + w' ≤ 9
  nine = at_most_nine (last_of s) known.known

  both_digits : (all_digits (part s 2 (k' + 2)) ≡ true) × (all_digits (part s (k' + 2) (k' + w' + 2)) ≡ true)
  both_digits =
      let n : ℕ = k' + w' in
      let one : part s 2 (n + 2) ++ part s (n + 2) (n + 1 + 2) ≡ part s 2 (n + 1 + 2) = beside s n (n + 1) (omega arith) in
      let e : n + 1 + 2 ≡ n + 3 = omega arith in
      let all : all_digits (part s 2 (n + 2) ++ part s (n + 2) (n + 1 + 2)) ≡ true = rw (one, e) known.digits in
      let front = ((and-eq-true_iff _ _).0 (sym (every_append is_digit (part s 2 (n + 2)) (part s (n + 2) (n + 1 + 2))) ∙ all)).0 in
      (and-eq-true_iff _ _).0 (sym (every_append is_digit (part s 2 (k' + 2)) (part s (k' + 2) (n + 2))) ∙ ap all_digits (beside s k' n (omega arith)) ∙ front)

  first_long : length (part s 2 (k' + 2)) ≡ k'
  first_long = mid_len 2 (k' + 2) s (omega (arith, nine, known.long)) ∙ omega arith

  second_long : length (part s (k' + 2) (k' + w' + 2)) ≡ w'
  second_long = mid_len (k' + 2) (k' + w' + 2) s (omega (arith, nine, known.long)) ∙ omega arith

  letter : (t : Bool) → eqb (last_of s) 90 ≡ t → cond t (get_or s 11 0) 67 ≡ 67
  unfolding ends_right
  letter true e = eqb-true (get_or s 11 0) 67 (rw e at known.ending)
  letter false e = refl

  numbers : (t : Bool) → eqb (last_of s) 90 ≡ t → (t || (ltb 0 (consignor_of s) && ltb 0 (posting_of s))) ≡ true
  unfolding ends_right
  numbers true e = refl
  numbers false e = rw e at known.ending

  check_byte_lem : get_or s (k' + w' + 2) 0 ≡ 48 + check_digit (remainder s)
  check_byte_lem = eqb-true (get_or s (k' + w' + 2) 0) (48 + check_digit (remainder s)) known.passing

  pub right_written : written (parts_of s) ≡ s
  unfolding written parts_of
  right_written =
      rw (digits_number k' (part s 2 (k' + 2)) first_long both_digits.0, digits_number w' (part s (k' + 2) (k' + w' + 2)) second_long both_digits.1, beside s k' (k' + w') (omega arith), ← check_byte_lem)
      (line_of (eqb (last_of s) 90) s (k' + w') known.long before (letter (eqb (last_of s) 90) refl))

  pub right_can_be_written : can_write (parts_of s) ≡ true
  unfolding can_write parts_of
  right_can_be_written =
      rw (
        known.prefix,
        lt-ltb 0 w' (omega (arith, known.known)),
        lt-ltb (consignor_of s) (10 ^ k') (rw (ten_is k') (number_below k' (part s 2 (k' + 2)) first_long both_digits.0)),
        lt-ltb (posting_of s) (10 ^ w') (rw (ten_is w') (number_below w' (part s (k' + 2) (k' + w' + 2)) second_long both_digits.1)),
      )
      (numbers (eqb (last_of s) 90) refl)

-- ---- code 1 comes exactly where no right identifier has the parts
pub refused_exactly : (p : Parts) → (can_write p ≡ false) ↔ ((s : List ℕ) → right_id s ≡ true → parts_of s ≡ p → ⊥)
refused_exactly p = (
  λ no s right e. clash (sym (ap can_write e) ∙ right_can_be_written s right) no,
  λ none. go (can_write p) refl none,
)
  where
    go : (b : Bool) → can_write p ≡ b → ((s : List ℕ) → right_id s ≡ true → parts_of s ≡ p → ⊥) → b ≡ false
    go true e none = absurd (none (written p) (written_right p e) (written_parts p e))
    go false e none = refl
