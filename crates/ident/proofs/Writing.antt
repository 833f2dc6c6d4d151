-- The bytes that `fill` leaves are the identifier that the parts write.
-- Assumes nothing.
use Prim.Native.Nat.{ℕ, ◌+◌, ◌-◌, ◌%◌, ◌^◌, ◌≤◌, ◌<◌}
use mathlib.Core.Path.{◌≡◌, sym, ap, ap₂, ◌∙◌}
use mathlib.Core.Bool.{Bool, true, false, cond, ◌&&◌, ◌||◌, and-eq-true_iff}
use mathlib.Core.List.{List, [], ◌∷◌, ◌++◌, append_assoc}
use native.Mathlib.Omega.{arith}
use borrow.Author.Tests.{ltb-true}
use borrow.Rule.Slice.PartMut.{put_mid, mid_len}
use Rattle.std.proofs.Common.{Some}
use Rattle.std.proofs.lemmas.Slice.{take-put_mid, drop-put_mid}
use lib.Dec.{eqb, ltb}
use lib.ListN.{length, take, drop, set, length-append, length-take, length-drop}
use Rattle.text.specs.Numbers.{digits}
use Rattle.text.proofs.Lists.{spelled, put_is, put_there}
use Rattle.text.proofs.Numbers.{length_digits}
use Rattle.ident.specs.declared.Shape.{Shape}
use Rattle.ident.specs.declared.Parts.{Parts}
use Rattle.ident.specs.Identifier.{Row, right_prefix, consignor_digits, posting_digits, digits_before, weights_for, weighted, check_digit}
use Rattle.ident.specs.Calls.{both_numbers, check_byte, written, can_write}
use Rattle.ident.proofs.Shapes.{eight_or_nine, at_most_nine}

-- ---- what parts that can be written have
module _ (p : Parts) (can : can_write p ≡ true) where
  abbrev numbers : Bool
  numbers = eqb p.last 90 || (ltb 0 p.consignor && ltb 0 p.posting)

  facts : (right_prefix p.first p.second ≡ true) × (ltb 0 (posting_digits p.last) ≡ true)
      × (ltb p.consignor (10 ^ consignor_digits p.last) ≡ true) × (ltb p.posting (10 ^ posting_digits p.last) ≡ true) × (numbers ≡ true)
  unfolding can_write
  facts =
      let a = (and-eq-true_iff (right_prefix p.first p.second) _).0 can in
      let b = (and-eq-true_iff (ltb 0 (posting_digits p.last)) _).0 a.1 in
      let d = (and-eq-true_iff (ltb p.consignor (10 ^ consignor_digits p.last)) _).0 b.1 in
      let e = (and-eq-true_iff (ltb p.posting (10 ^ posting_digits p.last)) numbers).0 d.1 in
      (a.0, b.0, d.0, e.0, e.1)

  pub can_prefix : right_prefix p.first p.second ≡ true
  can_prefix = facts.0

  pub can_known : 0 < posting_digits p.last
  can_known = ltb-true 0 (posting_digits p.last) facts.1

  pub consignor_fits : p.consignor < 10 ^ consignor_digits p.last
  consignor_fits = ltb-true p.consignor (10 ^ consignor_digits p.last) facts.2

  pub posting_fits : p.posting < 10 ^ posting_digits p.last
  posting_fits = ltb-true p.posting (10 ^ posting_digits p.last) facts.3

  pub can_numbers : numbers ≡ true
  can_numbers = facts.4

  pub before_is : digits_before p.last ≡ cond (eqb p.last 90) 8 9
  before_is = eight_or_nine p.last (λ e. omega (arith, can_known))

  before_few : digits_before p.last ≤ 9
  before_few = at_most_nine p.last (λ e. omega (arith, can_known))

  pub body_long : length (both_numbers p) ≡ digits_before p.last
  body_long = simp (length-append, length_digits)

-- ---- the five stores
stored : (cz : Bool) (s d : List ℕ) (a b l x n : ℕ) → length s ≡ 13 → n ≡ cond cz 8 9 → length d ≡ n
    → set (set (set (set (set (take 2 s ++ (d ++ drop (n + 2) s)) 0 a) 1 b) 11 67) (n + 2) x) 12 l ≡ a ∷ b ∷ (d ++ x ∷ cond cz (67 ∷ l ∷ []) (l ∷ []))
stored true s d a b l x n p e q = rw (e, spelled 13 s p, spelled 8 d (q ∙ e))
stored false s d a b l x n p e q = rw (e, spelled 13 s p, spelled 9 d (q ∙ e))

-- one part behind the other is one part
put_long : (s t : List ℕ) (m : ℕ) → 2 ≤ m → m ≤ length s → length t ≡ m - 2 → length (put_mid 2 (m - 2) s t) ≡ length s
put_long s t m two within long = ap length (put_is 2 m s t two within) ∙ simp (length-append, length-take, length-drop) (omega arith)

put_twice : (s t u : List ℕ) (m e : ℕ) → 2 ≤ m → m ≤ e → e ≤ length s → length t ≡ m - 2 → put_mid m (e - m) (put_mid 2 (m - 2) s t) u ≡ put_mid 2 (e - 2) s (t ++ u)
put_twice s t u m e two more within long =
    let front : take m (put_mid 2 (m - 2) s t) ≡ take 2 s ++ t = take-put_mid 2 (m - 2) s t m (omega arith) (omega arith) in
    let back : drop e (put_mid 2 (m - 2) s t) ≡ drop e s = drop-put_mid 2 (m - 2) s t e (omega arith) (omega arith) long in
    put_is m e (put_mid 2 (m - 2) s t) u more (omega (arith, put_long s t m two (omega arith) long))
    ∙ rw (front, back) (append_assoc (take 2 s) t (u ++ drop e s) ∙ ap (λ (r : List ℕ). take 2 s ++ r) (sym (append_assoc t u (drop e s))))
    ∙ sym (put_is 2 e s (t ++ u) (omega arith) within)

module _ (s t u : List ℕ) (p : Parts) (h : Shape) (x : ℕ) (pre : (length s ≡ 13) × (can_write p ≡ true) × Row p.last (Some h)) where
  abbrev m : ℕ
  m = h.consignor + 2

  abbrev e : ℕ
  e = h.consignor + 2 + h.posting

  abbrev after : List ℕ
  after = put_mid m (e - m) (put_mid 2 (m - 2) s t) u

  pub fill_is : t ≡ digits (length (take (m - 2) (drop 2 s))) p.consignor
      → u ≡ digits (length (take (e - m) (drop m (put_mid 2 (m - 2) s t)))) p.posting
      → x ≡ 48 + check_digit (weighted (weights_for (length (take (e - 2) (drop 2 after)))) (take (e - 2) (drop 2 after)) % 11)
      → set (set (set (set (set after 0 p.first) 1 p.second) 11 67) e x) 12 p.last ≡ written p
  unfolding written
  fill_is et eu ex =
      let n : ℕ = digits_before p.last in
      let one : h.consignor ≡ consignor_digits p.last = rw pre.2.0 in
      let two : h.posting ≡ posting_digits p.last = rw pre.2.0 in
      let en : e ≡ n + 2 = omega arith in
      let t_is : t ≡ digits (consignor_digits p.last) p.consignor = et ∙ ap (λ (k : ℕ). digits k p.consignor) (mid_len 2 m s (omega arith) ∙ omega arith) in
      let long : length t ≡ m - 2 = ap length t_is ∙ length_digits (consignor_digits p.last) p.consignor ∙ omega arith in
      let kept : length (put_mid 2 (m - 2) s t) ≡ length s = put_long s t m (omega arith) (omega arith) long in
      let u_is : u ≡ digits (posting_digits p.last) p.posting = eu ∙ ap (λ (k : ℕ). digits k p.posting) (mid_len m e (put_mid 2 (m - 2) s t) (omega (arith, kept)) ∙ omega arith) in
      let body : t ++ u ≡ both_numbers p = ap₂ {C = List ℕ} (λ a b. a ++ b) t_is u_is in
      let twice : after ≡ put_mid 2 (e - 2) s (t ++ u) = put_twice s t u m e (omega arith) (omega arith) (omega arith) long in
      let both_long : length (t ++ u) ≡ e - 2 = ap length body ∙ body_long p pre.1 ∙ omega arith in
      let there : take (e - 2) (drop 2 after) ≡ both_numbers p = ap (λ (r : List ℕ). take (e - 2) (drop 2 r)) twice ∙ put_there 2 e s (t ++ u) (omega arith) (omega arith) both_long ∙ body in
      let digit : x ≡ check_byte p = ex ∙ rw (there, body_long p pre.1) in
      let placed : after ≡ take 2 s ++ (both_numbers p ++ drop e s) = twice ∙ put_is 2 e s (t ++ u) (omega arith) (omega arith) ∙ rw body in
      rw (placed, digit, en) (stored (eqb p.last 90) s (both_numbers p) p.first p.second p.last (check_byte p) n pre.0 (before_is p pre.1) (body_long p pre.1))
