-- Weight and money: each way out of the readers and the writers.
-- Assumes nothing.
use Prim.Native.Nat.{ℕ, zero, suc, ◌+◌, ◌-◌, ◌*◌, ◌/◌, ◌%◌, ◌^◌, ◌≤◌, ◌<◌}
use mathlib.Core.Path.{◌≡◌, refl, sym, ap, ◌∙◌}
use mathlib.Core.Bool.{Bool, true, false, cond, not, ◌&&◌, ◌||◌}
use mathlib.Core.List.{List, [], ◌∷◌, ◌++◌, append_assoc}
use native.Mathlib.Nat.{sub-zero, zero-sub}
use native.Mathlib.Omega.{arith}
use borrow.Author.Tests.{lt-ltb, le-ltb, eqb-true, leb-true, ltb-true}
use borrow.Rule.Slice.PartMut.{mid_len}
use mir.Syntax.{w64}
use mir.Val.{Fits}
use lib.Dec.{eqb, leb, ltb}
use lib.ListN.{length, get_or, take, drop, set, replicate, length-append}
use lib.Seq.{get_or-drop, take_at, drop_at, set_at, drop-drop, length-take-le}
use Rattle.std.specs.Prelude.{Option, Some, None, SomeIff, IsSomeAnd, MatchOption}
use Rattle.text.specs.Bytes.{is_digit, all_digits, is_blank}
use Rattle.text.specs.Lists.{part, overlay}
use Rattle.text.specs.Numbers.{number_after, number_of, number_of_first, digits, decimal_places}
use Rattle.text.proofs.Booleans.{both}
use Rattle.text.proofs.Lists.{spelled}
use Rattle.text.proofs.Runs.{run_passes}
use Rattle.text.proofs.Decimals.{decimal_places_at_most}
use Rattle.text.proofs.Numbers.{few, ten_grows, number_below, length_digits, digit_bounds}
use Rattle.fields.specs.declared.amounts.Hellers.{Hellers}
use Rattle.fields.specs.Amounts.{is_weight, grams_in, weight_text, crown_digits, is_money, hellers_in, money_text}
use Rattle.fields.specs.Calls.{sum_of_hellers}

-- ---- the sum of two amounts
pub sum_is : (a b : Hellers) (s : Option ℕ) (r : Option Hellers) → SomeIff s (a.0 + b.0 < 2 ^ 64) (a.0 + b.0)
    → MatchOption s (r ≡ None) (λ x. IsSomeAnd r (λ h. h.0 ≡ x)) → r ≡ sum_of_hellers a b
unfolding sum_of_hellers
sum_is a b (Some x) (Some h) fits is =
    rw (lt-ltb (a.0 + b.0) (2 ^ 64) fits.0) (ap (λ (n : ℕ). Some (record { 0 = n })) (is ∙ fits.1))
sum_is a b (Some x) None fits is = absurd is
sum_is a b None r large is = rw (le-ltb (a.0 + b.0) (2 ^ 64) (omega (arith, large))) is

-- ---- money
-- what an amount has, with p digits before its dot
pub record Amount (f : List ℕ) (p : ℕ) : Type 0 where
  pub low : 1 ≤ p
  pub high : p ≤ 9
  pub first : (eqb p 1 || not (eqb (get_or f 0 0) 48)) ≡ true
  pub dot : get_or f p 0 ≡ 46
  pub two_digits : all_digits (part f (p + 1) (p + 3)) ≡ true
  pub rest : is_blank (part f (p + 3) 12) ≡ true

pub amount_has : (f : List ℕ) → is_money f ≡ true → Amount f (crown_digits f)
unfolding is_money
amount_has f h =
    let a = both _ (is_blank (part f (crown_digits f + 3) 12)) h in
    let b = both _ (all_digits (part f (crown_digits f + 1) (crown_digits f + 3))) a.0 in
    let d = both _ (eqb (get_or f (crown_digits f) 0) 46) b.0 in
    let e = both _ (eqb (crown_digits f) 1 || not (eqb (get_or f 0 0) 48)) d.0 in
    let g = both (leb 1 (crown_digits f)) (leb (crown_digits f) 9) e.0 in
    record {
      low = leb-true 1 (crown_digits f) g.0;
      high = leb-true (crown_digits f) 9 g.1;
      first = e.1;
      dot = eqb-true (get_or f (crown_digits f) 0) 46 d.1;
      two_digits = b.1;
      rest = a.1;
    }

module _ (f : List ℕ) (n : ℕ) (pre : (n ≡ crown_digits f) × (is_money f ≡ true)) where
  has : Amount f (crown_digits f)
  has = amount_has f pre.1

  pub nine_digits : (1 ≤ n) × (n ≤ 9)
  nine_digits = (omega (arith, has.low, pre.0), omega (arith, has.high, pre.0))

  module _ (long : length f ≡ 12) where
    crowns_small : (c : ℕ) → c ≡ number_of_first 16 (part f 0 n) → c < 1000000000
    crowns_small c e =
        let whole : c ≡ number_of (take n f) = e ∙ few f 0 n (omega (arith, nine_digits)) ∙ ap (λ (k : ℕ). number_of (take k f)) (sub-zero n) in
        let all : all_digits (take n f) ≡ true = rw pre.0 (run_passes is_digit f) in
        let below = number_below n (take n f) (length-take-le n f (omega (arith, nine_digits, long))) all in
        omega (arith, ten_grows n 9 nine_digits.1)

    two_digits_small : (p : ℕ) → p ≡ number_of_first 16 (part f (n + 1) (n + 3)) → p < 100
    two_digits_small p e =
        let whole : p ≡ number_of (part f (n + 1) (n + 3)) = e ∙ few f (n + 1) (n + 3) (omega arith) in
        let all : all_digits (part f (n + 1) (n + 3)) ≡ true = rw pre.0 has.two_digits in
        let two : length (part f (n + 1) (n + 3)) ≡ 2 = mid_len (n + 1) (n + 3) f (omega (arith, nine_digits, long)) ∙ omega arith in
        omega (arith, number_below 2 (part f (n + 1) (n + 3)) two all)

    pub crowns_fit : (c : ℕ) → c ≡ number_of_first 16 (part f 0 n) → Fits w64 (c * 100)
    crowns_fit c e = record { fits = omega (arith, crowns_small c e) }

    pub hellers_fit : (c p : ℕ) → c ≡ number_of_first 16 (part f 0 n) → p ≡ number_of_first 16 (part f (n + 1) (n + 3)) → Fits w64 (c * 100 + p)
    hellers_fit c p ec ep = record { fits = omega (arith, crowns_small c ec, two_digits_small p ep) }

    pub hellers_are : (c p : ℕ) → c ≡ number_of_first 16 (part f 0 n) → p ≡ number_of_first 16 (part f (n + 1) (n + 3)) → c * 100 + p ≡ hellers_in f
    hellers_are c p ec ep = rw (ec, ep, few f 0 n (omega (arith, nine_digits)), few f (n + 1) (n + 3) (omega arith), pre.0)

-- ---- what a weight weighs
weight_small : (f : List ℕ) → length f ≡ 6 → is_weight f ≡ true → (number_of (part f 0 2) ≤ 99) × (number_of (part f 3 6) ≤ 999)
unfolding number_after
weight_small f long h =
    let a = both _ (all_digits (part f 3 6)) h in
    let b = both _ (eqb (get_or f 2 0) 46) a.0 in
    let d = both (eqb (get_or f 0 0) 32 || is_digit (get_or f 0 0) && not (eqb (get_or f 0 0) 48)) (is_digit (get_or f 1 0)) b.0 in
    let first : get_or f 0 0 ≤ 57 = small (eqb (get_or f 0 0) 32) refl d.0 in
    let second = digit_bounds (get_or f 1 0) d.1 in
    let three : length (part f 3 6) ≡ 3 = mid_len 3 6 f (omega arith) in
    (rw (spelled 6 f long) (omega (arith, get_or-drop 1 f 0 0)), omega (arith, number_below 3 (part f 3 6) three a.1))
  where
    small : (t : Bool) → eqb (get_or f 0 0) 32 ≡ t → (t || is_digit (get_or f 0 0) && not (eqb (get_or f 0 0) 48)) ≡ true → get_or f 0 0 ≤ 57
    small true e g = omega (arith, eqb-true (get_or f 0 0) 32 e)
    small false e g = (digit_bounds (get_or f 0 0) (both (is_digit (get_or f 0 0)) (not (eqb (get_or f 0 0) 48)) g).0).1

-- what the code multiplies and adds up has 64 bits, and is the grams
module _ (f : List ℕ) (k m : ℕ) (long : length f ≡ 6) (pre : is_weight f ≡ true) (ek : k ≡ number_of_first 16 (part f 0 2)) where
  kilos_small : k ≤ 99
  kilos_small = omega (arith, few f 0 2 (omega arith), weight_small f long pre)

  pub kilos_fit : Fits w64 (k * 1000)
  kilos_fit = record { fits = omega (arith, kilos_small) }

  pub grams_fit : m ≡ number_of_first 16 (part f 3 6) → Fits w64 (k * 1000 + m)
  grams_fit em = record { fits = omega (arith, kilos_small, few f 3 6 (omega arith), weight_small f long pre) }

  pub grams_are : m ≡ number_of_first 16 (part f 3 6) → k * 1000 + m ≡ grams_in f
  grams_are em = rw (ek, em, few f 0 2 (omega arith), few f 3 6 (omega arith))

-- ---- writing
pub weight_put : (s t : List ℕ) (v x : ℕ) → length s ≡ 6 → ltb v 100000 ≡ true → t ≡ overlay s 3 (digits 3 v) → x ≡ cond (ltb v 10000) 32 (48 + v / 10000)
    → set (set (set t 0 x) 1 (48 + v / 1000 % 10)) 2 46 ≡ weight_text v
unfolding weight_text digits
weight_put s t v x long few et ex = rw (et, ex, spelled 6 s long) (go (ltb v 10000))
  where
    go : (b : Bool) → cond b 32 (48 + v / 10000) ∷ (48 + v / 1000 % 10) ∷ 46 ∷ ((([] ++ (48 + v / 10 / 10 % 10) ∷ []) ++ (48 + v / 10 % 10) ∷ []) ++ (48 + v % 10) ∷ [])
        ≡ cond b (32 ∷ ([] ++ (48 + v / 1000 % 10) ∷ [])) (([] ++ (48 + v / 1000 / 10 % 10) ∷ []) ++ (48 + v / 1000 % 10) ∷ []) ++ 46 ∷ ((([] ++ (48 + v / 10 / 10 % 10) ∷ []) ++ (48 + v / 10 % 10) ∷ []) ++ (48 + v % 10) ∷ [])
    go true = refl
    go false = let e : v / 1000 / 10 % 10 ≡ v / 10000 = omega (arith, ltb-true v 100000 few) in rw e

drop_replicate : (k n x : ℕ) → drop k (replicate n x) ≡ replicate (n - k) x
drop_replicate zero n x = rw (sub-zero n)
drop_replicate (suc k) zero x = rw (zero-sub (suc k))
drop_replicate (suc k) (suc n) x =
    let e : suc n - suc k ≡ n - k = omega arith in
    rw e (drop_replicate k n x)

-- digits, a dot, two digits and spaces, put into twelve spaces
module _ (a b : List ℕ) (n : ℕ) (la : length a ≡ n) (lb : length b ≡ 2) (few-crowns : n ≤ 9) where
  crowns_put : overlay (replicate 12 32) 0 a ≡ a ++ 32 ∷ replicate (11 - n) 32
  crowns_put =
      let zero-first : 0 + length a ≡ n = omega arith in
      let rest : 12 - n ≡ suc (11 - n) = omega arith in
      rw (zero-first, drop_replicate n 12 32, rest)

  dot_put : set (a ++ 32 ∷ replicate (11 - n) 32) n 46 ≡ (a ++ 46 ∷ []) ++ replicate (11 - n) 32
  dot_put = set_at a 32 (replicate (11 - n) 32) 46 n la ∙ sym (append_assoc a (46 ∷ []) (replicate (11 - n) 32))

  two_digits_put : overlay ((a ++ 46 ∷ []) ++ replicate (11 - n) 32) (n + 1) b ≡ a ++ 46 ∷ (b ++ replicate (9 - n) 32)
  two_digits_put =
      let front : length (a ++ 46 ∷ []) ≡ n + 1 = simp length-append (omega arith) in
      let twice : drop (n + 1 + length b) ((a ++ 46 ∷ []) ++ replicate (11 - n) 32) ≡ replicate (9 - n) 32 =
      rw (lb, ← drop-drop 2 (n + 1) ((a ++ 46 ∷ []) ++ replicate (11 - n) 32), drop_at (a ++ 46 ∷ []) (replicate (11 - n) 32) (n + 1) front, drop_replicate 2 (11 - n) 32) (ap (λ (k : ℕ). replicate k 32) (fewer n few-crowns)) in
      rw (take_at (a ++ 46 ∷ []) (replicate (11 - n) 32) (n + 1) front, twice) (append_assoc a (46 ∷ []) (b ++ replicate (9 - n) 32))
    where
      fewer : (n : ℕ) → n ≤ 9 → 11 - n - 2 ≡ 9 - n
      fewer n h = omega arith

  money_put_at : overlay (set (overlay (replicate 12 32) 0 a) n 46) (n + 1) b ≡ a ++ 46 ∷ (b ++ replicate (9 - n) 32)
  money_put_at = rw (crowns_put, dot_put) two_digits_put

pub nine_at_most : (n : ℕ) → n < 1000000000 → decimal_places n ≤ 9
nine_at_most n h = decimal_places_at_most 19 8 n h

pub crowns_nine : (v n : ℕ) → ltb v 100000000000 ≡ true → (n ≡ decimal_places (v / 100)) × ((1 ≤ n) × (n ≤ 20)) → n ≤ 9
crowns_nine v n h en = rw en.0 (nine_at_most (v / 100) (omega (arith, ltb-true v 100000000000 h)))

module _ (s t w : List ℕ) (v n : ℕ) (long : length s ≡ 12) (few-crowns : ltb v 100000000000 ≡ true) (en : (n ≡ decimal_places (v / 100)) × ((1 ≤ n) × (n ≤ 20))) where
  pub money_put : t ≡ replicate (length s) 32 → w ≡ overlay (set (overlay t 0 (digits n (v / 100))) n 46) (n + 1) (digits 2 v) → w ≡ money_text v
  unfolding money_text
  money_put et ew =
      rw (ew, et, long, money_put_at (digits n (v / 100)) (digits 2 v) n (length_digits n (v / 100)) (length_digits 2 v) (crowns_nine v n few-crowns en), en.0)
