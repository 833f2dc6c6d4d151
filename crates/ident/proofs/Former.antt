-- Facts of the ways that words of eight were compared in, digits summed and tens looked up. No proof uses them now; notes of the orders, of the port or of a decision name them.
-- Assumes nothing.
use Prim.Native.Nat.{ℕ, zero, suc, ◌+◌, ◌-◌, ◌*◌, ◌^◌, ◌≤◌, ◌<◌}
use mathlib.Core.Path.{◌≡◌, refl, sym, ap, ap₂, ◌∙◌}
use mathlib.Core.Bool.{Bool, true, false, cond, not, ◌&&◌}
use mathlib.Core.List.{List, [], ◌∷◌, ◌++◌}
use native.Mathlib.Nat.{mul-le-mul, le-pred_of_lt}
use native.Mathlib.Omega.{arith}
use borrow.Author.Tests.{eq-eqb, ne_eqb, eqb-true, eqb-false, not-false}
use mir.Syntax.{w64}
use mir.Val.{Fits}
use lib.Dec.{eqb, ltb, eqb→eq, ltb→lt}
use lib.ListN.{length, get_or, take, drop, length-drop, take-append-drop}
use lib.Seq.{drop-drop, take_all, drop-length}
use Rattle.text.specs.Lists.{part, same_bytes}
use Rattle.text.specs.Numbers.{number_after, number_of, number_of_first}
use Rattle.text.specs.Words.{low_first, word_of}
use Rattle.text.proofs.Lists.{ended, same_exactly}
use Rattle.text.proofs.Numbers.{few}
use Rattle.text.proofs.Ranges.{below}
use Rattle.text.proofs.Words.{AreBytes, bytes_behind}
use Rattle.ident.specs.declared.Shape.{Shape}
use Rattle.ident.specs.Identifier.{right_prefix, shape_of, last_of, consignor_digits, posting_digits, digits_before, consignor_of, posting_of, weights, ends_right, right_id}
use Rattle.ident.specs.Calls.{parts_of}
use Rattle.ident.proofs.Shapes.{Looked, none_eight_nine}
use Rattle.ident.proofs.Comparing.{told, differ}

-- ---- comparing
-- the first k bytes are the same exactly where their numbers are
low_byte : (b c x y : ℕ) → b < 256 → c < 256 → eqb (b + 256 * x) (c + 256 * y) ≡ (eqb b c && eqb x y)
low_byte b c x y h l = go (eqb b c) refl (eqb x y) refl
  where
    go : (t : Bool) → eqb b c ≡ t → (u : Bool) → eqb x y ≡ u → eqb (b + 256 * x) (c + 256 * y) ≡ (t && u)
    go true t true u = eq-eqb (b + 256 * x) (c + 256 * y) (let p = eqb-true b c t in let q = eqb-true x y u in omega arith)
    go true t false u = ne_eqb (b + 256 * x) (c + 256 * y) (λ e. eqb-false x y u (omega arith))
    go false t u eu = ne_eqb (b + 256 * x) (c + 256 * y) (λ e. eqb-false b c t (omega arith))

pub same_told : (k : ℕ) (a b : List ℕ) → k ≤ length a → k ≤ length b → AreBytes a → AreBytes b → eqb (low_first (take k a)) (low_first (take k b)) ≡ same_bytes (take k a) (take k b)
unfolding low_first same_bytes
same_told zero a b h l each-a each-b = refl
same_told (suc k) [] b h l each-a each-b = absurd (omega arith)
same_told (suc k) (x ∷ a) [] h l each-a each-b = absurd (omega arith)
same_told (suc k) (x ∷ a) (y ∷ b) h l each-a each-b =
    low_byte x y (low_first (take k a)) (low_first (take k b)) (omega (arith, each-a 0)) (omega (arith, each-b 0))
    ∙ ap (λ (t : Bool). eqb x y && t) (same_told k a b (omega arith) (omega arith) (λ j. each-a (suc j)) (λ j. each-b (suc j)))

-- what `text::word` gives of all from place j on
abbrev pub WordAt : List ℕ → ℕ → ℕ → Type 0
WordAt s j v = v ≡ word_of (take (length s - j) (drop j s))

pub other_word : (a b : List ℕ) (j v w : ℕ) → WordAt a j v → WordAt b j w → (v ≡ w → ⊥) → false ≡ same_bytes a b
other_word a b j v w ev ew n = differ a b (λ e. n (ev ∙ ap (λ (s : List ℕ). word_of (take (length s - j) (drop j s))) e ∙ sym ew))

-- ---- all from place i on is the same
module _ (a b : List ℕ) (long : length a ≡ length b) where
  pub same_at_end : drop (length a) a ≡ drop (length a) b
  same_at_end = drop-length a ∙ sym (ended b (length a) (omega arith))

  module _ (each-a : AreBytes a) (each-b : AreBytes b) (i : ℕ) (behind : drop i a ≡ drop i b) where
    -- so is all from j on, where eight bytes from j reach up to i and have the same number
    same_from : (j : ℕ) → i ≤ j + 8 → word_of (drop j a) ≡ word_of (drop j b) → drop j a ≡ drop j b
    same_from j near e =
        sym (take-append-drop 8 (drop j a))
        ∙ ap₂ {C = List ℕ} (λ p q. p ++ q)
        (told 8 (drop j a) (drop j b) (length-drop j a ∙ ap (λ (n : ℕ). n - j) long ∙ sym (length-drop j b)) (bytes_behind a j each-a) (bytes_behind b j each-b) e)
        (further a ∙ ap (λ (s : List ℕ). drop (j + 8 - i) s) behind ∙ sym (further b))
        ∙ take-append-drop 8 (drop j b)
      where
        further : (s : List ℕ) → drop 8 (drop j s) ≡ drop (j + 8 - i) (drop i s)
        further s =
            let up : i + (j + 8 - i) ≡ j + 8 = omega arith in
            drop-drop 8 j s ∙ sym (drop-drop (j + 8 - i) i s ∙ ap (λ (n : ℕ). drop n s) up)

    module _ (v w : ℕ) where
      pub same_eight_more : 8 < i → v ≡ w → WordAt a (i - 8) v → WordAt b (i - 8) w → drop (i - 8) a ≡ drop (i - 8) b
      same_eight_more more e ev ew = same_from (i - 8) (omega arith) (whole a v ev ∙ e ∙ sym (whole b w ew))
        where
          whole : (s : List ℕ) (u : ℕ) → WordAt s (i - 8) u → word_of (drop (i - 8) s) ≡ u
          whole s u eu = ap word_of (sym (take_all (length s - (i - 8)) (drop (i - 8) s) (rw length-drop (omega arith)))) ∙ sym eu

      pub same_in_front : i ≤ 8 → v ≡ word_of a → w ≡ word_of b → eqb v w ≡ same_bytes a b
      same_in_front few ev ew = go (eqb v w) refl
        where
          go : (t : Bool) → eqb v w ≡ t → t ≡ same_bytes a b
          go true e = sym ((same_exactly a b).1 (same_from 0 (omega arith) (sym ev ∙ eqb-true v w e ∙ ew)))
          go false e = differ a b (λ s. eqb-false v w e (ev ∙ ap word_of s ∙ sym ew))

-- ---- sums and powers of ten
weight_small : (k : ℕ) → k < 9 → get_or weights k 0 < 10
weight_small k h = ltb→lt (get_or weights k 0) 10 (below (λ j. ltb (get_or weights j 0) 10) 9 k tt h)

-- a weight times the value of any byte, and the sum with it
module _ (s : List ℕ) (i skip v sum : ℕ) (short : length s + skip ≤ 9) (inside : i < length s) (byte : v < 208) where
  product_small : get_or weights (i + skip) 0 * v < 2560
  product_small = omega (arith, mul-le-mul {n₂ = 9} {m₂ = 207} (le-pred_of_lt (weight_small (i + skip) (omega arith))) (le-pred_of_lt byte))

  pub product_fits : Fits w64 (get_or weights (i + skip) 0 * v)
  product_fits = record { fits = omega (arith, product_small) }

  pub sum_fits : sum ≤ 2560 * i → Fits w64 (sum + get_or weights (i + skip) 0 * v)
  sum_fits h = record { fits = omega (arith, product_small) }

  pub sum_small : sum ≤ 2560 * i → sum + get_or weights (i + skip) 0 * v ≤ 2560 * (i + 1)
  sum_small h = omega (arith, product_small)

abbrev powers : List ℕ
powers = 1 ∷ 10 ∷ 100 ∷ 1000 ∷ 10000 ∷ 100000 ∷ 1000000 ∷ 10000000 ∷ 100000000 ∷ 1000000000 ∷ []

pub power_at : (k : ℕ) → k < 10 → get_or powers k 0 ≡ 10 ^ k
power_at k h = eqb→eq (get_or powers k 0) (10 ^ k) (below (λ j. eqb (get_or powers j 0) (10 ^ j)) 10 k tt h)

-- ---- what is read of a row's numbers, and a last byte that no row has
pub parts_are : (s : List ℕ) (h : Shape) (c p : ℕ) → Looked h (last_of s)
    → c ≡ number_of_first 16 (part s 2 (h.consignor + 2))
    → p ≡ number_of_first 16 (part s (h.consignor + 2) (h.consignor + h.posting + 2))
    → record { first = get_or s 0 0; second = get_or s 1 0; last = get_or s 12 0; consignor = c; posting = p } ≡ parts_of s
unfolding parts_of
parts_are s h c p e g k =
    rw (g, k, few s 2 (h.consignor + 2) (omega arith), few s (h.consignor + 2) (h.consignor + h.posting + 2) (omega arith), e.0)

pub not_known : (s : List ℕ) → length s ≡ 13 → (a : Bool) → a ≡ right_prefix (get_or s 0 0) (get_or s 1 0) → not a ≡ false → (h : Shape) → Looked h (last_of s)
    → h.posting ≡ 0 → false ≡ right_id s
unfolding right_id
not_known s long a ea na h eh n =
    let posting_is : (shape_of (last_of s)).posting ≡ h.posting = ap (λ (x : Shape). x.posting) (sym eh.0) in
    rw (eq-eqb (length s) 13 long, ← ea, not-false a na, posting_is, eq-eqb h.posting 0 n)

-- ---- how an identifier ends: a last byte that is no Z has nine digits before the check digit, or none
pub ends_numbered : (s : List ℕ) (h : Shape) (a b : Bool) → (get_or s 12 0 ≡ 90 → ⊥) → h ≡ shape_of (last_of s)
    → a ≡ ltb 0 (number_of (part s 2 (h.consignor + 2))) → b ≡ ltb 0 (number_of (part s (h.consignor + 2) 11)) → (a && b) ≡ ends_right s
unfolding ends_right number_after
ends_numbered s h a b n eh ea eb = rw (ea, eb, eh, ne_eqb (get_or s 12 0) 90 n) (go (eqb (posting_digits (last_of s)) 0) refl)
  where
    before : (t : Bool) → eqb (posting_digits (last_of s)) 0 ≡ t → digits_before (last_of s) ≡ cond t 0 9
    before t e = none_eight_nine (last_of s) ∙ rw (e, ne_eqb (get_or s 12 0) 90 n)

    go : (t : Bool) → eqb (posting_digits (last_of s)) 0 ≡ t
        → (ltb 0 (consignor_of s) && ltb 0 (number_of (part s (consignor_digits (last_of s) + 2) 11))) ≡ (ltb 0 (consignor_of s) && ltb 0 (posting_of s))
    go true e = let none : consignor_digits (last_of s) ≡ 0 = omega (arith, before true e) in rw none
    go false e = rw (before false e)
