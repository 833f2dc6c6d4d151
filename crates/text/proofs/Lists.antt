-- Lists: one element on, a list of known length written out, and a part put into a list.
-- Assumes nothing.
use Prim.Native.Nat.{ℕ, zero, suc, ◌+◌, ◌-◌, ◌≤◌, ◌<◌}
use mathlib.Core.Path.{◌≡◌, refl, ap, ap₂}
use mathlib.Core.Bool.{true, and-eq-true_iff}
use mathlib.Core.Logic.{◌↔◌}
use mathlib.Core.List.{List, [], ◌∷◌, ◌++◌}
use native.Mathlib.Numerals.{add-one}
use native.Mathlib.Omega.{arith}
use borrow.Author.Tests.{eq-eqb, eqb-true}
use lib.Dec.{eqb}
use lib.ListN.{length, get_or, take, drop, drop_of_length-le}
use lib.Seq.{drop-cons, length-take-le, take_at, drop_at}
use borrow.Rule.Slice.PartMut.{put_mid, Post-is}
use Rattle.text.specs.Lists.{same_bytes}

-- what is left at place i
pub step : (s : List ℕ) (i : ℕ) → i < length s → drop i s ≡ get_or s i 0 ∷ drop (i + 1) s
step s i h = rw (add-one, drop-cons s i 0)

pub ended : (s : List ℕ) (i : ℕ) → length s ≤ i → drop i s ≡ []
ended s i h = drop_of_length-le s h

-- a list of n elements, written out: at a numeral n, whatever is taken, dropped or set at numerals computes
abbrev pub spell : ℕ → List ℕ → List ℕ
spell zero s = []
spell (suc n) s = get_or s 0 0 ∷ spell n (drop 1 s)

pub spelled : (n : ℕ) (s : List ℕ) → length s ≡ n → s ≡ spell n s
spelled zero [] h = refl
spelled zero (x ∷ s) h = absurd (omega arith)
spelled (suc n) [] h = absurd (omega arith)
spelled (suc n) (x ∷ s) h = ap (λ (r : List ℕ). x ∷ r) (spelled n s (omega arith))

-- ---- a part that was lent and is back: t where the places a up to e of s were
module _ (a e : ℕ) (s t : List ℕ) (before : a ≤ e) (within : e ≤ length s) where
  pub put_is : put_mid a (e - a) s t ≡ take a s ++ (t ++ drop e s)
  put_is = ap (λ (r : List ℕ). take a s ++ (t ++ r)) (Post-is a e s before)

  -- the part, looked at again
  pub put_there : length t ≡ e - a → take (e - a) (drop a (put_mid a (e - a) s t)) ≡ t
  put_there long =
      let front : length (take a s) ≡ a = length-take-le a s (omega arith) in
      rw (drop_at (take a s) (t ++ drop (e - a) (drop a s)) a front) (take_at t (drop (e - a) (drop a s)) (e - a) long)

-- ---- the same bytes
pub same_refl : (s : List ℕ) → same_bytes s s ≡ true
unfolding same_bytes
same_refl [] = refl
same_refl (x ∷ s) = rw (eq-eqb x x refl, same_refl s)

same_eq : (s t : List ℕ) → same_bytes s t ≡ true → s ≡ t
unfolding same_bytes
same_eq [] [] e = refl
same_eq [] (y ∷ t) e = cc
same_eq (x ∷ s) [] e = cc
same_eq (x ∷ s) (y ∷ t) e =
    let both = (and-eq-true_iff (eqb x y) (same_bytes s t)).0 e in
    ap₂ {C = List ℕ} (λ z r. z ∷ r) (eqb-true x y both.0) (same_eq s t both.1)

-- `same_bytes` says that two lists are equal
pub same_exactly : (s t : List ℕ) → (same_bytes s t ≡ true) ↔ (s ≡ t)
same_exactly s t = (same_eq s t, λ e. rw e (same_refl t))
