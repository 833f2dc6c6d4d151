-- A test at every byte, blank parts, and the bytes that pass at the front, as laws about the places of a list.
-- Assumes nothing.
use Prim.Native.Nat.{ℕ, zero, suc, ◌+◌, ◌≤◌, ◌<◌}
use mathlib.Core.Path.{◌≡◌, refl, ap, ap₂, ◌∙◌}
use mathlib.Core.Bool.{Bool, true, false, ◌&&◌, ◌||◌, or-true}
use mathlib.Core.Logic.{◌↔◌, ◌⊎◌, inl, inr}
use mathlib.Core.List.{List, [], ◌∷◌, ◌++◌}
use native.Mathlib.Omega.{arith}
use borrow.Author.Tests.{eqb-true, leb-true, le-leb}
use lib.Dec.{eqb, leb}
use lib.ListN.{length, get_or, take, drop, replicate, length-replicate}
use Rattle.text.proofs.Booleans.{both}
use Rattle.std.proofs.lemmas.List.Sums.{prefix_len-le-length}
use Rattle.text.specs.Bytes.{is_digit, every, all_digits, is_space, is_blank, run}

-- ---- the two sides of `&&`
pub both_left : (a b : Bool) → (a && b) ≡ true → a ≡ true
both_left a b h = (both a b h).0

pub both_right : (a b : Bool) → (a && b) ≡ true → b ≡ true
both_right a b h = (both a b h).1

-- ---- a class of bytes: lo to 7Eh, or 80h to FFh
pub class_exactly : (lo b : ℕ) → b < 256 → ((leb lo b && leb b 126 || leb 128 b) ≡ true) ↔ (((lo ≤ b) × (b ≤ 126)) ⊎ ((128 ≤ b) × (b ≤ 255)))
class_exactly lo b byte = (λ h. go (leb lo b) (leb b 126) refl refl h, back)
  where
    go : (x y : Bool) → leb lo b ≡ x → leb b 126 ≡ y → (x && y || leb 128 b) ≡ true → ((lo ≤ b) × (b ≤ 126)) ⊎ ((128 ≤ b) × (b ≤ 255))
    go true true ex ey h = inl (leb-true lo b ex, leb-true b 126 ey)
    go true false ex ey h = inr (leb-true 128 b h, omega arith)
    go false y ex ey h = inr (leb-true 128 b h, omega arith)

    back : ((lo ≤ b) × (b ≤ 126)) ⊎ ((128 ≤ b) × (b ≤ 255)) → (leb lo b && leb b 126 || leb 128 b) ≡ true
    back (inl p) = rw (le-leb lo b p.0, le-leb b 126 p.1)
    back (inr p) = rw (le-leb 128 b p.0) (or-true (leb lo b && leb b 126))

-- ---- a test at every byte
module _ (test : ℕ → Bool) where
  every_at : (s : List ℕ) (i : ℕ) → every test s ≡ true → i < length s → test (get_or s i 0) ≡ true
  every_at [] i h l = absurd (omega arith)
  every_at (b ∷ s) zero h l = both_left (test b) (every test s) h
  every_at (b ∷ s) (suc i) h l = every_at s i (both_right (test b) (every test s) h) (omega arith)

  at_every : (s : List ℕ) → ((i : ℕ) → i < length s → test (get_or s i 0) ≡ true) → every test s ≡ true
  at_every [] h = refl
  at_every (b ∷ s) h = rw (h 0 (omega arith), at_every s (λ i l. h (suc i) (omega arith)))

  -- `every` says that each byte passes
  pub every_exactly : (s : List ℕ) → (every test s ≡ true) ↔ ((i : ℕ) → i < length s → test (get_or s i 0) ≡ true)
  every_exactly s = (λ h i l. every_at s i h l, at_every s)

  pub every_take : (n : ℕ) (s : List ℕ) → every test s ≡ true → every test (take n s) ≡ true
  every_take zero s h = refl
  every_take (suc n) [] h = refl
  every_take (suc n) (b ∷ s) h =
      rw (both_left (test b) (every test s) h, every_take n s (both_right (test b) (every test s) h))

  pub every_drop : (n : ℕ) (s : List ℕ) → every test s ≡ true → every test (drop n s) ≡ true
  every_drop zero s h = h
  every_drop (suc n) [] h = refl
  every_drop (suc n) (b ∷ s) h = every_drop n s (both_right (test b) (every test s) h)

-- ---- blank
pub spaces_blank : (w : ℕ) → is_blank (replicate w 32) ≡ true
spaces_blank zero = refl
spaces_blank (suc w) = spaces_blank w

blank_spaces : (s : List ℕ) → is_blank s ≡ true → s ≡ replicate (length s) 32
blank_spaces [] h = refl
blank_spaces (b ∷ s) h =
    ap₂ {C = List ℕ} (λ x r. x ∷ r) (eqb-true b 32 (both_left (eqb b 32) (is_blank s) h)) (blank_spaces s (both_right (eqb b 32) (is_blank s) h))

-- blank, and of a width: so many spaces
pub blank_exactly : (w : ℕ) (s : List ℕ) → ((length s ≡ w) × (is_blank s ≡ true)) ↔ (s ≡ replicate w 32)
blank_exactly w s = (
  λ p. rw (← p.0) (blank_spaces s p.1),
  λ e. (ap length e ∙ length-replicate w 32, rw e (spaces_blank w)),
)

-- a byte that is no space makes a part filled
pub not_blank : (s : List ℕ) (i : ℕ) → i < length s → (get_or s i 0 ≡ 32 → ⊥) → is_blank s ≡ false
not_blank s i l n = go (is_blank s) refl
  where
    go : (b : Bool) → is_blank s ≡ b → b ≡ false
    go true e = absurd (n (eqb-true (get_or s i 0) 32 ((every_exactly is_space s).0 e i l)))
    go false e = refl

pub digits_not_blank : (s : List ℕ) → 0 < length s → all_digits s ≡ true → is_blank s ≡ false
digits_not_blank s l h =
    not_blank s 0 l (λ e. omega (arith, leb-true 48 (get_or s 0 0) (both_left (leb 48 (get_or s 0 0)) (leb (get_or s 0 0) 57) ((every_exactly is_digit s).0 h 0 l))))

-- ---- the bytes at the front that pass a test
module _ (test : ℕ → Bool) where
  pub run_within : (s : List ℕ) → run test s ≤ length s
  run_within s = prefix_len-le-length test s

  -- bytes that pass, before others
  pub run_append : (xs ys : List ℕ) → every test xs ≡ true → run test (xs ++ ys) ≡ length xs + run test ys
  run_append [] ys h = omega arith
  run_append (x ∷ xs) ys h =
      rw (both_left (test x) (every test xs) h) (omega (arith, run_append xs ys (both_right (test x) (every test xs) h)))
