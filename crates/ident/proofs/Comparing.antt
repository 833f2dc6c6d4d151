-- Two lists compared by eights from the last on, and then the first eight by one number.
-- Assumes nothing.
use Prim.Native.Nat.{ℕ, zero, suc, ◌+◌, ◌-◌, ◌≤◌}
use mathlib.Core.Path.{◌≡◌, refl, sym, ap, ap₂, ◌∙◌}
use mathlib.Core.Bool.{Bool, true, false}
use mathlib.Core.List.{List, [], ◌∷◌, ◌++◌}
use native.Mathlib.Omega.{arith}
use borrow.Author.Tests.{eqb-true, eqb-false}
use lib.Dec.{eqb}
use Rattle.std.proofs.Common.{reverse, bytes_eq, ◌*◌, ◌/◌, ◌%◌}
use Rattle.std.specs.List.{list_all, zip}
use Rattle.std.specs.Simd.{first_chunks}
use Rattle.std.proofs.lemmas.List.{length-reverse, reverse-reverse}
use Rattle.std.proofs.lemmas.Slice.Eq.{bytes_eq-Decides}
use Rattle.text.proofs.Booleans.{both, clash}
use lib.ListN.{length, take, drop, length-drop, take-append-drop}
use lib.Seq.{drop-drop}
use Rattle.text.specs.Lists.{same_bytes}
use Rattle.text.specs.Words.{low_first, word_of}
use Rattle.text.proofs.Lists.{same_exactly}
use Rattle.text.proofs.Words.{AreBytes}

-- ---- equal numbers, equal bytes
pub told : (k : ℕ) (a b : List ℕ) → length a ≡ length b → AreBytes a → AreBytes b → low_first (take k a) ≡ low_first (take k b) → take k a ≡ take k b
unfolding low_first
told zero a b long each-a each-b e = refl
told (suc k) [] [] long each-a each-b e = refl
told (suc k) [] (y ∷ b) long each-a each-b e = absurd (omega arith)
told (suc k) (x ∷ a) [] long each-a each-b e = absurd (omega arith)
told (suc k) (x ∷ a) (y ∷ b) long each-a each-b e =
    ap₂ {C = List ℕ} (λ z r. z ∷ r)
    (omega (arith, each-a 0, each-b 0))
    (told k a b (omega arith) (λ j. each-a (suc j)) (λ j. each-b (suc j)) (omega (arith, each-a 0, each-b 0)))

-- ---- a difference
pub differ : (a b : List ℕ) → (a ≡ b → ⊥) → false ≡ same_bytes a b
differ a b n = go (same_bytes a b) refl
  where
    go : (t : Bool) → same_bytes a b ≡ t → false ≡ t
    go true e = absurd (n ((same_exactly a b).0 e))
    go false e = refl

pub other_length : (a b : List ℕ) → (length a ≡ length b → ⊥) → false ≡ same_bytes a b
other_length a b n = differ a b (λ e. n (ap length e))

-- ---- the same eights, the same bytes
abbrev same_pairs : List (List ℕ) → List (List ℕ) → Bool
same_pairs xs ys = list_all (λ p. bytes_eq p.0 p.1) (zip xs ys)

pairs_refl : (xs : List (List ℕ)) → same_pairs xs xs ≡ true
pairs_refl [] = refl
pairs_refl (x ∷ xs) = rw ((bytes_eq-Decides x x).1 refl, pairs_refl xs)

pairs_same : (xs ys : List (List ℕ)) → length xs ≡ length ys → same_pairs xs ys ≡ true → xs ≡ ys
pairs_same [] [] long h = refl
pairs_same [] (y ∷ ys) long h = absurd (omega arith)
pairs_same (x ∷ xs) [] long h = absurd (omega arith)
pairs_same (x ∷ xs) (y ∷ ys) long h =
    let here = both (bytes_eq x y) (same_pairs xs ys) h in
    ap₂ {C = List (List ℕ)} (λ z r. z ∷ r) ((bytes_eq-Decides x y).0 here.0) (pairs_same xs ys (omega arith) here.1)

chunks_long : (k : ℕ) (s : List ℕ) → length (first_chunks 8 k s) ≡ k
chunks_long zero s = refl
chunks_long (suc k) s = omega (arith, chunks_long k (drop 8 s))

chunks_same : (k : ℕ) (s t : List ℕ) → length s ≡ k * 8 → length t ≡ k * 8 → first_chunks 8 k s ≡ first_chunks 8 k t → s ≡ t
chunks_same zero [] [] long also e = refl
chunks_same zero [] (y ∷ t) long also e = absurd (omega arith)
chunks_same zero (x ∷ s) t long also e = absurd (omega arith)
chunks_same (suc k) s t long also e =
    let parts = cons_same (take 8 s) (take 8 t) (first_chunks 8 k (drop 8 s)) (first_chunks 8 k (drop 8 t)) e in
    sym (take-append-drop 8 s)
    ∙ ap₂ {C = List ℕ} (λ p q. p ++ q) parts.0 (chunks_same k (drop 8 s) (drop 8 t) (simp length-drop (omega arith)) (simp length-drop (omega arith)) parts.1)
    ∙ take-append-drop 8 t
  where
    cons_same : (x y : List ℕ) (xs ys : List (List ℕ)) → x ∷ xs ≡ y ∷ ys → (x ≡ y) × (xs ≡ ys)
    cons_same x y xs ys e = (cc, cc)

-- all of two lists but less than eight in front, by eights
abbrev pub eights_of : List ℕ → List (List ℕ)
eights_of s = first_chunks 8 (length s / 8) (drop (length s % 8) s)

eights_same : (a b : List ℕ) → length a ≡ length b → same_pairs (reverse (eights_of a)) (reverse (eights_of b)) ≡ true → drop (length a % 8) a ≡ drop (length a % 8) b
eights_same a b long h =
    let as_many : length (eights_of a) ≡ length (eights_of b) = chunks_long _ _ ∙ ap (λ (n : ℕ). n / 8) long ∙ sym (chunks_long _ _) in
    let turned = pairs_same (reverse (eights_of a)) (reverse (eights_of b)) (length-reverse (eights_of a) ∙ as_many ∙ sym (length-reverse (eights_of b))) h in
    let same : eights_of a ≡ eights_of b = sym (reverse-reverse (eights_of a)) ∙ ap reverse turned ∙ reverse-reverse (eights_of b) in
    chunks_same (length a / 8) (drop (length a % 8) a) (drop (length a % 8) b) (simp length-drop (omega arith)) (simp length-drop (omega arith)) (same ∙ rw long refl)

-- ---- all from place i on is the same
module _ (a b : List ℕ) (long : length a ≡ length b) (each-a : AreBytes a) (each-b : AreBytes b) where
  -- so is all, where eight bytes in front reach up to i and have the same number
  same_all : (i : ℕ) → i ≤ 8 → drop i a ≡ drop i b → word_of a ≡ word_of b → a ≡ b
  same_all i near behind e =
      sym (take-append-drop 8 a)
      ∙ ap₂ {C = List ℕ} (λ p q. p ++ q) (told 8 a b long each-a each-b e) (further a ∙ ap (λ (s : List ℕ). drop (8 - i) s) behind ∙ sym (further b))
      ∙ take-append-drop 8 b
    where
      further : (s : List ℕ) → drop 8 s ≡ drop (8 - i) (drop i s)
      further s = let up : i + (8 - i) ≡ 8 = omega arith in sym (drop-drop (8 - i) i s ∙ ap (λ (n : ℕ). drop n s) up)

  -- ---- `same`
  module _ (xs ys : List (List ℕ)) (ex : xs ≡ eights_of a) (ey : ys ≡ eights_of b) (r : Bool) (er : r ≡ same_pairs (reverse xs) (reverse ys)) where
    pub eights_differ : r ≡ false → r ≡ same_bytes a b
    eights_differ n = n ∙ differ a b (λ e. clash (er ∙ rw (ex, ey, e) (pairs_refl (reverse (eights_of b)))) n)

    pub eights_then_front : (v w : ℕ) → r ≡ true → v ≡ word_of a → w ≡ word_of b → eqb v w ≡ same_bytes a b
    eights_then_front v w h ev ew = go (eqb v w) refl
      where
        behind : drop (length a % 8) a ≡ drop (length a % 8) b
        behind = eights_same a b long (rw (← ex, ← ey) (sym er ∙ h))

        go : (t : Bool) → eqb v w ≡ t → t ≡ same_bytes a b
        go true e = sym ((same_exactly a b).1 (same_all (length a % 8) (omega arith) behind (sym ev ∙ eqb-true v w e ∙ ew)))
        go false e = differ a b (λ s. eqb-false v w e (ev ∙ ap word_of s ∙ sym ew))
