-- The table of last bytes.
-- Assumes nothing.
use Prim.Native.Nat.{ℕ, ◌+◌, ◌≤◌, ◌<◌}
use mathlib.Core.Path.{◌≡◌, refl, ap, ◌∙◌}
use mathlib.Core.Bool.{Bool, true, false, cond, ◌||◌}
use native.Mathlib.Omega.{arith}
use borrow.Author.Tests.{eq-eqb, ne_eqb, leb-true, leb-false}
use lib.Dec.{eqb, leb, eqb→eq}
use Rattle.text.proofs.Booleans.{by_cond}
use Rattle.text.proofs.Ranges.{below}
use Rattle.ident.specs.declared.Shape.{Shape}
use Rattle.ident.specs.Identifier.{shape_of, posting_digits, digits_before}

abbrev shape : ℕ → ℕ → Shape
shape c p = record { consignor = c; posting = p }

-- what is known of a byte that was looked up
abbrev pub Looked : Shape → ℕ → Type 0
Looked s l = (s ≡ shape_of l) × (s.consignor ≤ 5) × (s.consignor + s.posting ≤ 9)

-- ---- each row, with those above it passed over; no proof uses these, the check finds them, but a document has named them
module _ (l : ℕ) where
  pub row_FEP : (eqb l 70 || eqb l 69 || eqb l 80) ≡ true → Looked (shape 2 7) l
  unfolding shape_of
  row_FEP h = (rw h, omega arith, omega arith)

  module _ (a : (eqb l 70 || eqb l 69 || eqb l 80) ≡ false) where
    pub row_UT : (eqb l 85 || eqb l 84) ≡ true → Looked (shape 3 6) l
    unfolding shape_of
    row_UT h = (rw (a, h), omega arith, omega arith)

    module _ (b : (eqb l 85 || eqb l 84) ≡ false) where
      pub row_CB : (eqb l 67 || eqb l 66) ≡ true → Looked (shape 4 5) l
      unfolding shape_of
      row_CB h = (rw (a, b, h), omega arith, omega arith)

      module _ (c : (eqb l 67 || eqb l 66) ≡ false) where
        pub row_ML : (eqb l 77 || eqb l 76) ≡ true → Looked (shape 5 4) l
        unfolding shape_of
        row_ML h = (rw (a, b, c, h), omega arith, omega arith)

        module _ (d : (eqb l 77 || eqb l 76) ≡ false) where
          pub row_Z : l ≡ 90 → Looked (shape 0 8) l
          unfolding shape_of
          row_Z h = (rw (a, b, c, d, eq-eqb l 90 h), omega arith, omega arith)

          pub no_row : (l ≡ 90 → ⊥) → Looked (shape 0 0) l
          unfolding shape_of
          no_row h = (rw (a, b, c, d, ne_eqb l 90 h), omega arith, omega arith)

behind_Z : (l : ℕ) → 90 < l → shape_of l ≡ shape 0 0
unfolding shape_of
behind_Z l h =
    let other : (k : ℕ) → k ≤ 90 → eqb l k ≡ false = λ k g. ne_eqb l k (λ e. omega arith) in
    rw (other 70 (omega arith), other 69 (omega arith), other 80 (omega arith), other 85 (omega arith), other 84 (omega arith), other 67 (omega arith), other 66 (omega arith), other 77 (omega arith), other 76 (omega arith), other 90 (omega arith))

up_to_Z : (l : ℕ) → l ≤ 90 → digits_before l ≡ cond (eqb (posting_digits l) 0) 0 (cond (eqb l 90) 8 9)
unfolding shape_of
up_to_Z l h =
    eqb→eq (digits_before l) (cond (eqb (posting_digits l) 0) 0 (cond (eqb l 90) 8 9))
    (below (λ k. eqb (digits_before k) (cond (eqb (posting_digits k) 0) 0 (cond (eqb k 90) 8 9))) 91 l tt (omega arith))

-- how many digits stand before the check digit: none where no row has the last byte, eight for Z, and nine for any other
pub none_eight_nine : (l : ℕ) → digits_before l ≡ cond (eqb (posting_digits l) 0) 0 (cond (eqb l 90) 8 9)
none_eight_nine l = go (leb l 90) refl
  where
    go : (b : Bool) → leb l 90 ≡ b → digits_before l ≡ cond (eqb (posting_digits l) 0) 0 (cond (eqb l 90) 8 9)
    go true e = up_to_Z l (leb-true l 90 e)
    go false e = let none = behind_Z l (leb-false l 90 e) in rw (ap (λ (s : Shape). s.consignor) none, ap (λ (s : Shape). s.posting) none)

pub eight_or_nine : (l : ℕ) → (posting_digits l ≡ 0 → ⊥) → digits_before l ≡ cond (eqb l 90) 8 9
eight_or_nine l some = none_eight_nine l ∙ rw (ne_eqb (posting_digits l) 0 some)

pub at_most_nine : (l : ℕ) → (posting_digits l ≡ 0 → ⊥) → digits_before l ≤ 9
at_most_nine l some = rw (eight_or_nine l some) (by_cond (λ n. n ≤ 9) (eqb l 90) 8 9 (λ e. omega arith) (λ e. omega arith))
