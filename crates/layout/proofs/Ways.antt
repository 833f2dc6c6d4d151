-- Each way out of the functions, from the facts that are known there.
-- Assumes nothing.
use Prim.Native.Nat.{ℕ, zero, suc, ◌+◌, ◌-◌, ◌≤◌}
use mathlib.Core.Path.{◌≡◌, refl, sym}
use mathlib.Core.Bool.{Bool, true, false}
use mathlib.Core.List.{List, [], ◌∷◌}
use native.Mathlib.Nat.{add-sub_cancel_left}
use native.Mathlib.Omega.{arith}
use borrow.Author.Tests.{eq-eqb, ne_eqb, le-leb, leb-false}
use lib.Dec.{leb}
use lib.ListN.{length, get_or, take, drop, get_or-eq_default}
use Rattle.text.specs.Answers.{answer, accepted}
use Rattle.text.proofs.Booleans.{clash}
use Rattle.layout.specs.Widths.{cut}
use Rattle.layout.specs.Layout.{widths, starts, width_of, is_field, field_of, field_answer, Field}
use Rattle.layout.proofs.Tiling.{field_within, starts_nth}

-- ---- width
pub no_width : (n : ℕ) (b : Bool) → b ≡ is_field n → b ≡ false → 0 ≡ width_of n
no_width zero b eb none = refl
no_width (suc n) b eb none = go (leb (suc n) 26) refl
  where
    go : (t : Bool) → leb (suc n) 26 ≡ t → 0 ≡ width_of (suc n)
    go true within = absurd (clash (rw (le-leb 1 (suc n) (omega arith), within) at eb) none)
    go false beyond = sym (get_or-eq_default (0 ∷ widths) 0 {n = suc n} (omega (arith, leb-false (suc n) 26 beyond)))

-- ---- cut_out
module _ (rec : List ℕ) (n : ℕ) (pre : (length rec ≡ 399) × (1 ≤ n) × (n ≤ 26)) where
  pub ends_within : get_or starts (n - 1) 0 + get_or widths (n - 1) 0 ≤ 399
  ends_within = omega (arith, field_within widths (n - 1) (omega arith), starts_nth widths (n - 1) (omega arith))

  pub cut_is : take (get_or starts (n - 1) 0 + get_or widths (n - 1) 0 - get_or starts (n - 1) 0) (drop (get_or starts (n - 1) 0) rec) ≡ cut widths rec (n - 1)
  cut_is = rw (add-sub_cancel_left, starts_nth widths (n - 1) (omega arith))

-- ---- field, field_answer
module _ (rec : List ℕ) (n : ℕ) where
  module _ (whole : length rec ≡ 399) (b : Bool) (eb : b ≡ is_field n) where
    pub the_field : (f : List ℕ) → b ≡ true → f ≡ cut widths rec (n - 1) → Field rec n f
    unfolding field_of
    the_field f there e = rw (eq-eqb (length rec) 399 whole, ← eb, there) e

    pub no_field : b ≡ false → Field rec n []
    unfolding field_of
    no_field none = rw (eq-eqb (length rec) 399 whole, ← eb, none)

    pub answers_there : b ≡ true → accepted ≡ field_answer rec n
    unfolding field_answer
    answers_there there = rw (eq-eqb (length rec) 399 whole, ← eb, there)

    pub answers_none : b ≡ false → answer 210 0 ≡ field_answer rec n
    unfolding field_answer
    answers_none none = rw (eq-eqb (length rec) 399 whole, ← eb, none)

  module _ (other : length rec ≡ 399 → ⊥) where
    pub no_record : Field rec n []
    unfolding field_of
    no_record = rw (ne_eqb (length rec) 399 other)

    pub answers_length : answer 236 0 ≡ field_answer rec n
    unfolding field_answer
    answers_length = rw (ne_eqb (length rec) 399 other)
