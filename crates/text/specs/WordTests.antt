-- Eight equal bytes told by one number: what the classes of bytes that are tested by words say of themselves.
-- Assumes nothing.
use Prim.Native.Nat.{ℕ, suc, ◌+◌, ◌*◌, ◌<◌}
use mathlib.Core.Path.{◌≡◌, refl, ap, ◌∙◌}
use mathlib.Core.Bool.{Bool, true, false, ◌&&◌}
use mathlib.Core.List.{List, [], ◌∷◌}
use native.Mathlib.Omega.{arith}
use borrow.Author.Tests.{eq-eqb, ne_eqb, eqb-true, eqb-false}
use lib.Dec.{eqb}
use lib.ListN.{length, get_or, replicate}
use Rattle.text.specs.Bytes.{every, is_space, is_zero}
use Rattle.text.specs.Words.{low_first}

pub low_byte : (b c x y : ℕ) → b < 256 → c < 256 → eqb (b + 256 * x) (c + 256 * y) ≡ (eqb b c && eqb x y)
low_byte b c x y h l = go (eqb b c) refl (eqb x y) refl
  where
    go : (t : Bool) → eqb b c ≡ t → (u : Bool) → eqb x y ≡ u → eqb (b + 256 * x) (c + 256 * y) ≡ (t && u)
    go true t true u = eq-eqb (b + 256 * x) (c + 256 * y) (let p = eqb-true b c t in let q = eqb-true x y u in omega arith)
    go true t false u = ne_eqb (b + 256 * x) (c + 256 * y) (λ e. eqb-false x y u (omega arith))
    go false t u eu = ne_eqb (b + 256 * x) (c + 256 * y) (λ e. eqb-false b c t (omega arith))

-- ---- equal bytes told by one number
-- k bytes are all c exactly where their number is that of k times c
all_told : (c : ℕ) → c < 256 → (s : List ℕ) → ((j : ℕ) → get_or s j 0 < 256) → eqb (low_first s) (low_first (replicate (length s) c)) ≡ every (λ b. eqb b c) s
unfolding low_first
all_told c small [] each = refl
all_told c small (b ∷ s) each =
    low_byte b c (low_first s) (low_first (replicate (length s) c)) (each 0) small
    ∙ ap (λ (t : Bool). eqb b c && t) (all_told c small s (λ j. each (suc j)))

module _ (s : List ℕ) (long : length s ≡ 8) (each : (j : ℕ) → get_or s j 0 < 256) where
  eight_told : (c : ℕ) → c < 256 → eqb (low_first s) (low_first (replicate 8 c)) ≡ every (λ b. eqb b c) s
  eight_told c small = rw long at (all_told c small s each)

  pub spaces_at_once : eqb (low_first s) 2314885530818453536 ≡ every is_space s
  unfolding low_first
  spaces_at_once = eight_told 32 (omega arith)

  pub zeros_at_once : eqb (low_first s) 0 ≡ every is_zero s
  unfolding low_first
  zeros_at_once = eight_told 0 (omega arith)
