-- Facts of the looks into the table, for any number of looks that are left. No proof uses them now; the notes of the port name them.
-- Assumes nothing.
use Prim.Native.Nat.{ℕ, suc, ◌+◌, ◌-◌, ◌≤◌, ◌<◌}
use mathlib.Core.Path.{◌≡◌, refl, sym, ◌∙◌}
use mathlib.Core.Bool.{Bool, true, false, cond, ◌||◌, or-false}
use mathlib.Core.List.{List}
use native.Mathlib.Omega.{arith}
use borrow.Author.Tests.{lt-ltb, le-ltb}
use lib.Dec.{eqb, ltb}
use lib.ListN.{get_or}
use Rattle.psc.specs.Search.{middle, found_in}

-- ---- find: among the entries from `low` up to `high`, with so many looks left
module _ (looks : ℕ) (table : List ℕ) (low high n : ℕ) (hit r : Bool) (known : (hit || found_in looks table low high n) ≡ r) where
  pub look_last : looks ≤ 0 → hit ≡ r
  unfolding found_in
  look_last h = let z : looks ≡ 0 = omega arith in sym (or-false hit) ∙ (rw z at known)

  module _ (some : 0 < looks) where
    down : (hit || found_in (suc (looks - 1)) table low high n) ≡ r
    down = let one : suc (looks - 1) ≡ looks = omega arith in rw one known

    pub look_none : high ≤ low → hit ≡ r
    unfolding found_in
    look_none h = sym (or-false hit) ∙ (rw (le-ltb low high h) at down)

    pub look_on : low < high → (entry l h : ℕ) → entry ≡ get_or table (middle low high) 0 → l ≡ cond (ltb entry n) (middle low high + 1) low → h ≡ cond (ltb entry n) high (middle low high)
        → (hit || eqb entry n || found_in (looks - 1) table l h n) ≡ r
    unfolding found_in
    look_on more entry l h e el eh = rw (el, eh) (go hit (eqb entry n) (ltb entry n)) ∙ (rw (lt-ltb low high more, ← e) at down)
      where
        go : (t u v : Bool) → (t || u || found_in (looks - 1) table (cond v (middle low high + 1) low) (cond v high (middle low high)) n)
            ≡ (t || cond u true (cond v (found_in (looks - 1) table (middle low high + 1) high n) (found_in (looks - 1) table low (middle low high) n)))
        go true u v = refl
        go false true v = refl
        go false false true = refl
        go false false false = refl
