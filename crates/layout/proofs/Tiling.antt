-- The fields of a record lie within it, do not overlap and tile it, over any list of widths.
-- Assumes nothing.
use Prim.Native.Nat.{ℕ, zero, suc, ◌+◌, ◌<◌, ◌≤◌}
use mathlib.Core.Path.{◌≡◌, refl}
use mathlib.Core.List.{List, [], ◌∷◌}
use native.Mathlib.Nat.{zero-add}
use native.Mathlib.Omega.{arith}
use lib.ListN.{length, get_or, drop, take-append-drop, length-drop}
use lib.Seq.{drop-drop, length-take-le}
use Rattle.text.specs.Lists.{sum, joined}
use Rattle.layout.specs.Widths.{start, cut, cuts, starts_from}

-- a field lies within the whole
pub field_within : (ws : List ℕ) (k : ℕ) → k < length ws → start ws k + get_or ws k 0 ≤ sum ws
field_within [] k h = absurd (omega arith)
field_within (w ∷ ws) zero h = omega arith
field_within (w ∷ ws) (suc k) h = let ih = field_within ws k (omega arith) in omega arith

-- a field ends before a later one starts
pub no_overlap : (ws : List ℕ) (j k : ℕ) → j < k → k < length ws → start ws j + get_or ws j 0 ≤ start ws k
no_overlap [] j k h g = absurd (omega arith)
no_overlap (w ∷ ws) j zero h g = absurd (omega arith)
no_overlap (w ∷ ws) zero (suc k) h g = omega arith
no_overlap (w ∷ ws) (suc j) (suc k) h g = let ih = no_overlap ws j k (omega arith) (omega arith) in omega arith

-- a field has its width
pub field_wide : {A : Type 0} (ws : List ℕ) (rec : List A) (k : ℕ) → length rec ≡ sum ws → k < length ws → length (cut ws rec k) ≡ get_or ws k 0
field_wide ws rec k e h = length-take-le (get_or ws k 0) (drop (start ws k) rec) (rw length-drop (omega (arith, field_within ws k h)))

-- the k-th of all fields is field k
pub cuts_nth : {A : Type 0} (ws : List ℕ) (rec : List A) (k : ℕ) → k < length ws → get_or (cuts ws rec) k [] ≡ cut ws rec k
cuts_nth [] rec k h = absurd (omega arith)
cuts_nth (w ∷ ws) rec zero h = refl
cuts_nth (w ∷ ws) rec (suc k) h = rw (cuts_nth ws (drop w rec) k (omega arith), drop-drop)

-- a record as long as its widths together is its fields, joined
pub tiles : {A : Type 0} (ws : List ℕ) (rec : List A) → length rec ≡ sum ws → joined (cuts ws rec) ≡ rec
tiles [] [] e = refl
tiles [] (x ∷ rec) e = absurd (omega arith)
tiles (w ∷ ws) rec e = rw (tiles ws (drop w rec) (simp length-drop (omega arith)), take-append-drop)

starts_from_lem : (a : ℕ) (ws : List ℕ) (k : ℕ) → k < length ws → get_or (starts_from a ws) k 0 ≡ a + start ws k
starts_from_lem a [] k h = absurd (omega arith)
starts_from_lem a (w ∷ ws) zero h = omega arith
starts_from_lem a (w ∷ ws) (suc k) h = let ih = starts_from_lem (a + w) ws k (omega arith) in omega arith

pub starts_nth : (ws : List ℕ) (k : ℕ) → k < length ws → get_or (starts_from 0 ws) k 0 ≡ start ws k
starts_nth ws k h = rw (starts_from_lem 0 ws k h, zero-add)
