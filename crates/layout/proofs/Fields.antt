-- The record's own fields: their numbers, and that they tile it.
-- Assumes nothing.
use Prim.Native.Nat.{ℕ, ◌-◌, ◌≤◌}
use mathlib.Core.Path.{◌≡◌, refl, ◌∙◌}
use mathlib.Core.Bool.{true}
use mathlib.Core.List.{List}
use native.Mathlib.Omega.{arith}
use borrow.Author.Tests.{eq-eqb, leb-true}
use lib.Dec.{leb}
use lib.ListN.{length}
use Rattle.text.proofs.Booleans.{both}
use Rattle.layout.specs.Widths.{cut, cuts}
use Rattle.layout.specs.Layout.{widths, is_field, field_of, TiledByFields}
use Rattle.layout.proofs.Tiling.{cuts_nth, tiles}

pub field_range : (n : ℕ) → is_field n ≡ true → (1 ≤ n) × (n ≤ 26)
field_range n h =
    let range = both (leb 1 n) (leb n 26) h in
    (leb-true 1 n range.0, leb-true n 26 range.1)

field_cut : (rec : List ℕ) (n : ℕ) → length rec ≡ 399 → is_field n ≡ true → cut widths rec (n - 1) ≡ field_of rec n
unfolding field_of
field_cut rec n e f = rw (eq-eqb (length rec) 399 e, f)

pub record_tiled : (rec : List ℕ) → length rec ≡ 399 → TiledByFields rec
record_tiled rec e =
    record {
      fields = cuts widths rec;
      many = refl;
      each = λ n f.
          cuts_nth widths rec (n - 1) (omega (arith, field_range n f)) ∙ field_cut rec n e f;
      joins = tiles widths rec e;
    }
