-- The start of a walk, of a key of any length. No proof uses it now; the notes of the port name it.
-- Assumes nothing.
use Prim.Native.Nat.{ℕ, ◌+◌, ◌-◌, ◌*◌, ◌/◌, ◌%◌, ◌^◌, ◌<◌}
use mathlib.Core.Path.{◌≡◌, ◌∙◌}
use mathlib.Core.List.{List}
use native.Mathlib.Omega.{arith}
use lib.ListN.{length, take, drop, length-drop}
use lib.Seq.{take_all}
use Rattle.text.specs.Words.{word_of}
use Rattle.index.specs.Index.{hash_of}

-- ---- hash
pub hash_is : (m : ℕ) (key : List ℕ) (v w r : ℕ) → (v ≡ word_of (take (length key - 1) (drop 1 key))) × (v < 2 ^ 64) → (w ≡ word_of (take (length key - 5) (drop 5 key))) × (w < 2 ^ 64)
    → r ≡ (v % 4294967296 * 1540483477 + w % 4294967296 * 1640531527 + w / 4294967296 * 1103515245) / 268435456 % m → r ≡ hash_of m key
unfolding hash_of
hash_is m key v w r ev ew er =
    er ∙ rw (
      ev.0,
      ew.0,
      take_all (length key - 1) (drop 1 key) (simp length-drop (omega arith)),
      take_all (length key - 5) (drop 5 key) (simp length-drop (omega arith)),
    )
