-- Keys: where they lie, and who has one.
-- Assumes nothing.
use Prim.Native.Nat.{ℕ, ◌+◌, ◌*◌, ◌≤◌}
use mathlib.Core.Path.{◌≡◌}
use mathlib.Core.Bool.{true, and-eq-true_iff}
use mathlib.Core.List.{List}
use native.Mathlib.Omega.{arith}
use borrow.Author.Tests.{leb-true, le-leb}
use lib.Dec.{leb}
use lib.ListN.{length, drop, length-take, length-drop}
use lib.Seq.{length-take-le}
use Rattle.index.specs.Index.{key_at, has_key}

-- ---- who has a key has it in the file, at a place within the record, and of 13 bytes
pub key_inside : (file : List ℕ) (from i : ℕ) → has_key file from i ≡ true → i * 401 + from + 13 ≤ length file
unfolding has_key
key_inside file from i has = leb-true (i * 401 + from + 13) (length file) ((and-eq-true_iff (leb (from + 13) 401) (leb (i * 401 + from + 13) (length file))).0 has).1

pub key_near : (file : List ℕ) (from i : ℕ) → has_key file from i ≡ true → from ≤ 388
unfolding has_key
key_near file from i has = let h = leb-true (from + 13) 401 ((and-eq-true_iff (leb (from + 13) 401) (leb (i * 401 + from + 13) (length file))).0 has).0 in omega arith

pub key_long : (file : List ℕ) (from i : ℕ) → has_key file from i ≡ true → length (key_at file from i) ≡ 13
key_long file from i has = length-take-le 13 (drop (i * 401 + from) file) (simp length-drop (omega (arith, key_inside file from i has)))

-- where the key lies within a record, whatever has 13 bytes at its place has a key
pub key_whole : (file : List ℕ) (from i : ℕ) → from ≤ 388 → length (key_at file from i) ≡ 13 → has_key file from i ≡ true
unfolding has_key
key_whole file from i near long =
    let room : i * 401 + from + 13 ≤ length file = omega (arith, simp (length-take, length-drop) at long) in
    rw (le-leb (from + 13) 401 (omega arith), le-leb (i * 401 + from + 13) (length file) room)

-- a whole record has its key
pub key_of_record : (file : List ℕ) (from i : ℕ) → from ≤ 388 → i * 401 + 401 ≤ length file → has_key file from i ≡ true
unfolding has_key
key_of_record file from i near whole = rw (le-leb (from + 13) 401 (omega arith), le-leb (i * 401 + from + 13) (length file) (omega arith))
