-- In a right table a number is found exactly if it is there: 14 halvings leave none of 16,000 entries.
-- Assumes nothing.
use Prim.Native.Nat.{ℕ, zero, suc, ◌+◌, ◌^◌, ◌≤◌, ◌<◌}
use mathlib.Core.Path.{◌≡◌, refl, sym, ap}
use mathlib.Core.Bool.{Bool, true, false, cond}
use mathlib.Core.List.{List}
use mathlib.Core.Logic.{⊎_elim}
use native.Mathlib.Nat.{eq-or-lt_of_le}
use native.Mathlib.Omega.{arith}
use borrow.Author.Tests.{ltb-true, ltb-false, lt-ltb, eqb-true, eqb-false}
use lib.Dec.{eqb, ltb}
use lib.ListN.{length, get_or}
use Rattle.text.proofs.Booleans.{clash}
use Rattle.psc.specs.Table.{right_table, holds}
use Rattle.psc.specs.Search.{middle, found_in, found}
use Rattle.psc.specs.Outcomes.{RightTable, IsEntry, FoundExactly}
use Rattle.psc.proofs.TableLaws.{right_exactly, holds_exactly}

-- ---- what is found is an entry, in any table
found_entry : (looks : ℕ) (table : List ℕ) (low high n : ℕ) → high ≤ length table → found_in looks table low high n ≡ true → IsEntry table n
unfolding found_in
found_entry zero table low high n h e = absurd (clash e refl)
found_entry (suc looks) table low high n h e =
    go (ltb low high) refl (eqb entry n) refl (ltb entry n)
    (λ l. found_entry looks table low (middle low high) n l) (found_entry looks table (middle low high + 1) high n h) e
  where
    entry : ℕ
    entry = get_or table (middle low high) 0

    go : (t : Bool) → ltb low high ≡ t → (u : Bool) → eqb entry n ≡ u → (v : Bool) {below above : Bool}
        → (middle low high ≤ length table → below ≡ true → IsEntry table n) → (above ≡ true → IsEntry table n)
        → cond t (cond u true (cond v above below)) false ≡ true → IsEntry table n
    go true et true eu v in-below in-above e =
        record { place = middle low high; inside = omega (arith, ltb-true low high et); there = eqb-true entry n eu }
    go true et false eu true in-below in-above e = in-above e
    go true et false eu false in-below in-above e = in-below (omega (arith, ltb-true low high et)) e
    go false et u eu v in-below in-above e = absurd (clash e refl)

-- ---- an entry is found, in a table that rises
module _ (table : List ℕ) (right : RightTable table) where
  never_falls : (i j : ℕ) → i ≤ j → j < length table → get_or table i 0 ≤ get_or table j 0
  never_falls i j h l =
      ⊎_elim (λ e. omega (arith, ap (λ (k : ℕ). get_or table k 0) e)) (λ less. omega (arith, right.rises i j less l)) (eq-or-lt_of_le h)

  -- where the entry is less, so is the place
  less : (i j : ℕ) → i < length table → get_or table i 0 < get_or table j 0 → i < j
  less i j l h = go (ltb i j) refl
    where
      go : (t : Bool) → ltb i j ≡ t → i < j
      go true e = ltb-true i j e
      go false e = absurd (omega (arith, never_falls j i (ltb-false i j e) l))

  entry_found : (looks low high p : ℕ) → high ≤ length table → high < low + 2 ^ looks → low ≤ p → p < high
      → found_in looks table low high (get_or table p 0) ≡ true
  unfolding found_in
  entry_found zero low high p h few l k = absurd (omega arith)
  entry_found (suc looks) low high p h few l k =
      rw (lt-ltb low high (omega arith))
      (go (eqb entry n) refl (ltb entry n) refl
      (entry_found looks low (middle low high) p (omega arith) (omega arith) l)
      (λ m. entry_found looks (middle low high + 1) high p h (omega arith) (omega arith) k))
    where
      entry : ℕ
      entry = get_or table (middle low high) 0

      n : ℕ
      n = get_or table p 0

      go : (u : Bool) → eqb entry n ≡ u → (v : Bool) → ltb entry n ≡ v → {below above : Bool}
          → (p < middle low high → below ≡ true) → (middle low high < p → above ≡ true) → cond u true (cond v above below) ≡ true
      go true eu v ev in-below in-above = refl
      go false eu true ev in-below in-above = in-above (less (middle low high) p (omega arith) (ltb-true entry n ev))
      go false eu false ev in-below in-above =
          let other = eqb-false entry n eu in
          in-below (less p (middle low high) (omega arith) (omega (arith, ltb-false entry n ev)))

-- ---- a right table
same_truth : (a b : Bool) → (a ≡ true → b ≡ true) → (b ≡ true → a ≡ true) → a ≡ b
same_truth true b f g = sym (f refl)
same_truth false true f g = g refl
same_truth false false f g = refl

pub found_holds : (table : List ℕ) → right_table table ≡ true → (n : ℕ) → found table n ≡ holds table n
unfolding found
found_holds table h n =
    same_truth (found_in 14 table 0 (length table) n) (holds table n)
    (λ e. (holds_exactly table n).1 (found_entry 14 table 0 (length table) n (omega arith) e))
    (λ e. there ((holds_exactly table n).0 e))
  where
    there : IsEntry table n → found_in 14 table 0 (length table) n ≡ true
    there entry =
        let right = (right_exactly table).0 h in
        rw (← entry.there) (entry_found table right 14 0 (length table) entry.place (omega arith) (omega arith) (omega arith) entry.inside)

-- the two are one and the same test
pub found_is_holds : (table : List ℕ) → right_table table ≡ true → found table ≡ holds table
found_is_holds table h = λ i n. found_holds table h n i

pub found_exactly : (table : List ℕ) → right_table table ≡ true → (n : ℕ) → FoundExactly table n
found_exactly table h n = rw (found_holds table h n) (holds_exactly table n)
