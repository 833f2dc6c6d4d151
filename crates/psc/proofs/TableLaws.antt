-- What `right_table` and `holds` say of the entries, in the order's words.
-- Assumes nothing.
use Prim.Native.Nat.{ℕ, zero, suc, ◌+◌, ◌≤◌, ◌<◌}
use mathlib.Core.Path.{◌≡◌, refl}
use mathlib.Core.Bool.{Bool, true, false, ◌&&◌, ◌||◌, or-true}
use mathlib.Core.List.{List, [], ◌∷◌}
use native.Mathlib.Omega.{arith}
use borrow.Author.Tests.{leb-true, le-leb, eqb-true, eq-eqb}
use lib.Dec.{eqb, leb}
use lib.ListN.{length, get_or}
use Rattle.text.specs.Bytes.{every}
use Rattle.text.proofs.Booleans.{clash, both}
use Rattle.psc.specs.Table.{rises_from, is_postcode, right_table, holds}
use Rattle.psc.specs.Outcomes.{RightTable, RightExactly, IsEntry, HoldsExactly}

-- ---- rising entries
-- none is below the least
from_least : (least : ℕ) (table : List ℕ) → rises_from least table ≡ true → (i : ℕ) → i < length table → least ≤ get_or table i 0
unfolding rises_from
from_least least [] h i l = absurd (omega arith)
from_least least (n ∷ ns) h zero l = leb-true least n (both (leb least n) (rises_from (n + 1) ns) h).0
from_least least (n ∷ ns) h (suc i) l =
    let p = both (leb least n) (rises_from (n + 1) ns) h in
    omega (arith, leb-true least n p.0, from_least (n + 1) ns p.1 i (omega arith))

rising : (least : ℕ) (table : List ℕ) → rises_from least table ≡ true → (i j : ℕ) → i < j → j < length table → get_or table i 0 < get_or table j 0
unfolding rises_from
rising least [] h i j l k = absurd (omega arith)
rising least (n ∷ ns) h i zero l k = absurd (omega arith)
rising least (n ∷ ns) h zero (suc j) l k = omega (arith, from_least (n + 1) ns (both (leb least n) (rises_from (n + 1) ns) h).1 j (omega arith))
rising least (n ∷ ns) h (suc i) (suc j) l k = rising (n + 1) ns (both (leb least n) (rises_from (n + 1) ns) h).1 i j (omega arith) (omega arith)

rises : (least : ℕ) (table : List ℕ) → (0 < length table → least ≤ get_or table 0 0)
    → ((i j : ℕ) → i < j → j < length table → get_or table i 0 < get_or table j 0) → rises_from least table ≡ true
unfolding rises_from
rises least [] low up = refl
rises least (n ∷ ns) low up =
    rw (
      le-leb least n (low (omega arith)),
      rises (n + 1) ns (λ some. omega (arith, up 0 1 (omega arith) (omega arith))) (λ i j l k. up (suc i) (suc j) (omega arith) (omega arith)),
    )

-- ---- entries up to 99999
each_within : (table : List ℕ) → every is_postcode table ≡ true → (i : ℕ) → i < length table → get_or table i 0 ≤ 99999
each_within [] h i l = absurd (omega arith)
each_within (n ∷ ns) h zero l = leb-true n 99999 (both (is_postcode n) (every is_postcode ns) h).0
each_within (n ∷ ns) h (suc i) l = each_within ns (both (is_postcode n) (every is_postcode ns) h).1 i (omega arith)

all_within : (table : List ℕ) → ((i : ℕ) → i < length table → get_or table i 0 ≤ 99999) → every is_postcode table ≡ true
all_within [] h = refl
all_within (n ∷ ns) h = rw (le-leb n 99999 (h 0 (omega arith)), all_within ns (λ i l. h (suc i) (omega arith)))

-- ---- a right table
pub right_postcodes : (table : List ℕ) → right_table table ≡ true → every is_postcode table ≡ true
unfolding right_table
right_postcodes table h = (both (leb (length table) 16000 && rises_from 0 table) (every is_postcode table) h).1

pub right_exactly : (table : List ℕ) → RightExactly table
unfolding right_table
right_exactly table = (told, rightly)
  where
    told : (leb (length table) 16000 && rises_from 0 table && every is_postcode table) ≡ true → RightTable table
    told h =
        let p = both (leb (length table) 16000 && rises_from 0 table) (every is_postcode table) h in
        let q = both (leb (length table) 16000) (rises_from 0 table) p.0 in
        record { few = leb-true (length table) 16000 q.0; rises = rising 0 table q.1; within = each_within table p.1 }

    rightly : RightTable table → (leb (length table) 16000 && rises_from 0 table && every is_postcode table) ≡ true
    rightly t = rw (le-leb (length table) 16000 t.few, rises 0 table (λ some. omega arith) t.rises, all_within table t.within)

-- ---- a number is one of the entries
entry_of : (table : List ℕ) (n : ℕ) → holds table n ≡ true → IsEntry table n
unfolding holds
entry_of [] n h = absurd (clash h refl)
entry_of (m ∷ ms) n h = go (eqb m n) refl h (entry_of ms n)
  where
    go : (t : Bool) → eqb m n ≡ t → (t || holds ms n) ≡ true → (holds ms n ≡ true → IsEntry ms n) → IsEntry (m ∷ ms) n
    go true e h later = record { place = 0; inside = omega arith; there = eqb-true m n e }
    go false e h later =
        let entry = later h in
        record { place = suc entry.place; inside = omega (arith, entry.inside); there = entry.there }

holds_at : (table : List ℕ) (n i : ℕ) → i < length table → get_or table i 0 ≡ n → holds table n ≡ true
unfolding holds
holds_at [] n i l e = absurd (omega arith)
holds_at (m ∷ ms) n zero l e = rw (eq-eqb m n e)
holds_at (m ∷ ms) n (suc i) l e = rw (holds_at ms n i (omega arith) e) (or-true (eqb m n))

pub holds_exactly : (table : List ℕ) (n : ℕ) → HoldsExactly table n
holds_exactly table n = (entry_of table n, λ entry. holds_at table n entry.place entry.inside entry.there)
