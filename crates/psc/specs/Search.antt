-- Looking a number up in halves, as the code does, in any table and with at most 14 looks. In a right table the number is found exactly if it is there
-- (`proofs/SearchLaws: found_exactly`): what a reader has to believe is `holds`.
-- Assumes nothing.
use Rattle.std.specs.Prelude.{ℕ, zero, suc, ◌+◌, ◌-◌, ◌/◌, Bool, true, false, cond, List, length, get_or, eqb, ltb}
use Rattle.psc.specs.Table.{Known}

-- the entry in the middle of those from `low` up to `high`
abbrev pub middle : ℕ → ℕ → ℕ
middle low high = low + (high - low) / 2

-- one look at an entry: found, or else on to the entries below it, or above it
abbrev pub looked : ℕ → ℕ → Bool → Bool → Bool
looked entry n below above = cond (eqb entry n) true (cond (ltb entry n) above below)

-- among the entries from `low` up to `high`, with at most so many looks
unfoldable pub found_in : ℕ → List ℕ → ℕ → ℕ → ℕ → Bool
found_in zero table low high n = false
found_in (suc looks) table low high n =
    cond (ltb low high)
    (looked (get_or table (middle low high) 0) n (found_in looks table low (middle low high) n) (found_in looks table (middle low high + 1) high n))
    false

-- 14 halvings leave none of 16,000
unfoldable pub found : List ℕ → Known
found table n = found_in 14 table 0 (length table) n
