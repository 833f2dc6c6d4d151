-- What is shown of an index: in any table, what is found has the key; in a table kept by `put`, it is the last that has it.
-- Assumes nothing.
use Rattle.std.specs.Prelude.{ℕ, zero, suc, ◌+◌, ◌≤◌, ◌<◌, true, cond, ◌≡◌, List, [], ◌∷◌, eqb, length, replicate}
use Rattle.index.specs.Index.{key_at, has_key, seek, named_at, found, noting}

-- record i has this key in the file
pub record Has (file : List ℕ) (from : ℕ) (key : List ℕ) (i : ℕ) : Type 0 where
  pub inside : has_key file from i ≡ true
  pub same : key_at file from i ≡ key

-- in any table, a record that is found has the key: none is ever taken for another
abbrev pub FoundHas : Type 0
FoundHas = (table file : List ℕ) (from : ℕ) (key : List ℕ) (i : ℕ) → found table file from key ≡ suc i → Has file from key i

-- the first n records noted in m slots, one behind the other
unfoldable pub noted : List ℕ → ℕ → ℕ → ℕ → List ℕ
noted file from m zero = replicate m 0
noted file from m (suc n) = noting (noted file from m n) file from n

-- whatever key is looked for there, `seek` is found, as long as there are more slots than records
abbrev pub NotedFinds : Type 0
NotedFinds = (file : List ℕ) (from m n : ℕ) → n < m → n ≤ 65535 → ((i : ℕ) → i < n → has_key file from i ≡ true)
    → (key : List ℕ) → found (noted file from m n) file from key ≡ seek file from key n

-- ---- the same one `put` at a time
-- how many slots are not 0
unfoldable pub taken : List ℕ → ℕ
taken [] = 0
taken (t ∷ ts) = cond (eqb t 0) (taken ts) (suc (taken ts))

-- the table has the first n records: it names no others, no more slots are taken, and whatever key is looked for, `seek` is found
pub record Indexed (file : List ℕ) (from n : ℕ) (table : List ℕ) : Type 0 where
  pub small : (s : ℕ) → named_at table file from s ≤ n
  pub few : taken table ≤ n
  pub finds : (key : List ℕ) → found table file from key ≡ seek file from key n

-- a table of zeros has none
abbrev pub IndexedNone : Type 0
IndexedNone = (file : List ℕ) (from m : ℕ) → Indexed file from 0 (replicate m 0)

-- where there is room for one more, `put` adds it
abbrev pub IndexedMore : Type 0
IndexedMore = (file : List ℕ) (from n : ℕ) (table : List ℕ) → Indexed file from n table → n + 1 < length table → n < 65535 → has_key file from n ≡ true
    → Indexed file from (n + 1) (noting table file from n)
