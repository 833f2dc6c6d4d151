-- An index of a file's records by the 13 bytes that each has at one place: an identifier (from 0), or that of the main consignment (from 362).
-- Records have 401 bytes. They are noted in a table of slots: 0, or one more than the place of a record.
-- Assumes nothing.
use Rattle.std.specs.Prelude.{ℕ, zero, suc, ◌+◌, ◌-◌, ◌*◌, ◌/◌, ◌%◌, Bool, cond, not, ◌&&◌, ◌||◌, ◌≡◌, List, length, get_or, set, take, drop, eqb, leb, ltb, Option, Some, None}
use Rattle.text.specs.Lists.{same_bytes}
use Rattle.text.specs.Words.{word_of}

-- ---- keys
-- the key of record i: 13 bytes from place `from` of its 401
abbrev pub key_at : List ℕ → ℕ → ℕ → List ℕ
key_at file from i = take 13 (drop (i * 401 + from) file)

-- record i has its key within its 401 bytes, and in the file
unfoldable pub has_key : List ℕ → ℕ → ℕ → Bool
has_key file from i = leb (from + 13) 401 && leb (i * 401 + from + 13) (length file)

-- one more than the place of the last of n records with this key; 0 where none has it
unfoldable pub seek : List ℕ → ℕ → List ℕ → ℕ → ℕ
seek file from key zero = 0
seek file from key (suc n) = cond (same_bytes (key_at file from n) key) (suc n) (seek file from key n)

-- ---- slots
-- what a slot t is taken for: t, where it is one more than the place of a record that has its key; else it names none, and is taken as 0
unfoldable pub named : List ℕ → ℕ → ℕ → ℕ
named file from t = cond (not (eqb t 0) && has_key file from (t - 1)) t 0

abbrev pub named_at : List ℕ → List ℕ → ℕ → ℕ → ℕ
named_at table file from s = named file from (get_or table s 0)

-- the two halves of a word
abbrev pub low_half : ℕ → ℕ
low_half w = w % 4294967296

abbrev pub high_half : ℕ → ℕ
high_half w = w / 4294967296

-- Where a walk begins, of m slots. Any function of the key serves, and only speed depends on it: here of all its bytes but the first, four at a time.
unfoldable pub hash_of : ℕ → List ℕ → ℕ
hash_of m key = (low_half (word_of (drop 1 key)) * 1540483477 + low_half (word_of (drop 5 key)) * 1640531527 + high_half (word_of (drop 5 key)) * 1103515245) / 268435456 % m

-- a walk ends at a slot that names no record, or one with this key
abbrev pub ends : List ℕ → List ℕ → ℕ → List ℕ → ℕ → Bool
ends table file from key s = eqb (named_at table file from s) 0 || same_bytes (key_at file from (named_at table file from s - 1)) key

-- the slot behind s, of m
abbrev pub next : ℕ → ℕ → ℕ
next m s = cond (ltb (s + 1) m) (s + 1) 0

-- the first of k slots from s on where it ends; m, which is no slot, where none does
unfoldable pub slot_from : ℕ → List ℕ → List ℕ → ℕ → List ℕ → ℕ → ℕ → ℕ
slot_from m table file from key zero s = m
slot_from m table file from key (suc k) s = cond (ends table file from key s) s (slot_from m table file from key k (next m s))

unfoldable pub slot_of : List ℕ → List ℕ → ℕ → List ℕ → ℕ
slot_of table file from key = slot_from (length table) table file from key (length table) (hash_of (length table) key)

-- ---- what the two calls give, in any table
-- one more than the place of the record that the walk finds; 0 where it finds none
unfoldable pub found : List ℕ → List ℕ → ℕ → List ℕ → ℕ
found table file from key = named_at table file from (slot_of table file from key)

-- the table with record n noted where the walk for its key ends. It stays as it was where the walk ends at no slot, where the record has no key, and
-- where its number does not fit a slot of 16 bits.
unfoldable pub noting : List ℕ → List ℕ → ℕ → ℕ → List ℕ
noting table file from n = cond (has_key file from n && ltb n 65535) (set table (slot_of table file from (key_at file from n)) (n + 1)) table

-- the number that a record's place has in these definitions: one more than it; 0 for none
abbrev pub slot_number : Option ℕ → ℕ
slot_number None = 0
slot_number (Some i) = suc i

-- `put` gives what was found before for the record's key, and leaves the table with the record noted
pub record Put (table file : List ℕ) (from n : ℕ) (r : Option ℕ) (after : List ℕ) : Type 0 where
  pub before : slot_number r ≡ found table file from (key_at file from n)
  pub notes : after ≡ noting table file from n
