-- What the answer of the closing check means, in the order's words: of one set, and of the whole file.
-- Assumes nothing.
use Rattle.std.specs.Prelude.{ℕ, ◌+◌, ◌≤◌, ◌<◌, ◌≡◌, Bool, true, List, [], eqb, length, get_or}
use Rattle.posting.specs.declared.FileAnswer.{FileAnswer}
use Rattle.posting.specs.File.{record_at, records_in, refused, file_check}
use Rattle.posting.specs.Sums.{kept}
use Rattle.closing.specs.Sets.{main_of, serial_of, pieces_of, in_set, set_under, said_by}
use Rattle.closing.specs.Closing.{records_of}

-- ---- a set is whole: all its records give the same number of pieces, the serials run from 01 to that number, each once
-- how many of its records have serial k
abbrev pub times_in : ℕ → List (List ℕ) → ℕ
times_in k set = length (kept (λ rec. eqb (serial_of rec) k) set)

pub record Whole (set : List (List ℕ)) : Type 0 where
  pub same : (i : ℕ) → i < length set → pieces_of (get_or set i []) ≡ said_by set
  pub within : (i : ℕ) → i < length set → (1 ≤ serial_of (get_or set i [])) × (serial_of (get_or set i []) ≤ said_by set)
  pub once : (k : ℕ) → 1 ≤ k → k ≤ said_by set → times_in k set ≡ 1

-- as the record's table has it: a serial is at least 01, and not above the number of pieces beside it
abbrev pub Numbered : List (List ℕ) → Type 0
Numbered set = (i : ℕ) → i < length set → (1 ≤ serial_of (get_or set i [])) × (serial_of (get_or set i []) ≤ pieces_of (get_or set i []))

-- ---- where it offends, found over the whole set
-- two of its records give different numbers of pieces
pub record Unequal (set : List (List ℕ)) : Type 0 where
  pub one : ℕ
  pub other : ℕ
  pub one_inside : one < length set
  pub other_inside : other < length set
  pub differ : pieces_of (get_or set one []) ≡ pieces_of (get_or set other []) → ⊥

-- two of its records have the same serial
pub record Repeated (set : List (List ℕ)) : Type 0 where
  pub earlier : ℕ
  pub later : ℕ
  pub before : earlier < later
  pub inside : later < length set
  pub same : serial_of (get_or set earlier []) ≡ serial_of (get_or set later [])

-- none of its records has one of the serials from 01 to the number of pieces
pub record Missing (set : List (List ℕ)) : Type 0 where
  pub serial : ℕ
  pub least : 1 ≤ serial
  pub most : serial ≤ said_by set
  pub none : (i : ℕ) → i < length set → serial_of (get_or set i []) ≡ serial → ⊥

-- 24 for unequal numbers of pieces, else 23 for a repeated serial, else 22 where a serial is missing; else 0
pub data SetOutcome (set : List (List ℕ)) (place : ℕ) : Type 0 where
  unequal : Unequal set → place ≡ 24 → SetOutcome set place
  repeated : (Unequal set → ⊥) → Repeated set → place ≡ 23 → SetOutcome set place
  missing : (Unequal set → ⊥) → (Repeated set → ⊥) → Missing set → place ≡ 22 → SetOutcome set place
  faultless : (Unequal set → ⊥) → (Repeated set → ⊥) → (Missing set → ⊥) → place ≡ 0 → SetOutcome set place

-- ---- the same records in another order: whatever is asked of a record, as many pass
abbrev pub Reordered : {A : Type 0} → List A → List A → Type 0
Reordered {A} xs ys = (p : A → Bool) → length (kept p xs) ≡ length (kept p ys)

-- ---- the file, its records counted from 0
-- the set that record i is in, if it is in any
abbrev pub set_of : List ℕ → ℕ → List (List ℕ)
set_of file i = set_under (records_of file) (main_of (record_at file i))

abbrev pub EverySetWhole : List ℕ → Type 0
EverySetWhole file = (i : ℕ) → i < records_in file → in_set (record_at file i) ≡ true → Whole (set_of file i)

-- record i is live, and its set offends
pub record Offends (file : List ℕ) (i : ℕ) : Type 0 where
  pub inside : i < records_in file
  pub member : in_set (record_at file i) ≡ true
  pub broken : Whole (set_of file i) → ⊥

-- no record before it does
pub record EarliestOffends (file : List ℕ) (i : ℕ) : Type 0 where
  pub offends : Offends file i
  pub first : (j : ℕ) → j < i → Offends file j → ⊥

-- The file's own refusal; else 240 for the earliest live record whose set offends, and the place found over that whole set; else the totals of the file.
pub data ClosingOutcome (psc file : List ℕ) (a : FileAnswer) : Type 0 where
  file_refused : ((file_check psc file).code ≡ 0 → ⊥) → a ≡ file_check psc file → ClosingOutcome psc file a
  set_offends : (file_check psc file).code ≡ 0 → (i : ℕ) → EarliestOffends file i → (place : ℕ) → SetOutcome (set_of file i) place → a ≡ refused 240 (i + 1) place
      → ClosingOutcome psc file a
  all_whole : (file_check psc file).code ≡ 0 → EverySetWhole file → a ≡ file_check psc file → ClosingOutcome psc file a

-- the file may be closed: code 0 is the answer exactly then
pub record MayClose (psc file : List ℕ) : Type 0 where
  pub accepted : (file_check psc file).code ≡ 0
  pub whole : EverySetWhole file

-- an accepted file in which some set offends: 240 is the answer exactly then
pub record SetOffends (psc file : List ℕ) : Type 0 where
  pub accepted : (file_check psc file).code ≡ 0
  pub number : ℕ
  pub offends : Offends file number
