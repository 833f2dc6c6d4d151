-- How the pieces of a set are found: each record is linked to the live one before it with the same main identifier. Private functions ask for this, and
-- leave it; no promise of a public call speaks of it.
-- Assumes nothing.
use Rattle.std.specs.Prelude.{ℕ, zero, suc, ◌+◌, ◌≤◌, ◌<◌, Bool, false, cond, ◌&&◌, ◌≡◌, refl, List, Option, None, Some, Result, Ok, Err, length, get_or}
use Rattle.text.specs.Bytes.{every}
use Rattle.text.specs.Lists.{same_bytes}
use Rattle.layout.specs.Layout.{field_of}
use Rattle.fields.specs.Others.{read_status}
use Rattle.index.specs.Index.{slot_number}
use Rattle.index.specs.Laws.{Indexed}
use Rattle.text.specs.Answers.{answer_of}
use Rattle.posting.specs.declared.Break.{Break}
use Rattle.posting.specs.declared.FileAnswer.{FileAnswer}
use Rattle.posting.specs.File.{up_to, record_at, records_in, refused}
use Rattle.posting.specs.Sums.{is_live}
use Rattle.closing.specs.Sets.{main_of, in_set, set_under, said_by, offence}
use Rattle.closing.specs.Closing.{records_of, place_of, closing_of}

-- ---- links
-- a place counted from 1, with 0 for none, as a link has it, and the index
abbrev pub counted : ℕ → Option ℕ
counted zero = None
counted (suc n) = Some n

-- the number is had back from the place
pub counted_back : (n : ℕ) → slot_number (counted n) ≡ n
counted_back zero = refl
counted_back (suc n) = refl

abbrev pub live_at : List ℕ → ℕ → Bool
live_at file i = is_live (read_status (field_of (record_at file i) 19))

abbrev pub main_at : List ℕ → ℕ → List ℕ
main_at file i = main_of (record_at file i)

-- where the main identifier starts in a record: the key that the index goes by
abbrev pub main_from : ℕ
main_from = 362

-- the last of n records that is live and has this main identifier
unfoldable pub last_live : List ℕ → List ℕ → ℕ → Option ℕ
last_live file main zero = None
last_live file main (suc n) = cond (live_at file n && same_bytes (main_at file n) main) (Some n) (last_live file main n)

-- likewise from record i on, for the main identifier that it has
unfoldable pub live_from : List ℕ → Option ℕ → Option ℕ
live_from file None = None
live_from file (Some i) = last_live file (main_at file i) (suc i)

-- the first n records are linked
pub record Linked (file : List ℕ) (n : ℕ) (links : List (Option ℕ)) : Type 0 where
  pub room : n ≤ length links
  pub each : (i : ℕ) → i < n → get_or links i None ≡ last_live file (main_at file i) i

-- no record is in a set
abbrev pub NoneInSet : List ℕ → Type 0
NoneInSet file = (i : ℕ) → i < records_in file → in_set (record_at file i) ≡ false

-- the records before n are noted, and there is room for record n
pub record RoomFor (file : List ℕ) (n : ℕ) (table : List ℕ) : Type 0 where
  pub noted : Indexed file main_from n table
  pub room : n + 1 < length table

-- record n is noted, too, in as many slots, and this is the live one before it
pub record NowNoted (file : List ℕ) (n : ℕ) (table after : List ℕ) (r : Option ℕ) : Type 0 where
  pub noted : Indexed file main_from (n + 1) after
  pub long : length after ≡ length table
  pub link : r ≡ last_live file (main_at file n) n

-- room for all records, none of them noted
pub record ToLink (file table : List ℕ) (links : List (Option ℕ)) : Type 0 where
  pub none : Indexed file main_from 0 table
  pub slots : records_in file + 1 < length table
  pub room : records_in file ≤ length links

-- all records are noted and linked
pub record AllLinked (file table : List ℕ) (links : List (Option ℕ)) : Type 0 where
  pub noted : Indexed file main_from (records_in file) table
  pub linked : Linked file (records_in file) links

-- the sets of the records before i are whole
abbrev pub WholeBefore : List ℕ → ℕ → Type 0
WholeBefore file i = (j : ℕ) → j < i → place_of (records_of file) (record_at file j) ≡ 0

-- ---- the pieces of a set
-- each serial from 1 to n is marked
abbrev pub all_marked : List Bool → ℕ → Bool
all_marked seen n = every (λ k. get_or seen k false) (up_to suc n)

-- a place as a call gives it: none where it is 0
abbrev pub some_place : ℕ → Option ℕ
some_place zero = None
some_place (suc n) = Some (suc n)

-- this is where the set offends that has this last live record, if it says so many pieces
pub record Judged (file : List ℕ) (last : Option ℕ) (pieces : ℕ) (place : Option ℕ) : Type 0 where
  pub each : (main : List ℕ) → last ≡ last_live file main (records_in file) → said_by (set_under (records_of file) main) ≡ pieces
      → place ≡ some_place (offence (set_under (records_of file) main))

-- this is the answer to an accepted file, where the file check answers `good`
abbrev pub closed : FileAnswer → Result (Unit {0}) Break → FileAnswer
closed good (Ok u) = good
closed good (Err b) = refused (answer_of b.refusal).code b.number (answer_of b.refusal).place

pub record Closed (file : List ℕ) (r : Result (Unit {0}) Break) : Type 0 where
  pub each : (good : FileAnswer) → closed good r ≡ closing_of good (records_of file)
