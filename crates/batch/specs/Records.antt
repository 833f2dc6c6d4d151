-- The records that a list of actions makes.
-- Assumes nothing.
use Rattle.std.specs.Prelude.{ℕ, Bool, false, cond, ◌||◌, List, [], ◌∷◌, ◌++◌, map}
use Rattle.text.specs.Lists.{same_bytes}
use Rattle.layout.specs.Layout.{field_of}
use Rattle.record.specs.Readings.{cancelled_rec}
use Rattle.batch.specs.Actions.{Action, Addition, Amendment, Cancellation}

abbrev pub id_of : List ℕ → List ℕ
id_of rec = field_of rec 1

abbrev pub has_id : List ℕ → List ℕ → Bool
has_id id rec = same_bytes (id_of rec) id

-- its status is "0 "
abbrev pub is_cancelled_rec : List ℕ → Bool
is_cancelled_rec rec = same_bytes (field_of rec 19) (48 ∷ 32 ∷ [])

-- the record with this identifier replaced where it stands, and cancelled
abbrev pub replaced_by : List ℕ → List ℕ → List ℕ
replaced_by new rec = cond (has_id (id_of new) rec) new rec

abbrev pub cancelled_for : List ℕ → List ℕ → List ℕ
cancelled_for id rec = cond (has_id id rec) (cancelled_rec rec) rec

-- add puts a record behind the last, amend replaces it where it stands, cancel sets its status
abbrev pub records_after : List (List ℕ) → Action → List (List ℕ)
records_after recs (Addition rec) = recs ++ rec ∷ []
records_after recs (Amendment rec) = map (replaced_by rec) recs
records_after recs (Cancellation id) = map (cancelled_for id) recs

abbrev pub records_from : List (List ℕ) → List Action → List (List ℕ)
records_from recs [] = recs
records_from recs (a ∷ xs) = records_from (records_after recs a) xs

abbrev pub records_of : List Action → List (List ℕ)
records_of xs = records_from [] xs

-- ---- what the rules ask of records
unfoldable pub some : (List ℕ → Bool) → List (List ℕ) → Bool
some test [] = false
some test (rec ∷ recs) = test rec || some test recs
