-- Order 1: the closing check over an accepted file. Records are named from 1 in answers.
-- Assumes nothing.
use Rattle.std.specs.Prelude.{ℕ, zero, suc, ◌-◌, Bool, cond, not, List, [], ◌∷◌, eqb, get_or}
use Rattle.posting.specs.declared.FileAnswer.{FileAnswer}
use Rattle.posting.specs.File.{records, records_in, refused, file_check}
use Rattle.closing.specs.Sets.{main_of, in_set, set_under, offence}

-- the file's list of records
abbrev pub records_of : List ℕ → List (List ℕ)
records_of file = records file (records_in file)

-- where the set of a record offends; 0 where it is whole, and for a record that is in no set
unfoldable pub place_of : List (List ℕ) → List ℕ → ℕ
place_of recs rec = cond (in_set rec) (offence (set_under recs (main_of rec))) 0

abbrev pub offends : List (List ℕ) → List ℕ → Bool
offends recs rec = not (eqb (place_of recs rec) 0)

-- the number, counted from 1, of the first in a list that passes a test; 0 where none does
abbrev pub one_more : ℕ → ℕ
one_more zero = zero
one_more (suc n) = suc (suc n)

unfoldable pub first_that : {A : Type 0} → (A → Bool) → List A → ℕ
first_that p [] = 0
first_that p (x ∷ xs) = cond (p x) 1 (one_more (first_that p xs))

-- the number of the earliest live record whose set offends; 0 where every set is whole
unfoldable pub earliest : List (List ℕ) → ℕ
earliest recs = first_that (offends recs) recs

-- 240 for that record, with the place found over its whole set; else the answer to an accepted file
unfoldable pub closing_of : FileAnswer → List (List ℕ) → FileAnswer
closing_of good recs = cond (eqb (earliest recs) 0) good (refused 240 (earliest recs) (place_of recs (get_or recs (earliest recs - 1) [])))

-- after all file checks, under a lent table of postcodes: the file's own refusal stands
unfoldable pub closing_answer : List ℕ → List ℕ → FileAnswer
closing_answer psc file = cond (eqb (file_check psc file).code 0) (closing_of (file_check psc file) (records_of file)) (file_check psc file)
