-- "The totals": live consignments, cancelled ones, and over the live ones the sums of fields 16 and 17, of any list of records.
-- Assumes nothing.
use Rattle.std.specs.Prelude.{ℕ, Bool, true, false, cond, List, [], ◌∷◌, map, length}
use Rattle.text.specs.Lists.{sum}
use Rattle.layout.specs.Layout.{field_of}
use Rattle.fields.specs.declared.others.StatusReading.{StatusReading}
use Rattle.fields.specs.declared.others.StatusReading.TheVariants as Status
use Rattle.fields.specs.Others.{read_status}
use Rattle.posting.specs.declared.Totals.{Totals}
use Rattle.posting.specs.File.{totals, amount_of}

-- those of a list that a test keeps
unfoldable pub kept : {A : Type 0} → (A → Bool) → List A → List A
kept p [] = []
kept p (x ∷ xs) = cond (p x) (x ∷ kept p xs) (kept p xs)

abbrev pub is_live : StatusReading → Bool
is_live Status.Live = true
is_live Status.Cancelled = false
is_live Status.Malformed = false

abbrev pub is_cancelled : StatusReading → Bool
is_cancelled Status.Live = false
is_cancelled Status.Cancelled = true
is_cancelled Status.Malformed = false

-- the records with status live, and with status cancelled
abbrev pub live : List (List ℕ) → List (List ℕ)
live recs = kept (λ rec. is_live (read_status (field_of rec 19))) recs

abbrev pub cancelled : List (List ℕ) → List (List ℕ)
cancelled recs = kept (λ rec. is_cancelled (read_status (field_of rec 19))) recs

-- what a record has in fields 16 and 17
abbrev pub cash_in : List ℕ → ℕ
cash_in rec = (amount_of rec 16).0

abbrev pub price_in : List ℕ → ℕ
price_in rec = (amount_of rec 17).0

abbrev pub totals_of : List (List ℕ) → Totals
totals_of recs = totals (length (live recs)) (length (cancelled recs)) (sum (map cash_in (live recs))) (sum (map price_in (live recs)))
