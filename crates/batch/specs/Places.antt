-- "The open batch": what an addition, an amendment and a cancellation meet, and what they make of the file and the totals.
-- A file buffer and how many records it holds stand for the records, and so does the first consignor that they name; places are counted from 0.
-- Assumes nothing.
use Rattle.std.specs.Prelude.{ℕ, zero, suc, ◌+◌, ◌-◌, ◌*◌, Bool, cond, not, List, length, get_or, set, eqb, leb, Option, Some, None}
use Rattle.text.specs.declared.Answer.{Answer}
use Rattle.text.specs.Answers.{answer, accepted, or_else}
use Rattle.text.specs.Lists.{same_bytes, overlay}
use Rattle.psc.specs.Table.{Known}
use Rattle.ident.specs.Identifier.{right_id}
use Rattle.ident.specs.declared.consignor.Consignor.{Consignor}
use Rattle.ident.specs.Consignor.{another}
use Rattle.layout.specs.Layout.{field_of}
use Rattle.record.specs.Consignors.{consignor_of}
use Rattle.record.specs.Rules.{to_post, record_answer}
use Rattle.posting.specs.declared.Totals.{Totals}
use Rattle.posting.specs.File.{line_of, id_at, totals}

-- ---- the consignment with an identifier
-- the number, counted from 1, of the last of n records with this identifier; 0 where none has it
unfoldable pub record_number : List ℕ → List ℕ → ℕ → ℕ
record_number file id zero = 0
record_number file id (suc n) = cond (same_bytes (id_at file n) id) (suc n) (record_number file id n)

-- of the place that is found
abbrev pub number_of_place : Option ℕ → ℕ
number_of_place None = 0
number_of_place (Some k) = k + 1

abbrev pub present : List ℕ → List ℕ → ℕ → Bool
present file id held = not (eqb (record_number file id held) 0)

abbrev pub place_of : List ℕ → List ℕ → ℕ → ℕ
place_of file id held = record_number file id held - 1

-- the record at a place is cancelled: the first byte of its status, field 19, is "0"
-- In a batch that passed the test the status is then "0 " (`Views: cancelled_view`).
abbrev pub is_cancelled_at : List ℕ → ℕ → Bool
is_cancelled_at file k = eqb (get_or file (k * 401 + 340) 0) 48

abbrev pub id_of : List ℕ → List ℕ
id_of rec = field_of rec 1

-- ---- what an action meets, in the order of the table of refusals; 231 is not judged here
-- the identifier is present and not cancelled
abbrev pub live_answer : List ℕ → ℕ → List ℕ → Answer
live_answer file held id =
    cond (present file id held) (cond (is_cancelled_at file (place_of file id held)) (answer 233 0) accepted) (answer 232 0)

unfoldable pub add_answer : Known → List ℕ → ℕ → Option Consignor → List ℕ → Answer
add_answer known file held seen rec =
    or_else (record_answer (to_post known) rec)
    (cond (present file (id_of rec) held) (answer 2 1)
    (cond (another seen (consignor_of rec)) (answer 241 1)
    (cond (leb (held * 401 + 401) (length file)) accepted (answer 230 0))))

unfoldable pub amend_answer : Known → List ℕ → ℕ → List ℕ → Answer
amend_answer known file held rec = or_else (record_answer (to_post known) rec) (live_answer file held (id_of rec))

unfoldable pub cancel_answer : List ℕ → ℕ → List ℕ → Answer
cancel_answer file held id = cond (right_id id) (live_answer file held id) (answer 1 1)

-- ---- what an action makes of the file
abbrev pub with_line : List ℕ → ℕ → List ℕ → List ℕ
with_line file k rec = overlay file (k * 401) (line_of rec)

-- status "0 "
abbrev pub with_cancelled : List ℕ → ℕ → List ℕ
with_cancelled file k = set (set file (k * 401 + 340) 48) (k * 401 + 341) 32

-- ---- kinds of entries: 1 addition, 2 cancellation, 3 amendment; no other is ever asked about
unfoldable pub action_answer : Known → List ℕ → ℕ → Option Consignor → ℕ → List ℕ → Answer
action_answer known file held seen kind body =
    cond (eqb kind 1) (add_answer known file held seen body) (cond (eqb kind 3) (amend_answer known file held body) (cancel_answer file held body))

unfoldable pub action_file : List ℕ → ℕ → ℕ → List ℕ → List ℕ
action_file file held kind body =
    cond (eqb kind 1) (with_line file held body)
    (cond (eqb kind 3) (with_line file (place_of file (id_of body) held) body) (with_cancelled file (place_of file body held)))

abbrev pub action_held : ℕ → ℕ → ℕ
action_held held kind = cond (eqb kind 1) (held + 1) held

-- ---- and of the totals
abbrev pub one_live_more : Totals → ℕ → ℕ → Totals
one_live_more t d p = totals (t.live + 1) t.cancelled (t.cash.0 + d) (t.price.0 + p)

abbrev pub one_cancelled : Totals → ℕ → ℕ → Totals
one_cancelled t d p = totals (t.live - 1) (t.cancelled + 1) (t.cash.0 - d) (t.price.0 - p)

abbrev pub amounts_replaced : Totals → ℕ → ℕ → ℕ → ℕ → Totals
amounts_replaced t d p d' p' = totals t.live t.cancelled (t.cash.0 - d + d') (t.price.0 - p + p')
