-- "A whole file": records of 401 bytes, the first break, and the totals. Records are counted from 0 here, and named from 1 in answers. Which postcodes
-- exist is for the record's table alone, and is passed on to it.
-- Assumes nothing.
use Rattle.std.specs.Prelude.{ℕ, zero, suc, ◌+◌, ◌*◌, ◌/◌, ◌%◌, Bool, false, cond, ◌&&◌, ◌||◌, List, [], ◌∷◌, ◌++◌, length, get_or, take, drop, eqb, leb, Result, Ok, Err}
use Rattle.text.specs.declared.Answer.{Answer}
use Rattle.text.specs.Answers.{answer, accepted, answer_of, or_else}
use Rattle.text.specs.Lists.{same_bytes}
use Rattle.psc.specs.Table.{right_table, wrong_table, Known, holds}
use Rattle.layout.specs.Layout.{field_of}
use Rattle.fields.specs.declared.amounts.Hellers.{Hellers}
use Rattle.fields.specs.Readings.{MoneyReading}
use Rattle.fields.specs.declared.reading.Reading.TheVariants as Money
use Rattle.fields.specs.declared.others.StatusReading.{StatusReading}
use Rattle.fields.specs.declared.others.StatusReading.TheVariants as Status
use Rattle.fields.specs.Amounts.{read_money}
use Rattle.fields.specs.Others.{read_status}
use Rattle.record.specs.Rules.{in_file, record_answer}
use Rattle.record.specs.Consignors.{strays}
use Rattle.posting.specs.declared.Break.{Break}
use Rattle.posting.specs.declared.Totals.{Totals}
use Rattle.posting.specs.declared.FileAnswer.{FileAnswer}

-- ---- records of 401 bytes: 399, then 0Dh 0Ah
abbrev pub record_at : List ℕ → ℕ → List ℕ
record_at file i = take 399 (drop (i * 401) file)

-- the first n of a row: f 0, f 1, up to f (n - 1)
unfoldable pub up_to : {A : Type 0} → (ℕ → A) → ℕ → List A
up_to f zero = []
up_to f (suc n) = up_to f n ++ f n ∷ []

-- the first n records
abbrev pub records : List ℕ → ℕ → List (List ℕ)
records file n = up_to (record_at file) n

-- a record with its line end
abbrev pub line_of : List ℕ → List ℕ
line_of rec = rec ++ 13 ∷ 10 ∷ []

abbrev pub id_at : List ℕ → ℕ → List ℕ
id_at file i = take 13 (drop (i * 401) file)

abbrev pub line_ends : List ℕ → ℕ → Bool
line_ends file i = eqb (get_or file (i * 401 + 399) 0) 13 && eqb (get_or file (i * 401 + 400) 0) 10

-- one of the first n records, cancelled or not, has the identifier of record i
unfoldable pub repeats : List ℕ → ℕ → ℕ → Bool
repeats file i zero = false
repeats file i (suc n) = same_bytes (id_at file n) (id_at file i) || repeats file i n

-- ---- what record i breaks: 212 if the line end is wrong, the table, then 2 if an earlier record has the same identifier, then 241 if one names another
-- consignor
unfoldable pub line_answer : Known → List ℕ → ℕ → Answer
line_answer known file i =
    cond (line_ends file i)
    (or_else (record_answer (in_file known) (record_at file i)) (cond (repeats file i i) (answer 2 1) (cond (strays (records file i) (record_at file i)) (answer 241 1) accepted)))
    (answer 212 0)

-- ---- totals
abbrev pub totals : ℕ → ℕ → ℕ → ℕ → Totals
totals l c d p = record { live = l; cancelled = c; cash = record { 0 = d }; price = record { 0 = p } }

abbrev pub no_totals : Totals
no_totals = totals 0 0 0 0

abbrev pub amount_in : MoneyReading → ℕ
amount_in Money.Absent = 0
amount_in (Money.Value h) = h.0
amount_in Money.Malformed = 0

-- the amount in field n of a record; 0 where there is none
abbrev pub amount_of : List ℕ → ℕ → Hellers
amount_of rec n = record { 0 = amount_in (read_money (field_of rec n)) }

-- what a record brings: a live one counts one and brings its two amounts, a cancelled one is only counted; what is neither brings nothing
abbrev pub brought_as : StatusReading → Hellers → Hellers → Totals
brought_as Status.Live cash price = totals 1 0 cash.0 price.0
brought_as Status.Cancelled cash price = totals 0 1 0 0
brought_as Status.Malformed cash price = no_totals

unfoldable pub brought : List ℕ → Totals
brought rec = brought_as (read_status (field_of rec 19)) (amount_of rec 16) (amount_of rec 17)

-- two totals together, kind by kind
abbrev pub plus_totals : Totals → Totals → Totals
plus_totals s t = totals (s.live + t.live) (s.cancelled + t.cancelled) (s.cash.0 + t.cash.0) (s.price.0 + t.price.0)

-- totals with a record more
abbrev pub with_record : Totals → List ℕ → Totals
with_record t rec = plus_totals t (brought rec)

-- over the first n records
unfoldable pub totals_over : List ℕ → ℕ → Totals
totals_over file zero = no_totals
totals_over file (suc n) = with_record (totals_over file n) (record_at file n)

-- ---- the answer, `FileAnswer`: code, number of the record and place of the first break, or 0, 0, 0 and the totals
abbrev pub refused : ℕ → ℕ → ℕ → FileAnswer
refused c r p = record { code = c; number = r; place = p; totals = no_totals }

abbrev pub passed : Totals → FileAnswer
passed t = record { code = 0; number = 0; place = 0; totals = t }

-- of what a call gives: the totals, or the first break with the paper's code and place
abbrev pub file_answered : Result Totals Break → FileAnswer
file_answered (Ok t) = passed t
file_answered (Err b) = refused (answer_of b.refusal).code b.number (answer_of b.refusal).place

-- record i breaks a rule, or else what comes behind
abbrev pub line_or : Known → List ℕ → ℕ → FileAnswer → FileAnswer
line_or known file i behind =
    cond (eqb (line_answer known file i).code 0) behind (refused (line_answer known file i).code (i + 1) (line_answer known file i).place)

-- the first break in n records from i on, or else the answer `good`
unfoldable pub break_from : Known → List ℕ → FileAnswer → ℕ → ℕ → FileAnswer
break_from known file good zero i = good
break_from known file good (suc n) i = line_or known file i (break_from known file good n (i + 1))

abbrev pub records_in : List ℕ → ℕ
records_in file = length file / 401

unfoldable pub file_answer : Known → List ℕ → FileAnswer
file_answer known file =
    cond (eqb (length file % 401) 0)
    (cond (leb (records_in file) 999)
    (break_from known file (passed (totals_over file (records_in file))) (records_in file) 0)
    (refused 213 0 0))
    (refused 211 0 0)

-- ---- what the file check answers under a lent table of postcodes: 238 first
abbrev pub table_refused : FileAnswer
table_refused = refused wrong_table.code 0 wrong_table.place

unfoldable pub file_check : List ℕ → List ℕ → FileAnswer
file_check psc file = cond (right_table psc) (file_answer (holds psc) file) table_refused
