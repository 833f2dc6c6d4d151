-- What C is promised: the numbers of the answers that the crates below define.
-- Assumes nothing.
use Rattle.std.specs.Prelude.{ℕ, List, length, Bool, cond, ◌≡◌, Option, None}
use Rattle.text.specs.Lists.{overlay}
use Rattle.text.specs.declared.Answer.{Answer}
use Rattle.text.specs.Answers.{answer, accepted}
use Rattle.ident.specs.declared.Parts.{Parts}
use Rattle.ident.specs.Identifier.{right_id}
use Rattle.ident.specs.declared.consignor.Consignor.{Consignor}
use Rattle.ident.specs.Calls as Ident
use Rattle.ident.specs.Consignor.{consignor_in, type_of, number_of}
use Rattle.fields.specs.declared.reading.Reading.TheVariants.{Value}
use Rattle.fields.specs.Calls as Fields
use Rattle.psc.specs.Text.{lines_in, table_in}
use Rattle.psc.specs.Calls.{read_answer, is_read}
use Rattle.record.specs.Rules.{check_answer}
use Rattle.record.specs.Consignors.{consignor_of}
use Rattle.posting.specs.declared.FileAnswer.{FileAnswer}
use Rattle.posting.specs.File.{totals, file_check}
use Rattle.posting.specs.Report.{numbers_of}
use Rattle.closing.specs.Closing.{closing_answer}
use Rattle.batch.specs.declared.Counts.{Counts}
use Rattle.batch.specs.Batch.{Batch, Call, Open, counts_of, answer_under, after_under}
use Rattle.fuganorezi.specs.declared.BatchCounts.{BatchCounts}
use Rattle.fuganorezi.specs.declared.BatchOutcome.{BatchOutcome}
use Rattle.fuganorezi.specs.declared.CodeAndPlace.{CodeAndPlace}
use Rattle.fuganorezi.specs.declared.TypeAndNumber.{TypeAndNumber}
use Rattle.fuganorezi.specs.declared.IdentifierOutcome.{IdentifierOutcome}
use Rattle.fuganorezi.specs.declared.RecordOutcome.{RecordOutcome}
use Rattle.fuganorezi.specs.declared.TableOutcome.{TableOutcome}
use Rattle.fuganorezi.specs.declared.IdentifierParts.{IdentifierParts}

-- the code of the identifier check
abbrev pub IdentifierChecked : List ℕ → ℕ → Type 0
IdentifierChecked s r = r ≡ cond (right_id s) accepted.code (Ident.not_right).code

-- ---- whose an identifier is, as two numbers, and what it says
abbrev pub consignor_out : Option Consignor → TypeAndNumber
consignor_out c = record { kind = type_of c; number = number_of c }

abbrev pub parts_out : Parts → IdentifierParts
parts_out p = record { first = p.first; second = p.second; last = p.last; consignor = p.consignor; posting = p.posting }

abbrev pub no_parts : IdentifierParts
no_parts = record { first = 0; second = 0; last = 0; consignor = 0; posting = 0 }

abbrev pub identifier_out : Answer → Option Consignor → IdentifierParts → IdentifierOutcome
identifier_out a c p = record { code = a.code; place = a.place; consignor = consignor_out c; parts = p }

-- of a right identifier its consignor and its parts; of anything else neither
abbrev pub IdentifierRead : List ℕ → IdentifierOutcome → Type 0
IdentifierRead s r = r ≡ cond (right_id s) (identifier_out accepted (consignor_in s) (parts_out (Ident.parts_of s))) (identifier_out Ident.not_right None no_parts)

-- ---- one record: the answer to it in a file, or to one to be posted, under a table of postcodes, and the consignor of field 1
abbrev pub record_out : Answer → Option Consignor → RecordOutcome
record_out a c = record { code = a.code; place = a.place; consignor = consignor_out c }

abbrev pub RecordChecked : Bool → List ℕ → List ℕ → RecordOutcome → Type 0
RecordChecked to_be_posted table rec r = r ≡ record_out (check_answer to_be_posted table rec) (consignor_of rec)

-- ---- the writers: an answer by value
abbrev pub answer_of : CodeAndPlace → Answer
answer_of r = answer r.code r.place

abbrev pub parts_in : IdentifierParts → Parts
parts_in p = record { first = p.first; second = p.second; last = p.last; consignor = p.consignor; posting = p.posting }

-- what the writers below promise of the answer and of the lent bytes `before` and `after`
abbrev pub IdentifierWritten : List ℕ → IdentifierParts → CodeAndPlace → List ℕ → Type 0
IdentifierWritten before p r after = Ident.Written before (parts_in p) (answer_of r) after

abbrev pub AmountWritten : List ℕ → ℕ → CodeAndPlace → List ℕ → Type 0
AmountWritten before hellers r after = Fields.MoneyWritten before (Value (record { 0 = hellers })) (answer_of r) after

abbrev pub WeightWritten : List ℕ → ℕ → CodeAndPlace → List ℕ → Type 0
WeightWritten before grams r after = Fields.WeightWritten before (Value (record { 0 = grams })) (answer_of r) after

-- ---- the table of postcodes: what reading its text promises, as below, its entries 0 where it is refused
pub record TableRead (text before : List ℕ) (r : TableOutcome) (after : List ℕ) : Type 0 where
  pub answers : answer r.code r.place ≡ read_answer text (length before)
  pub counts : r.entries ≡ cond (is_read text (length before)) (lines_in text) 0
  pub entries : after ≡ cond (is_read text (length before)) (overlay before 0 (table_in text)) before

-- ---- a whole file

-- of an answer to a file: its code, and in `out` all its seven numbers, whatever stood there
pub record Answered (a : FileAnswer) (r : ℕ) (out : List ℕ) : Type 0 where
  pub code : r ≡ a.code
  pub numbers : out ≡ numbers_of a

-- so of the file check, and of the closing check
abbrev pub FileChecked : List ℕ → List ℕ → ℕ → List ℕ → Type 0
FileChecked table file = Answered (file_check table file)

abbrev pub ClosingChecked : List ℕ → List ℕ → ℕ → List ℕ → Type 0
ClosingChecked table file = Answered (closing_answer table file)

-- ---- the batch: its counts and its outcome, in C's structs
abbrev pub counts_in : BatchCounts → Counts
counts_in c = counts_of (totals c.live c.cancelled c.cash c.price) c.held c.used

abbrev pub counts_out : Counts → BatchCounts
counts_out c =
    record {
      live = c.totals.live;
      cancelled = c.totals.cancelled;
      cash = c.totals.cash.0;
      price = c.totals.price.0;
      held = c.held;
      used = c.used;
    }

abbrev pub outcome_of : Answer → Counts → BatchOutcome
outcome_of a c = record { code = a.code; place = a.place; counts = counts_out c }

-- of a call under a table of postcodes: code, place and counts, and the file and the journal at exit
pub record BatchCalled (table : List ℕ) (b : Batch) (call : Call) (r : BatchOutcome) (file journal : List ℕ) : Type 0 where
  pub outcome : r ≡ outcome_of (answer_under table b call) (after_under table b call).counts
  pub filed : file ≡ (after_under table b call).file
  pub journaled : journal ≡ (after_under table b call).journal

-- an opening takes no table: what it promises holds under any
abbrev pub BatchOpened : Batch → BatchOutcome → List ℕ → List ℕ → Type 0
BatchOpened b r file journal = (table : List ℕ) → BatchCalled table b Open r file journal
