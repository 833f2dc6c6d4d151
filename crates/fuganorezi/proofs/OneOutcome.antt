-- One outcome only: two that satisfy the promise of a function for C are the same, the caller's array and both buffers included.
-- Assumes nothing.
use Prim.Native.Nat.{ℕ}
use mathlib.Core.Path.{◌≡◌, sym, ap, ap₂, ◌∙◌}
use mathlib.Core.Bool.{Bool}
use mathlib.Core.List.{List}
use Rattle.text.specs.declared.Answer.{Answer}
use Rattle.text.specs.Answers.{answer}
use Rattle.text.proofs.OneOutcome.{gives_once}
use Rattle.fields.specs.Calls as Fields
use Rattle.posting.specs.declared.FileAnswer.{FileAnswer}
use Rattle.batch.specs.Batch.{Batch, Call}
use Rattle.fuganorezi.specs.declared.TableOutcome.{TableOutcome}
use Rattle.fuganorezi.specs.declared.BatchOutcome.{BatchOutcome}
use Rattle.fuganorezi.specs.declared.CodeAndPlace.{CodeAndPlace}
use Rattle.fuganorezi.specs.declared.IdentifierParts.{IdentifierParts}
use Rattle.fuganorezi.specs.declared.IdentifierOutcome.{IdentifierOutcome}
use Rattle.fuganorezi.specs.declared.RecordOutcome.{RecordOutcome}
use Rattle.fuganorezi.specs.Calls.{IdentifierChecked, IdentifierRead, RecordChecked, answer_of, IdentifierWritten, TableRead, Answered, BatchCalled}

pub identifier_checked_once : (id : List ℕ) (r s : ℕ) → IdentifierChecked id r → IdentifierChecked id s → r ≡ s
identifier_checked_once id r s = gives_once _ r s

pub identifier_read_once : (id : List ℕ) (r s : IdentifierOutcome) → IdentifierRead id r → IdentifierRead id s → r ≡ s
identifier_read_once id r s = gives_once _ r s

pub record_checked_once : (to_be_posted : Bool) (table rec : List ℕ) (r s : RecordOutcome) → RecordChecked to_be_posted table rec r → RecordChecked to_be_posted table rec s → r ≡ s
record_checked_once to_be_posted table rec r s = gives_once _ r s

-- ---- an answer by value is settled by the answer
by_value_once : (r s : CodeAndPlace) → answer_of r ≡ answer_of s → r ≡ s
by_value_once r s = ap (λ (a : Answer). record { code = a.code; place = a.place })

pub identifier_written_once : (before : List ℕ) (p : IdentifierParts) (r s : CodeAndPlace) (after after' : List ℕ)
    → IdentifierWritten before p r after → IdentifierWritten before p s after' → (r ≡ s) × (after ≡ after')
identifier_written_once before p r s after after' u v = (by_value_once r s (u.answers ∙ sym v.answers), gives_once _ after after' u.bytes v.bytes)

-- of the amount's writer and of the weight's
pub number_written_once : (width : ℕ) (has : Bool) (text before : List ℕ) (r s : CodeAndPlace) (after after' : List ℕ)
    → Fields.Written width has text before (answer_of r) after → Fields.Written width has text before (answer_of s) after' → (r ≡ s) × (after ≡ after')
number_written_once width has text before r s after after' u v = (by_value_once r s (u.answers ∙ sym v.answers), gives_once _ after after' u.bytes v.bytes)

-- ---- of the file check and of the closing check
pub answered_once : (a : FileAnswer) (r s : ℕ) (out out' : List ℕ) → Answered a r out → Answered a s out' → (r ≡ s) × (out ≡ out')
answered_once a r s out out' u v = (gives_once _ r s u.code v.code, gives_once _ out out' u.numbers v.numbers)

pub batch_called_once : (table : List ℕ) (b : Batch) (call : Call) (r s : BatchOutcome) (file file' journal journal' : List ℕ)
    → BatchCalled table b call r file journal → BatchCalled table b call s file' journal' → (r ≡ s) × (file ≡ file') × (journal ≡ journal')
batch_called_once table b call r s file file' journal journal' u v = (
  gives_once _ r s u.outcome v.outcome,
  gives_once _ file file' u.filed v.filed,
  gives_once _ journal journal' u.journaled v.journaled,
)

-- ---- of reading a table
pub table_read_once : (text before : List ℕ) (r s : TableOutcome) (after after' : List ℕ) → TableRead text before r after → TableRead text before s after' → (r ≡ s) × (after ≡ after')
table_read_once text before r s after after' u v = (
  outcome_once (u.answers ∙ sym v.answers) (u.counts ∙ sym v.counts),
  gives_once _ after after' u.entries v.entries,
)
  where
    outcome_once : answer r.code r.place ≡ answer s.code s.place → r.entries ≡ s.entries → r ≡ s
    outcome_once same many = ap₂ (λ (x : Answer) (n : ℕ). record { code = x.code; place = x.place; entries = n }) same many
