-- One outcome only: each call of the batch promises an answer and the batch that is left, and two outcomes that satisfy it are the same, both buffers
-- included.
-- Assumes nothing.
use Prim.Native.Nat.{ℕ}
use mathlib.Core.Path.{◌≡◌, sym, ap}
use mathlib.Core.List.{List}
use Rattle.std.specs.Prelude.{Result, Ok, Err}
use Rattle.text.specs.declared.Answer.{Answer}
use Rattle.text.specs.declared.Refusal.{Refusal}
use Rattle.text.specs.Answers.{answered}
use Rattle.text.proofs.Refusals.{answer_once, not_accepted}
use Rattle.text.proofs.OneOutcome.{gives_once}
use Rattle.batch.specs.declared.Counts.{Counts}
use Rattle.batch.specs.Batch.{Batch, counts_or, Promised}

-- what a call gives is settled by its answer and the counts behind it
result_once : (k : Counts) (r s : Result Counts Refusal) → answered r ≡ answered s → counts_or k r ≡ counts_or k s → r ≡ s
result_once k (Ok c) (Ok d) answers counts = ap Ok counts
result_once k (Ok c) (Err e) answers counts = absurd (not_accepted e answers)
result_once k (Err e) (Ok c) answers counts = absurd (not_accepted e (sym answers))
result_once k (Err e) (Err f) answers counts = ap Err (answer_once e f answers)

-- of `Promised`, so of `Called`, and of `CalledBy` under any verdict
pub promised_once : (a : Answer) (left : Batch) (r s : Answer) (c d : Counts) (file file' journal journal' : List ℕ)
    → Promised a left r c file journal → Promised a left s d file' journal' → (r ≡ s) × (c ≡ d) × (file ≡ file') × (journal ≡ journal')
promised_once a left r s c d file file' journal journal' u w = (
  gives_once _ r s u.answers w.answers,
  gives_once _ c d u.counted w.counted,
  gives_once _ file file' u.filed w.filed,
  gives_once _ journal journal' u.journaled w.journaled,
)

-- of what the calls give, where k are the counts that they get
pub called_once : (a : Answer) (left : Batch) (k : Counts) (r s : Result Counts Refusal) (file file' journal journal' : List ℕ)
    → Promised a left (answered r) (counts_or k r) file journal → Promised a left (answered s) (counts_or k s) file' journal' → (r ≡ s) × (file ≡ file') × (journal ≡ journal')
called_once a left k r s file file' journal journal' u w =
    let p = promised_once a left (answered r) (answered s) (counts_or k r) (counts_or k s) file file' journal journal' u w in
    (result_once k r s p.0 p.1, p.2, p.3)
