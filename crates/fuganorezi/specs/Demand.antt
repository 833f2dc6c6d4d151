-- Demand 3 for C: a run of the batch's functions, each given the buffers and the counts that the last one left; and refusals.
-- Both are shown in `proofs/Demand`.
-- Assumes nothing.
use Rattle.std.specs.Prelude.{ℕ, ◌≡◌, List, [], ◌∷◌, map}
use Rattle.text.specs.declared.Answer.{Answer}
use Rattle.text.specs.Answers.{answer, accepted}
use Rattle.batch.specs.Batch.{Batch, batch_of, no_counts, Call, Open, made}
use Rattle.batch.specs.Demand.{given_to, answers_under, standing_under}
use Rattle.fuganorezi.specs.declared.BatchCounts.{BatchCounts}
use Rattle.fuganorezi.specs.declared.BatchOutcome.{BatchOutcome}
use Rattle.fuganorezi.specs.Calls.{counts_in, counts_out, BatchCalled}

-- ---- what the caller holds between two calls, and the batch that it stands for
pub record CallersBatch : Type 0 where
  pub file : List ℕ
  pub journal : List ℕ
  pub counts : BatchCounts

abbrev pub batch_in : CallersBatch → Batch
batch_in s = batch_of s.file s.journal (counts_in s.counts)

-- code and place as numbers
abbrev pub answer_in : BatchOutcome → Answer
answer_in r = answer r.code r.place

-- ---- a run of calls
-- an outcome that keeps the promise of the function for C: the buffers that it leaves
pub record PromisedInC (table : List ℕ) (s : CallersBatch) (call : Call) (r : BatchOutcome) : Type 0 where
  pub file : List ℕ
  pub journal : List ℕ
  pub promised : BatchCalled table (given_to call (batch_in s)) call r file journal

abbrev pub left_in_c : {table : List ℕ} {s : CallersBatch} {call : Call} {r : BatchOutcome} → PromisedInC table s call r → CallersBatch
left_in_c {table} {s} {call} {r} o = record { file = o.file; journal = o.journal; counts = r.counts }

-- from s these calls, each under the same table of postcodes, gave these outcomes and left e
abbrev pub RunInC : List ℕ → CallersBatch → List Call → List BatchOutcome → CallersBatch → Type 0
RunInC table s [] [] e = e ≡ s
RunInC table s [] (r ∷ outcomes) e = ⊥
RunInC table s (call ∷ calls) [] e = ⊥
RunInC table s (call ∷ calls) (r ∷ outcomes) e = (o : PromisedInC table s call r) × RunInC table (left_in_c o) calls outcomes e

-- ---- demand 3, of a run of an opening and these calls: the answers are those that the rules give, and the buffers and counts what the standing actions make
abbrev pub made_by_rules : List ℕ → ℕ → ℕ → List Call → Batch
made_by_rules table n m calls = made n m (standing_under table n m calls)

pub record Demand3InC (table : List ℕ) (n m : ℕ) (calls : List Call) (opening : BatchOutcome) (outcomes : List BatchOutcome) (e : CallersBatch) : Type 0 where
  pub opens : answer_in opening ≡ accepted
  pub answered : map answer_in outcomes ≡ answers_under table n m calls
  pub file : e.file ≡ (made_by_rules table n m calls).file
  pub journal : e.journal ≡ (made_by_rules table n m calls).journal
  pub counts : e.counts ≡ counts_out (made_by_rules table n m calls).counts

-- ---- a refusal changes nothing and gives back the counts it got; a refused opening gives zero counts
pub record ChangesNothingInC (s : CallersBatch) (call : Call) (e : CallersBatch) : Type 0 where
  pub file : e.file ≡ s.file
  pub journal : e.journal ≡ s.journal
  pub counts : (call ≡ Open → ⊥) → e.counts ≡ s.counts
  pub counts_of_opening : call ≡ Open → e.counts ≡ counts_out no_counts
