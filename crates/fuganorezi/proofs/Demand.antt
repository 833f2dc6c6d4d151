-- Demand 3 and refusals for C: a run of the functions for C is a run of the batch's calls, in C's structs.
-- Assumes nothing.
use Prim.Native.Nat.{ℕ}
use mathlib.Core.Path.{◌≡◌, ap}
use mathlib.Core.List.{List, [], ◌∷◌, map}
use lib.ListN.{length}
use Rattle.batch.specs.Batch.{Batch, batch_of, Call, Open, Called}
use Rattle.batch.specs.History.{GoodLengths}
use Rattle.batch.specs.Demand.{RunOfCalls}
use Rattle.batch.proofs.Demand.{demand_3, refusals_change_nothing}
use Rattle.fuganorezi.specs.declared.BatchOutcome.{BatchOutcome}
use Rattle.fuganorezi.specs.Calls.{counts_in, counts_out, BatchCalled}
use Rattle.fuganorezi.specs.Demand.{CallersBatch, batch_in, answer_in, left_in_c, RunInC, Demand3InC, ChangesNothingInC}

-- ---- the batch's promise from the one in C's structs
called_in : (table : List ℕ) (b : Batch) (call : Call) (r : BatchOutcome) (file journal : List ℕ) → BatchCalled table b call r file journal → Called table b call (answer_in r) (counts_in r.counts) file journal
called_in table b call r file journal p =
    record {
      answers = ap answer_in p.outcome;
      counted = ap (λ (o : BatchOutcome). counts_in o.counts) p.outcome;
      filed = p.filed;
      journaled = p.journaled;
    }

run_in : (table : List ℕ) (calls : List Call) (outcomes : List BatchOutcome) (s e : CallersBatch) → RunInC table s calls outcomes e → RunOfCalls (Called table) (batch_in s) calls (map answer_in outcomes) (batch_in e)
run_in table [] [] s e run = ap batch_in run
run_in table [] (r ∷ outcomes) s e run = absurd run
run_in table (call ∷ calls) [] s e run = absurd run
run_in table (call ∷ calls) (r ∷ outcomes) s e run =
    let o = run.0 in (
      record { left = batch_in (left_in_c o); promised = called_in table _ call r o.file o.journal o.promised },
      run_in table calls outcomes (left_in_c o) e run.1,
    )

pub demand_3_in_c : (table : List ℕ) (s e : CallersBatch) (calls : List Call) (r : BatchOutcome) (outcomes : List BatchOutcome) → GoodLengths (length s.file) (length s.journal)
    → RunInC table s (Open ∷ calls) (r ∷ outcomes) e → Demand3InC table (length s.file) (length s.journal) calls r outcomes e
demand_3_in_c table s e calls r outcomes g run =
    let d = demand_3 table (batch_in s) (batch_in e) calls (answer_in r) (map answer_in outcomes) g (run_in table (Open ∷ calls) (r ∷ outcomes) s e run) in
    record {
      opens = d.opens;
      answered = d.answered;
      file = ap (λ (b : Batch). b.file) d.leaves;
      journal = ap (λ (b : Batch). b.journal) d.leaves;
      counts = ap (λ (b : Batch). counts_out b.counts) d.leaves;
    }

-- ---- refusals, whatever the caller holds
pub refusals_change_nothing_in_c : (table : List ℕ) (s : CallersBatch) (call : Call) (r : BatchOutcome) (file journal : List ℕ) → BatchCalled table (batch_in s) call r file journal → (r.code ≡ 0 → ⊥)
    → ChangesNothingInC s call (record { file = file; journal = journal; counts = r.counts })
refusals_change_nothing_in_c table s call r file journal p refused =
    let c = refusals_change_nothing table (batch_in s) call (answer_in r) (batch_of file journal (counts_in r.counts)) (called_in table _ call r file journal p) refused in
    record {
      file = c.file;
      journal = c.journal;
      counts = λ other. ap counts_out (c.counts other);
      counts_of_opening = λ is. ap counts_out (c.counts_of_opening is);
    }
