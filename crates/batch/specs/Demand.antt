-- Demand 3, over what the calls promise: a run of calls, each given what the last one left, and what the rules alone say of it.
-- Beside it what a refusal leaves, of any batch. Both are shown in `proofs/Demand`.
-- Assumes nothing.
use Rattle.std.specs.Prelude.{ℕ, true, cond, ◌≡◌, List, [], ◌∷◌, map}
use Rattle.text.specs.declared.Answer.{Answer}
use Rattle.text.specs.Answers.{accepted}
use Rattle.psc.specs.Table.{right_table, wrong_table, holds}
use Rattle.batch.specs.Rules.{Verdict, posted, in_turn}
use Rattle.batch.specs.declared.Counts.{Counts}
use Rattle.batch.specs.Batch.{Batch, batch_of, no_counts, Call, Open, Add, Amend, Cancel, Undo, State, state, made, takes_table}
use Rattle.batch.specs.History.{standing_by_rules, answers_by_rules}

-- ---- a run of calls
-- what a call is given of the batch: an opening takes no counts
abbrev pub given_to : Call → Batch → Batch
given_to Open b = batch_of b.file b.journal no_counts
given_to (Add rec) b = b
given_to (Amend rec) b = b
given_to (Cancel id) b = b
given_to Undo b = b

-- what calls promise: under a verdict `CalledBy v`, under a lent table of postcodes, the same one in every call, `Called psc`
abbrev pub Promise : Type 1
Promise = Batch → Call → Answer → Counts → List ℕ → List ℕ → Type 0

-- an outcome with this answer that keeps the promise of the call
pub record PromisedOutcome (P : Promise) (b : Batch) (call : Call) (r : Answer) : Type 0 where
  pub left : Batch
  pub promised : P (given_to call b) call r left.counts left.file left.journal

-- from b these calls gave these answers and left e
abbrev pub RunOfCalls : Promise → Batch → List Call → List Answer → Batch → Type 0
RunOfCalls P b [] [] e = e ≡ b
RunOfCalls P b [] (r ∷ answers) e = ⊥
RunOfCalls P b (call ∷ calls) [] e = ⊥
RunOfCalls P b (call ∷ calls) (r ∷ answers) e = (o : PromisedOutcome P b call r) × RunOfCalls P o.left calls answers e

-- ---- demand 3, of a run of an opening and calls, of which the rules say these answers and that s stands: what holds of every run holds of each beginning of it
pub record Demand3 (v : Verdict) (n m : ℕ) (said : List Answer) (s : State) (opening : Answer) (answers : List Answer) (e : Batch) : Type 0 where
  pub opens : opening ≡ accepted
  -- refused calls, undos and openings among them
  pub answered : answers ≡ said
  -- file, journal and counts, to the byte
  pub leaves : e ≡ made n m s
  -- each standing action is acceptable in its turn
  pub turns : in_turn v n m s.actions ≡ true

-- by the rules of a verdict
abbrev pub Demand3By : Verdict → ℕ → ℕ → List Call → Answer → List Answer → Batch → Type 0
Demand3By v n m calls = Demand3 v n m (answers_by_rules v n m calls) (standing_by_rules v n m calls)

-- by the rules under a right table; a wrong one refuses every call but an opening, and nothing ever stands
abbrev pub refused_by_table : Call → Answer
refused_by_table call = cond (takes_table call) wrong_table accepted

abbrev pub answers_under : List ℕ → ℕ → ℕ → List Call → List Answer
answers_under psc n m calls = cond (right_table psc) (answers_by_rules (posted (holds psc)) n m calls) (map refused_by_table calls)

abbrev pub standing_under : List ℕ → ℕ → ℕ → List Call → State
standing_under psc n m calls = cond (right_table psc) (standing_by_rules (posted (holds psc)) n m calls) (state [])

abbrev pub Demand3Under : List ℕ → ℕ → ℕ → List Call → Answer → List Answer → Batch → Type 0
Demand3Under psc n m calls = Demand3 (posted (holds psc)) n m (answers_under psc n m calls) (standing_under psc n m calls)

-- ---- a refusal changes nothing and gives back the counts it got; a refused opening gives zero counts, whatever it got
pub record ChangesNothing (b : Batch) (call : Call) (e : Batch) : Type 0 where
  pub file : e.file ≡ b.file
  pub journal : e.journal ≡ b.journal
  pub counts : (call ≡ Open → ⊥) → e.counts ≡ b.counts
  pub counts_of_opening : call ≡ Open → e.counts ≡ no_counts
