-- The calls of the open batch, in the paper's words: the list of actions that stands in a batch, one `answer_to` and one `after` for all calls.
-- How a call finds the list out is nobody's business but its proof's.
-- Assumes nothing.
use Rattle.std.specs.Prelude.{ℕ, ◌-◌, ◌%◌, Bool, true, false, cond, not, ◌&&◌, ◌≡◌, List, [], ◌∷◌, ◌++◌, length, take, replicate, eqb, leb, Result, Ok, Err}
use Rattle.std.proofs.Math.Option.{Option, none, some}
use Rattle.text.specs.declared.Answer.{Answer}
use Rattle.text.specs.declared.Refusal.{Refusal}
use Rattle.text.specs.Answers.{answer, accepted}
use Rattle.text.specs.Lists.{same_bytes}
use Rattle.psc.specs.Table.{right_table, wrong_table, holds}
use Rattle.posting.specs.declared.Totals.{Totals}
use Rattle.posting.specs.File.{no_totals}
use Rattle.posting.specs.Records.{lines_of}
use Rattle.posting.specs.Sums.{totals_of}
use Rattle.batch.specs.declared.Counts.{Counts}
use Rattle.batch.specs.Actions.{Action, Addition, Amendment, Cancellation, entries_of, actions_in}
use Rattle.batch.specs.Records.{records_of}
use Rattle.batch.specs.Rules.{Verdict, posted, rule_behind, in_turn}

-- ---- a batch: two lent buffers and the counts
pub record Batch : Type 0 where
  pub file : List ℕ
  pub journal : List ℕ
  pub counts : Counts

abbrev pub batch_of : List ℕ → List ℕ → Counts → Batch
batch_of file journal counts = record { file = file; journal = journal; counts = counts }

abbrev pub counts_of : Totals → ℕ → ℕ → Counts
counts_of t held used = record { totals = t; held = held; used = used }

-- the counts behind a call: those that it gives, or where it refuses those that it got
abbrev pub counts_or : Counts → Result Counts Refusal → Counts
counts_or c (Ok d) = d
counts_or c (Err e) = c

abbrev pub no_counts : Counts
no_counts = counts_of no_totals 0 0

pub data Call : Type 0 where
  Open : Call
  Add : List ℕ → Call
  Amend : List ℕ → Call
  Cancel : List ℕ → Call
  Undo : Call

-- 235: a file buffer whose length is a multiple of 401 from 401 to 400,599, and a journal of 403 to 1,048,576 bytes
unfoldable pub right_lengths : ℕ → ℕ → Bool
right_lengths n m = eqb (n % 401) 0 && leb 401 n && leb n 400599 && leb 403 m && leb m 1048576

-- ---- what a journal stands for: the actions, the earliest first
pub record State : Type 0 where
  pub actions : List Action

abbrev pub state : List Action → State
state xs = record { actions = xs }

-- ---- what it makes of two buffers of n and m bytes: its records and its entries, one behind the other, zeros behind them, and the counts
abbrev pub zeros : ℕ → List ℕ
zeros n = replicate n 0

abbrev pub zero_filled : ℕ → List ℕ → List ℕ
zero_filled n s = s ++ zeros (n - length s)

unfoldable pub made : ℕ → ℕ → State → Batch
made n m s =
    batch_of (zero_filled n (lines_of (records_of s.actions)))
    (zero_filled m (entries_of s.actions))
    (counts_of (totals_of (records_of s.actions)) (length (records_of s.actions)) (length (entries_of s.actions)))

-- ---- the answer that the rules give where these actions stand
-- undo: 234 where none stands
abbrev pub undo_rule : List Action → Answer
undo_rule [] = answer 234 0
undo_rule (a ∷ xs) = accepted

unfoldable pub rules : Verdict → ℕ → ℕ → State → Call → Answer
rules v n m s Open = accepted
rules v n m s (Add rec) = rule_behind v n m s.actions (Addition rec)
rules v n m s (Amend rec) = rule_behind v n m s.actions (Amendment rec)
rules v n m s (Cancel id) = rule_behind v n m s.actions (Cancellation id)
rules v n m s Undo = undo_rule s.actions

-- ---- what stands after an accepted call
abbrev pub without_latest : List Action → List Action
without_latest [] = []
without_latest (a ∷ []) = []
without_latest (a ∷ b ∷ xs) = a ∷ without_latest (b ∷ xs)

abbrev pub with : State → Action → State
with s a = state (s.actions ++ a ∷ [])

abbrev pub next : State → Call → State
next s Open = state []
next s (Add rec) = with s (Addition rec)
next s (Amend rec) = with s (Amendment rec)
next s (Cancel id) = with s (Cancellation id)
next s Undo = state (without_latest s.actions)

-- ---- what stands in a batch: the actions that the used journal bytes print, if the lengths are right, each is acceptable in its turn, and file, journal and
-- counts are what they make; else none
abbrev pub same_totals : Totals → Totals → Bool
same_totals s t = eqb s.live t.live && eqb s.cancelled t.cancelled && eqb s.cash.0 t.cash.0 && eqb s.price.0 t.price.0

abbrev pub same_counts : Counts → Counts → Bool
same_counts c d = same_totals c.totals d.totals && eqb c.held d.held && eqb c.used d.used

abbrev pub same_batch : Batch → Batch → Bool
same_batch b e = same_bytes b.file e.file && same_bytes b.journal e.journal && same_counts b.counts e.counts

abbrev pub file_length : Batch → ℕ
file_length b = length b.file

abbrev pub journal_length : Batch → ℕ
journal_length b = length b.journal

unfoldable pub standing : Verdict → Batch → Option (List Action) → Option State
standing v b none = none
standing v b (some xs) =
    cond (right_lengths (file_length b) (journal_length b) && in_turn v (file_length b) (journal_length b) xs && same_batch b (made (file_length b) (journal_length b) (state xs)))
    (some (state xs)) none

abbrev pub stands_in : Verdict → Batch → Option State
stands_in v b = standing v b (actions_in (take b.counts.used b.journal))

-- that is, exactly these (`proofs/Standing: stands_exactly`)
pub record Stands (v : Verdict) (b : Batch) (s : State) : Type 0 where
  pub lengths : right_lengths (file_length b) (journal_length b) ≡ true
  pub turns : in_turn v (file_length b) (journal_length b) s.actions ≡ true
  pub is : b ≡ made (file_length b) (journal_length b) s

-- ---- the answer: 235; where nothing stands 237, but an opening asks for the lengths alone; else by the rules
abbrev pub ruled : Verdict → ℕ → ℕ → Option State → Call → Answer
ruled v n m (some s) call = rules v n m s call
ruled v n m none Open = accepted
ruled v n m none (Add rec) = answer 237 0
ruled v n m none (Amend rec) = answer 237 0
ruled v n m none (Cancel id) = answer 237 0
ruled v n m none Undo = answer 237 0

unfoldable pub answer_to : Verdict → Batch → Call → Answer
answer_to v b call =
    cond (right_lengths (file_length b) (journal_length b)) (ruled v (file_length b) (journal_length b) (stands_in v b) call) (answer 235 0)

-- ---- the batch afterwards
-- where nothing stands, only an opening is accepted
abbrev pub next_of : Option State → Call → State
next_of (some s) call = next s call
next_of none call = state []

-- refusals change nothing and give back the counts they got; a refused opening gives zero counts
abbrev pub unchanged : Batch → Call → Batch
unchanged b Open = batch_of b.file b.journal no_counts
unchanged b (Add rec) = b
unchanged b (Amend rec) = b
unchanged b (Cancel id) = b
unchanged b Undo = b

unfoldable pub after : Verdict → Batch → Call → Batch
after v b call =
    cond (eqb (answer_to v b call).code 0) (made (file_length b) (journal_length b) (next_of (stands_in v b) call)) (unchanged b call)

-- ---- what every call promises: this answer, and counts, file and journal at exit as this batch has them
pub record Promised (a : Answer) (left : Batch) (r : Answer) (counts : Counts) (file journal : List ℕ) : Type 0 where
  pub answers : r ≡ a
  pub counted : counts ≡ left.counts
  pub filed : file ≡ left.file
  pub journaled : journal ≡ left.journal

-- under a verdict
abbrev pub CalledBy : Verdict → Batch → Call → Answer → Counts → List ℕ → List ℕ → Type 0
CalledBy v b call = Promised (answer_to v b call) (after v b call)

-- ---- under the record's own verdict and a lent table of postcodes, which every call but opening takes
abbrev pub takes_table : Call → Bool
takes_table Open = false
takes_table (Add rec) = true
takes_table (Amend rec) = true
takes_table (Cancel id) = true
takes_table Undo = true

-- 238, straight after 235: the table is wrong
abbrev pub meets_wrong_table : List ℕ → Batch → Call → Bool
meets_wrong_table psc b call = takes_table call && (right_lengths (file_length b) (journal_length b) && not (right_table psc))

unfoldable pub answer_under : List ℕ → Batch → Call → Answer
answer_under psc b call = cond (meets_wrong_table psc b call) wrong_table (answer_to (posted (holds psc)) b call)

unfoldable pub after_under : List ℕ → Batch → Call → Batch
after_under psc b call = cond (meets_wrong_table psc b call) (unchanged b call) (after (posted (holds psc)) b call)

abbrev pub Called : List ℕ → Batch → Call → Answer → Counts → List ℕ → List ℕ → Type 0
Called psc b call = Promised (answer_under psc b call) (after_under psc b call)

-- an opening takes no table: what it promises holds under any
abbrev pub Opened : Batch → Answer → Counts → List ℕ → List ℕ → Type 0
Opened b r counts file journal = (psc : List ℕ) → Called psc b Open r counts file journal
