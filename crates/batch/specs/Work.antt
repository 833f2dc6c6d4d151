-- What the private functions of the calls ask and promise: the work of an action on the bytes of a batch in which something stands.
-- No promise of a public call speaks of it.
-- Assumes nothing.
use Rattle.std.specs.Prelude.{ℕ, ◌+◌, ◌*◌, ◌≤◌, ◌<◌, true, cond, ◌≡◌, List, [], length, eqb, leb, Result, Ok, Err, Option}
use Rattle.text.specs.declared.Answer.{Answer}
use Rattle.text.specs.declared.Refusal.{Refusal}
use Rattle.text.specs.Answers.{answer, answer_of, answered, accepted, or_else, wrong_length}
use Rattle.text.specs.Lists.{overlay}
use Rattle.psc.specs.Table.{right_table, Known}
use Rattle.psc.specs.Search.{found}
use Rattle.ident.specs.declared.consignor.Consignor.{Consignor}
use Rattle.posting.specs.declared.Totals.{Totals}
use Rattle.posting.specs.Bounds.{Small}
use Rattle.posting.specs.File.{record_at, totals_over}
use Rattle.posting.specs.Sums.{cash_in, price_in}
use Rattle.batch.specs.declared.Counts.{Counts}
use Rattle.batch.specs.declared.test.Finding.{Finding}
use Rattle.batch.specs.Places.{place_of, id_of, action_answer, action_file, action_held, one_live_more, one_cancelled, amounts_replaced}
use Rattle.batch.specs.Entries.{body_length, entry_length, entry}
use Rattle.batch.specs.Batch.{Batch, batch_of, counts_of, counts_or, Call, Open, answer_under}
use Rattle.batch.specs.Test.{Found}

-- ---- the answer to an action, and what an accepted one leaves
-- an action of this kind: 236, then its own refusals, then 231
unfoldable pub entry_answer : Known → Batch → Option Consignor → ℕ → List ℕ → Answer
entry_answer known b seen kind body =
    cond (eqb (length body) (body_length kind))
    (or_else (action_answer known b.file b.counts.held seen kind body)
    (cond (leb (b.counts.used + entry_length kind) (length b.journal)) accepted (answer 231 0)))
    wrong_length

-- the totals by what stands at the place that the action touches
abbrev pub action_totals : Batch → ℕ → List ℕ → Totals
action_totals b kind body =
    cond (eqb kind 1) (one_live_more b.counts.totals (cash_in body) (price_in body))
    (cond (eqb kind 3)
    (amounts_replaced b.counts.totals (cash_in (record_at b.file (place_of b.file (id_of body) b.counts.held))) (price_in (record_at b.file (place_of b.file (id_of body) b.counts.held))) (cash_in body) (price_in body))
    (one_cancelled b.counts.totals (cash_in (record_at b.file (place_of b.file body b.counts.held))) (price_in (record_at b.file (place_of b.file body b.counts.held)))))

unfoldable pub entered : Batch → ℕ → List ℕ → Batch
entered b kind body =
    batch_of (action_file b.file b.counts.held kind body)
    (overlay b.journal b.counts.used (entry kind body))
    (counts_of (action_totals b kind body) (action_held b.counts.held kind) (b.counts.used + entry_length kind))

-- ---- what every call but opening meets first, under a lent table: 235, 238 or 237; or the table is right, and what stands by looking up in it, the first
-- consignor that its records name, and where the latest entry starts
pub record Passed (psc : List ℕ) (b : Batch) (seen : Option Consignor) (last : ℕ) : Type 0 where
  pub right : right_table psc ≡ true
  pub found : Found (found psc) b seen last

pub record Guarded (psc : List ℕ) (b : Batch) (r : Result Finding Refusal) : Type 0 where
  pub if_so : (f : Finding) → r ≡ Ok f → Passed psc b f.seen f.last
  pub if_not : (e : Refusal) → r ≡ Err e → (call : Call) → (call ≡ Open → ⊥) → answer_under psc b call ≡ answer_of e

-- ---- the work of an action
-- an action that is accepted, by whatever postcodes exist and behind whatever consignor, with a body of its kind's length
pub record Acceptable (file : List ℕ) (held kind : ℕ) (body : List ℕ) : Type 0 where
  pub few : held ≤ 999
  pub fits : held * 401 ≤ length file
  pub sized : length body ≡ body_length kind
  pub known : Known
  pub seen : Option Consignor
  pub accepts : (action_answer known file held seen kind body).code ≡ 0

-- counts that fit buffers of the right lengths
pub record Ready (file journal : List ℕ) (c : Counts) : Type 0 where
  pub few : c.held ≤ 999
  pub fits : c.held * 401 ≤ length file
  pub within : c.used ≤ length journal
  pub totals : c.totals ≡ totals_over file c.held
  pub bounded : length file ≤ 400599
  pub room : length journal ≤ 1048576

-- the counts behind an action of this kind
unfoldable pub counts_after : List ℕ → Counts → ℕ → List ℕ → Counts
counts_after file c kind body =
    counts_of (action_totals (batch_of file [] c) kind body) (action_held c.held kind) (c.used + entry_length kind)

pub record Countable (file : List ℕ) (c : Counts) (kind : ℕ) (body : List ℕ) : Type 0 where
  pub acceptable : Acceptable file c.held kind body
  pub small : Small c.totals
  pub room : c.used + 403 < 2000000

-- what the work of an action leaves
pub record Worked (known : Known) (file journal : List ℕ) (c : Counts) (seen : Option Consignor) (kind : ℕ) (body : List ℕ) (r : Result Counts Refusal) (file' journal' : List ℕ) : Type 0 where
  pub answers : answered r ≡ entry_answer known (batch_of file journal c) seen kind body
  pub leaves : batch_of file' journal' (counts_or c r) ≡ cond (eqb (entry_answer known (batch_of file journal c) seen kind body).code 0) (entered (batch_of file journal c) kind body) (batch_of file journal c)
