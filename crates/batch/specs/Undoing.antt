-- What the private functions of the way back ask and promise: the latest action is taken off file and counts, and nothing is made anew.
-- No promise of a public call speaks of them.
-- Assumes nothing.
use Rattle.std.specs.Prelude.{ℕ, ◌+◌, ◌-◌, ◌*◌, ◌≤◌, true, cond, ◌≡◌, List, [], ◌∷◌, length, set, take, drop, eqb, Option}
use Rattle.psc.specs.Table.{Known}
use Rattle.text.specs.Lists.{same_bytes, overlay}
use Rattle.ident.specs.declared.consignor.Consignor.{Consignor}
use Rattle.posting.specs.declared.Totals.{Totals}
use Rattle.posting.specs.Bounds.{Small}
use Rattle.posting.specs.File.{record_at, totals}
use Rattle.posting.specs.Sums.{cash_in, price_in}
use Rattle.batch.specs.declared.Counts.{Counts}
use Rattle.batch.specs.Actions.{Action, Addition, Amendment, Cancellation, all_sized, entries_of}
use Rattle.batch.specs.Records.{id_of, has_id}
use Rattle.batch.specs.Rules.{posted}
use Rattle.batch.specs.Batch.{batch_of, counts_of, State, state, zeros, made, without_latest, Stands}
use Rattle.batch.specs.Places.{record_number, place_of, with_line, amounts_replaced}
use Rattle.batch.specs.Test.{Found, record_from}

-- ---- the file: a place set to zero, and a status that is blank again
abbrev pub without_line : List ℕ → ℕ → List ℕ
without_line file k = overlay file (k * 401) (zeros 401)

abbrev pub with_blank : List ℕ → ℕ → List ℕ
with_blank file k = set (set file (k * 401 + 340) 32) (k * 401 + 341) 32

-- ---- the totals: one live less, and a cancelled one live again
abbrev pub one_live_less : Totals → ℕ → ℕ → Totals
one_live_less t d p = totals (t.live - 1) t.cancelled (t.cash.0 - d) (t.price.0 - p)

abbrev pub one_revived : Totals → ℕ → ℕ → Totals
one_revived t d p = totals (t.live + 1) (t.cancelled - 1) (t.cash.0 + d) (t.price.0 + p)

-- ---- the record before an amendment: the latest one with its identifier that the entries carry
-- with one entry more, and with all of a list
abbrev pub carried_by : List ℕ → List ℕ → Action → List ℕ
carried_by id old (Addition rec) = cond (has_id id rec) rec old
carried_by id old (Amendment rec) = cond (has_id id rec) rec old
carried_by id old (Cancellation other) = old

abbrev pub carried_from : List ℕ → List ℕ → List Action → List ℕ
carried_from id old [] = old
carried_from id old (a ∷ xs) = carried_from id (carried_by id old a) xs

-- where it starts: at `at` if the entry there carries a record with this identifier, else where it did
abbrev pub found_at : List ℕ → ℕ → ℕ → List ℕ → ℕ → ℕ
found_at journal at kind id found = cond (eqb kind 2) found (cond (same_bytes (take 13 (drop (at + 4) journal)) id) at found)

-- the entries up to `end` are those of a list
pub record Entries (journal : List ℕ) (end : ℕ) : Type 0 where
  pub acts : List Action
  pub sizes : all_sized acts ≡ true
  pub bytes : take end journal ≡ entries_of acts
  pub within : end ≤ length journal
  pub room : 403 ≤ length journal
  pub bounded : length journal ≤ 1048576

pub record RecordBefore (journal : List ℕ) (end : ℕ) (id : List ℕ) (r : ℕ) : Type 0 where
  pub all : Entries journal end
  pub is : record_from journal r ≡ carried_from id (record_from journal 0) all.acts
  pub within : r + 403 ≤ length journal

-- ---- one action taken off
-- the counts fit the file
pub record Holding (file : List ℕ) (c : Counts) : Type 0 where
  pub few : c.held ≤ 999
  pub places : c.held * 401 ≤ length file
  pub small : Small c.totals

-- there is a last place
pub record Added (file : List ℕ) (c : Counts) : Type 0 where
  pub holding : Holding file c
  pub some : 1 ≤ c.held

pub record AdditionOff (file : List ℕ) (c : Counts) (last : ℕ) (rec : List ℕ) (r : Counts) (file' : List ℕ) : Type 0 where
  pub filed : file' ≡ without_line file (c.held - 1)
  pub counted : r ≡ counts_of (one_live_less c.totals (cash_in rec) (price_in rec)) (c.held - 1) last

-- the consignment with this identifier is there
pub record Sought (file : List ℕ) (c : Counts) (id : List ℕ) : Type 0 where
  pub holding : Holding file c
  pub there : record_number file id c.held ≡ 0 → ⊥

abbrev pub at_place : List ℕ → Counts → List ℕ → List ℕ
at_place file c id = record_at file (place_of file id c.held)

pub record CancellationOff (file : List ℕ) (c : Counts) (last : ℕ) (id : List ℕ) (r : Counts) (file' : List ℕ) : Type 0 where
  pub filed : file' ≡ with_blank file (place_of file id c.held)
  pub counted : r ≡ counts_of (one_revived c.totals (cash_in (at_place file c id)) (price_in (at_place file c id))) c.held last

-- by the record before it
pub record Amended (file : List ℕ) (c : Counts) (old : List ℕ) : Type 0 where
  pub sought : Sought file c (id_of old)
  pub long : length old ≡ 399

pub record AmendmentOff (file : List ℕ) (c : Counts) (last : ℕ) (old : List ℕ) (r : Counts) (file' : List ℕ) : Type 0 where
  pub filed : file' ≡ with_line file (place_of file (id_of old) c.held) old
  pub counted : r ≡ counts_of (amounts_replaced c.totals (cash_in (at_place file c (id_of old))) (price_in (at_place file c (id_of old))) (cash_in old) (price_in old)) c.held last

-- ---- the latest action of a batch, whose entry starts at `last`, taken off
pub record Undoable (file journal : List ℕ) (c : Counts) (last : ℕ) : Type 0 where
  pub known : Known
  pub seen : Option Consignor
  pub found : Found known (batch_of file journal c) seen last
  pub some : c.used ≡ 0 → ⊥

pub record TakenBack (file journal : List ℕ) (c : Counts) (last : ℕ) (r : Counts) (file' : List ℕ) : Type 0 where
  pub filed : (known : Known) (s : State) → Stands (posted known) (batch_of file journal c) s → file' ≡ (made (length file) (length journal) (state (without_latest s.actions))).file
  pub counted : (known : Known) (s : State) → Stands (posted known) (batch_of file journal c) s → r ≡ (made (length file) (length journal) (state (without_latest s.actions))).counts
