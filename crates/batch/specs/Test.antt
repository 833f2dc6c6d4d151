-- What the private functions of the test of the state ask and promise. No promise of a public call speaks of marks or of an index.
-- Assumes nothing.
use Rattle.std.specs.Prelude.{ℕ, zero, suc, ◌+◌, ◌*◌, ◌/◌, ◌%◌, ◌≤◌, ◌<◌, Bool, true, false, cond, ◌≡◌, List, [], length, get_or, set, take, drop, eqb, Option, Some, None}
use Rattle.psc.specs.Table.{Known}
use Rattle.ident.specs.declared.consignor.Consignor.{Consignor}
use Rattle.ident.specs.Identifier.{right_id}
use Rattle.ident.specs.Consignor.{another, or_named}
use Rattle.index.specs.Index.{key_at, seek}
use Rattle.index.specs.Laws.{Indexed}
use Rattle.record.specs.Readings.{cancelled_rec}
use Rattle.record.specs.Consignors.{consignor_of, first_of}
use Rattle.posting.specs.File.{line_of}
use Rattle.batch.specs.declared.Counts.{Counts}
use Rattle.batch.specs.declared.test.Walk.{Walk}
use Rattle.batch.specs.declared.test.Named.{Named}
use Rattle.batch.specs.declared.test.Reached.{Reached}
use Rattle.batch.specs.declared.test.Finding.{Finding}
use Rattle.batch.specs.Actions.{Action, Addition, Amendment, Cancellation, number_of, body_of, sized, entry_of, entries_of}
use Rattle.batch.specs.Records.{id_of, is_cancelled_rec, records_of}
use Rattle.batch.specs.Rules.{posted, in_turn}
use Rattle.batch.specs.Batch.{Batch, batch_of, right_lengths, State, without_latest, Stands}

-- ---- marks: where the entry of the latest record starts, twice, and one more where that is cancelled
abbrev pub odd : ℕ → Bool
odd k = eqb (k % 2) 1

abbrev pub record_from : List ℕ → ℕ → List ℕ
record_from journal at = take 399 (drop (at + 4) journal)

abbrev pub marked_record : List ℕ → ℕ → List ℕ
marked_record journal k = cond (odd k) (cancelled_rec (record_from journal (k / 2))) (record_from journal (k / 2))

-- ---- the records of the lent file that are noted, and a mark for each place
pub record Noted (file : List ℕ) (held : ℕ) (marks table : List ℕ) : Type 0 where
  pub few : held ≤ 999
  pub places : held * 401 ≤ length file
  pub marked : length file / 401 ≤ length marks
  pub noted : Indexed file 0 held table
  pub room : length file / 401 + 1 < length table
  pub small : (i : ℕ) → get_or marks i 0 / 2 ≤ 1048576
  pub bounds : length file ≤ 400599

-- what a walk looks up stays, and there are as many marks
abbrev pub Kept : Walk → Walk → Type 0
Kept old new = (new.file.now ≡ old.file.now) × (new.psc.now ≡ old.psc.now) × (length new.marks.now ≡ length old.marks.now)

-- the live consignment with an identifier
unfoldable pub live_from : List ℕ → ℕ → Option ℕ
live_from marks zero = None
live_from marks (suc k) = cond (odd (get_or marks k 0)) None (Some k)

abbrev pub live_in : List ℕ → ℕ → List ℕ → List ℕ → Option ℕ
live_in file held marks id = live_from marks (seek file 0 id held)

-- ---- an addition passes exactly so, behind records of which this consignor is the first that is named; it is then noted and marked, and its consignor seen
pub record Adds (known : Known) (file : List ℕ) (held : ℕ) (seen : Option Consignor) (rec : List ℕ) : Type 0 where
  pub room : held * 401 + 401 ≤ length file
  pub good : (posted known rec).code ≡ 0
  pub same : another seen (consignor_of rec) ≡ false
  pub own : key_at file 0 held ≡ id_of rec
  pub new : seek file 0 (id_of rec) held ≡ 0

pub record AddedNow (known : Known) (file : List ℕ) (held : ℕ) (seen : Option Consignor) (used : ℕ) (rec marks table : List ℕ) (seen' : Option Consignor) (marks' table' : List ℕ) : Type 0 where
  pub passes : Adds known file held seen rec
  pub now_seen : seen' ≡ or_named seen (consignor_of rec)
  pub now_marks : marks' ≡ set marks held (used * 2)
  pub noted : Indexed file 0 (held + 1) table'

pub record Added (known : Known) (file : List ℕ) (held : ℕ) (seen : Option Consignor) (used : ℕ) (rec marks table : List ℕ) (r : Option Named) (marks' table' : List ℕ) : Type 0 where
  pub if_so : (n : Named) → r ≡ Some n → AddedNow known file held seen used rec marks table n.seen marks' table'
  pub if_not : r ≡ None → Adds known file held seen rec → ⊥
  pub long : length table' ≡ length table

-- ---- an amendment, and a cancellation, of the live consignment at k
pub record Amends (known : Known) (file : List ℕ) (held : ℕ) (rec marks : List ℕ) (k : ℕ) : Type 0 where
  pub good : (posted known rec).code ≡ 0
  pub there : live_in file held marks (id_of rec) ≡ Some k

pub record AmendedNow (known : Known) (file : List ℕ) (held used : ℕ) (rec marks marks' : List ℕ) : Type 0 where
  pub place : ℕ
  pub passes : Amends known file held rec marks place
  pub now_marks : marks' ≡ set marks place (used * 2)

pub record Amended (known : Known) (file : List ℕ) (held used : ℕ) (rec marks : List ℕ) (r : Bool) (marks' : List ℕ) : Type 0 where
  pub if_so : r ≡ true → AmendedNow known file held used rec marks marks'
  pub if_not : r ≡ false → (k : ℕ) → Amends known file held rec marks k → ⊥

pub record Cancels (file : List ℕ) (held : ℕ) (id marks : List ℕ) (k : ℕ) : Type 0 where
  pub right : right_id id ≡ true
  pub there : live_in file held marks id ≡ Some k

pub record CancelledNow (file : List ℕ) (held : ℕ) (id marks marks' : List ℕ) : Type 0 where
  pub place : ℕ
  pub passes : Cancels file held id marks place
  pub now_marks : marks' ≡ set marks place (get_or marks place 0 + 1)

pub record Cancelled (file : List ℕ) (held : ℕ) (id marks : List ℕ) (r : Bool) (marks' : List ℕ) : Type 0 where
  pub if_so : r ≡ true → CancelledNow file held id marks marks'
  pub if_not : r ≡ false → (k : ℕ) → Cancels file held id marks k → ⊥

-- ---- an action at the entry that starts at `used`: what it meets, and what is marked and noted then
abbrev pub Meets : Known → List ℕ → ℕ → Option Consignor → List ℕ → Action → Type 0
Meets known file held seen marks (Addition rec) = Adds known file held seen rec
Meets known file held seen marks (Amendment rec) = (k : ℕ) × Amends known file held rec marks k
Meets known file held seen marks (Cancellation id) = (k : ℕ) × Cancels file held id marks k

abbrev pub marks_after : (known : Known) (file : List ℕ) (held : ℕ) (seen : Option Consignor) (used : ℕ) (marks : List ℕ) (a : Action) → Meets known file held seen marks a → List ℕ
marks_after known file held seen used marks (Addition rec) p = set marks held (used * 2)
marks_after known file held seen used marks (Amendment rec) p = set marks p.0 (used * 2)
marks_after known file held seen used marks (Cancellation id) p = set marks p.0 (get_or marks p.0 0 + 1)

abbrev pub held_after : ℕ → Action → ℕ
held_after held (Addition rec) = held + 1
held_after held (Amendment rec) = held
held_after held (Cancellation id) = held

abbrev pub seen_after : Option Consignor → Action → Option Consignor
seen_after seen (Addition rec) = or_named seen (consignor_of rec)
seen_after seen (Amendment rec) = seen
seen_after seen (Cancellation id) = seen

pub record Taken (known : Known) (file : List ℕ) (held : ℕ) (seen : Option Consignor) (used : ℕ) (marks : List ℕ) (a : Action) (seen' : Option Consignor) (marks' table' : List ℕ) : Type 0 where
  pub meets : Meets known file held seen marks a
  pub sees : seen' ≡ seen_after seen a
  pub left : marks' ≡ marks_after known file held seen used marks a meets
  pub noted : Indexed file 0 (held_after held a) table'

pub record Judged (known : Known) (file : List ℕ) (held : ℕ) (seen : Option Consignor) (used : ℕ) (marks : List ℕ) (a : Action) (r : Option Named) (marks' table' : List ℕ) : Type 0 where
  pub if_so : (n : Named) → r ≡ Some n → Taken known file held seen used marks a n.seen marks' table'
  pub if_not : r ≡ None → Meets known file held seen marks a → ⊥

-- of the action with this number and this body
pub record MarkedEntry (known : Known) (file : List ℕ) (held : ℕ) (seen : Option Consignor) (used number : ℕ) (body marks table : List ℕ) (r : Option Named) (marks' table' : List ℕ) : Type 0 where
  pub judges : (a : Action) → number_of a ≡ number → body_of a ≡ body → Judged known file held seen used marks a r marks' table'
  pub long : length table' ≡ length table

-- ---- one step of the walk through the journal
-- the entry of an action stands at `used`, and ends by `end`
pub record EntryAt (journal : List ℕ) (end used : ℕ) (a : Action) : Type 0 where
  pub size : sized a ≡ true
  pub bytes : take (length (entry_of a)) (drop used journal) ≡ entry_of a
  pub within : used + length (entry_of a) ≤ end

pub record StepTaken (known : Known) (file journal : List ℕ) (end held : ℕ) (seen : Option Consignor) (used : ℕ) (marks : List ℕ) (r : Reached) (marks' table' : List ℕ) : Type 0 where
  pub action : Action
  pub entry : EntryAt journal end used action
  pub taken : Taken known file held seen used marks action r.seen marks' table'
  pub holds : r.held ≡ held_after held action
  pub moves : r.used ≡ used + length (entry_of action)
  pub from : r.last ≡ used

pub record Stepped (known : Known) (file journal : List ℕ) (end held : ℕ) (seen : Option Consignor) (used : ℕ) (marks table : List ℕ) (r : Option Reached) (marks' table' : List ℕ) : Type 0 where
  pub if_so : (to : Reached) → r ≡ Some to → StepTaken known file journal end held seen used marks to marks' table'
  pub if_not : r ≡ None → (a : Action) → EntryAt journal end used a → Meets known file held seen marks a → ⊥
  pub long : length table' ≡ length table

pub record Stepping (file journal : List ℕ) (end held used : ℕ) (marks table : List ℕ) : Type 0 where
  pub marking : Noted file held marks table
  pub before : used ≤ end
  pub within : end ≤ length journal
  pub bounded : length journal ≤ 1048576

-- ---- the walk so far: the entries up to `used` are those of actions that are acceptable in their turn, and the marks name their records
pub record Walked (known : Known) (file journal : List ℕ) (held : ℕ) (seen : Option Consignor) (used last : ℕ) (marks table : List ℕ) : Type 0 where
  pub acts : List Action
  pub front : take used journal ≡ entries_of acts
  pub turns : in_turn (posted known) (length file) (length journal) acts ≡ true
  pub many : length (records_of acts) ≡ held
  pub first : seen ≡ first_of (records_of acts)
  pub named : (i : ℕ) → i < held → get_or (records_of acts) i [] ≡ marked_record journal (get_or marks i 0)
  pub struck : (i : ℕ) → i < held → is_cancelled_rec (get_or (records_of acts) i []) ≡ odd (get_or marks i 0)
  pub ids : (i : ℕ) → i < held → key_at file 0 i ≡ id_of (get_or (records_of acts) i [])
  pub latest : last ≡ length (entries_of (without_latest acts))
  pub marking : Noted file held marks table

-- the whole walk: up to `end`, or nothing stands in a batch with this file and journal and so many bytes used
pub record WalkedTo (known : Known) (file journal : List ℕ) (end : ℕ) (table : List ℕ) (r : Option Reached) (marks' table' : List ℕ) : Type 0 where
  pub if_so : (to : Reached) → r ≡ Some to → Walked known file journal to.held to.seen end to.last marks' table'
  pub if_not : r ≡ None → (c : Counts) → c.used ≡ end → (s : State) → Stands (posted known) (batch_of file journal c) s → ⊥

-- nothing is noted or marked yet
pub record Fresh (file journal : List ℕ) (end : ℕ) (marks table : List ℕ) : Type 0 where
  pub marking : Noted file 0 marks table
  pub within : end ≤ length journal
  pub bounded : length journal ≤ 1048576

-- ---- the lines of the file against the records that the marks name
pub record LineSame (line rec : List ℕ) (cancelled r : Bool) : Type 0 where
  pub if_so : r ≡ true → line ≡ line_of (cond cancelled (cancelled_rec rec) rec)
  pub if_not : r ≡ false → line ≡ line_of (cond cancelled (cancelled_rec rec) rec) → ⊥

pub record Marked (file journal : List ℕ) (held : ℕ) (marks : List ℕ) : Type 0 where
  pub few : held ≤ 999
  pub places : held * 401 ≤ length file
  pub marked : held ≤ length marks
  pub there : (i : ℕ) → i < held → get_or marks i 0 / 2 + 403 ≤ length journal
  pub bounded : length journal ≤ 1048576

abbrev pub LineAt : List ℕ → List ℕ → List ℕ → ℕ → Type 0
LineAt file journal marks i = take 401 (drop (i * 401) file) ≡ line_of (marked_record journal (get_or marks i 0))

pub record LinesSame (file journal : List ℕ) (held : ℕ) (marks : List ℕ) (r : Bool) : Type 0 where
  pub if_so : r ≡ true → (i : ℕ) → i < held → LineAt file journal marks i
  pub if_not : r ≡ false → ((i : ℕ) → i < held → LineAt file journal marks i) → ⊥

-- ---- the test: what stands in a batch, the first consignor that its records name, and where its latest entry starts
pub record Found (known : Known) (b : Batch) (seen : Option Consignor) (last : ℕ) : Type 0 where
  pub what : State
  pub stands : Stands (posted known) b what
  pub first : seen ≡ first_of (records_of what.actions)
  pub latest : last ≡ length (entries_of (without_latest what.actions))

pub record Tested (known : Known) (b : Batch) (r : Option Finding) : Type 0 where
  pub if_so : (f : Finding) → r ≡ Some f → Found known b f.seen f.last
  pub if_not : r ≡ None → (s : State) → Stands (posted known) b s → ⊥

-- buffers of the right lengths, and nothing marked or noted yet
pub record ToTest (file journal marks table : List ℕ) : Type 0 where
  pub lengths : right_lengths (length file) (length journal) ≡ true
  pub marking : Noted file 0 marks table
