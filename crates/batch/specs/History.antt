-- What is shown of batches and calls, in the paper's words: what stands after calls by the rules, when each code is given, an undo, the place that a call
-- writes, and the file. The verdict on a record is a parameter here too.
-- Assumes nothing.
use Rattle.std.specs.Prelude.{ℕ, ◌+◌, ◌-◌, ◌*◌, ◌/◌, ◌%◌, ◌≤◌, ◌<◌, Bool, true, false, cond, ◌≡◌, List, [], ◌∷◌, map, length, take, drop, eqb}
use Rattle.text.specs.declared.Answer.{Answer}
use Rattle.text.specs.Answers.{answer, accepted}
use Rattle.psc.specs.Table.{right_table, Known}
use Rattle.ident.specs.Identifier.{right_id}
use Rattle.record.specs.Consignors.{Strays, OneConsignor}
use Rattle.posting.specs.File.{line_of, id_at, file_answer, passed}
use Rattle.posting.specs.Records.{lines_of}
use Rattle.batch.specs.Actions.{Action, Addition, Amendment, Cancellation, kind_of, body_of, entry_length, entries_of}
use Rattle.batch.specs.Records.{id_of, records_of}
use Rattle.batch.specs.Rules.{Verdict, is_present, is_cancelled_there, action_rule}
use Rattle.batch.specs.Batch.{Batch, Call, Open, Add, Amend, Cancel, Undo, State, state, zero_filled, rules, next, file_length, journal_length, Stands, answer_to, after}

-- the call that asks for an action
abbrev pub call_of : Action → Call
call_of (Addition rec) = Add rec
call_of (Amendment rec) = Amend rec
call_of (Cancellation id) = Cancel id

-- ---- calls by the rules
-- what stands after one: a refused one leaves the state
abbrev pub standing_by_rule : Verdict → ℕ → ℕ → State → Call → State
standing_by_rule v n m s call = cond (eqb (rules v n m s call).code 0) (next s call) s

-- after several, and the answers that the rules give: behind a state that stands, and behind an opening
abbrev pub standing_behind : Verdict → ℕ → ℕ → State → List Call → State
standing_behind v n m s [] = s
standing_behind v n m s (call ∷ calls) = standing_behind v n m (standing_by_rule v n m s call) calls

abbrev pub answers_behind : Verdict → ℕ → ℕ → State → List Call → List Answer
answers_behind v n m s [] = []
answers_behind v n m s (call ∷ calls) = rules v n m s call ∷ answers_behind v n m (standing_by_rule v n m s call) calls

abbrev pub standing_by_rules : Verdict → ℕ → ℕ → List Call → State
standing_by_rules v n m calls = standing_behind v n m (state []) calls

abbrev pub answers_by_rules : Verdict → ℕ → ℕ → List Call → List Answer
answers_by_rules v n m calls = answers_behind v n m (state []) calls

-- a list of actions performed as calls: each is accepted, and they are what stands
pub record Performed (v : Verdict) (n m : ℕ) (xs : List Action) : Type 0 where
  pub answers : answers_by_rules v n m (map call_of xs) ≡ map (λ a. accepted) xs
  pub stands : standing_by_rules v n m (map call_of xs) ≡ state xs

-- ---- the lengths of the two buffers: a multiple of 401 from 401 to 400,599, and 403 to 1,048,576
pub record GoodLengths (n m : ℕ) : Type 0 where
  pub multiple : n % 401 ≡ 0
  pub least : 401 ≤ n
  pub most : n ≤ 400599
  pub journal_least : 403 ≤ m
  pub journal_most : m ≤ 1048576

abbrev pub GoodBuffers : Batch → Type 0
GoodBuffers b = GoodLengths (file_length b) (journal_length b)

-- ---- the table of refusals: under which condition each code is given, in any batch (`proofs/BatchCodes`)
-- 237, all but opening: the lengths are right, and nothing stands
pub record NothingStands (v : Verdict) (b : Batch) (call : Call) : Type 0 where
  pub lengths : GoodBuffers b
  pub other : call ≡ Open → ⊥
  pub nothing : (s : State) → Stands v b s → ⊥

-- 238, all but opening: the lengths are right, and the lent table is wrong
pub record WrongTable (psc : List ℕ) (b : Batch) (call : Call) : Type 0 where
  pub lengths : GoodBuffers b
  pub other : call ≡ Open → ⊥
  pub wrong : right_table psc ≡ false

-- the codes behind 237: a state stands, and of it this holds
pub record SomeStands (v : Verdict) (b : Batch) (Meets : State → Type 0) : Type 0 where
  pub standing : State
  pub stands : Stands v b standing
  pub meets : Meets standing

-- 236: record not 399 bytes, identifier not 13
abbrev pub WrongSize : Action → Type 0
WrongSize a = length (body_of a) ≡ (kind_of a).carries → ⊥

-- 1 to 223: the answer to the body of an action, to a record by the verdict, to an identifier by 1 alone
abbrev pub body_answer : Verdict → Action → Answer
body_answer v (Addition rec) = v rec
body_answer v (Amendment rec) = v rec
body_answer v (Cancellation id) = cond (right_id id) accepted (answer 1 1)

-- it has its length, and the answer to it this code; with 0 neither 236 nor 1 to 223 is met
pub record BodyMeets (v : Verdict) (a : Action) (code : ℕ) : Type 0 where
  pub size : length (body_of a) ≡ (kind_of a).carries
  pub says : (body_answer v a).code ≡ code

-- 1 in cancel: 13 bytes that are no right identifier
pub record WrongIdentifier (id : List ℕ) : Type 0 where
  pub size : length id ≡ 13
  pub wrong : right_id id ≡ false

-- whose identifier is meant
abbrev pub id_in : Action → List ℕ
id_in (Addition rec) = id_of rec
id_in (Amendment rec) = id_of rec
id_in (Cancellation id) = id

abbrev pub is_addition : Action → Bool
is_addition (Addition rec) = true
is_addition (Amendment rec) = false
is_addition (Cancellation id) = false

-- 2, add: identifier present, cancelled or not
pub record AddedTwice (v : Verdict) (a : Action) (s : State) : Type 0 where
  pub good : BodyMeets v a 0
  pub adds : is_addition a ≡ true
  pub present : is_present (records_of s.actions) (id_in a) ≡ true

-- 241, add: the record names a consignor, and one that stands, cancelled or not, names another
pub record NamesAnother (v : Verdict) (a : Action) (s : State) : Type 0 where
  pub good : BodyMeets v a 0
  pub adds : is_addition a ≡ true
  pub absent : is_present (records_of s.actions) (id_in a) ≡ false
  pub strays : Strays (records_of s.actions) (body_of a)

-- 232, amend and cancel: identifier not present
pub record NotPresent (v : Verdict) (a : Action) (s : State) : Type 0 where
  pub good : BodyMeets v a 0
  pub other : is_addition a ≡ false
  pub absent : is_present (records_of s.actions) (id_in a) ≡ false

-- 233, amend and cancel: that consignment is cancelled
pub record IsCancelled (v : Verdict) (a : Action) (s : State) : Type 0 where
  pub good : BodyMeets v a 0
  pub other : is_addition a ≡ false
  pub present : is_present (records_of s.actions) (id_in a) ≡ true
  pub cancelled : is_cancelled_there (records_of s.actions) (id_in a) ≡ true

-- 230, add: no place of 401 bytes left, in a file buffer of n
pub record NoPlaceLeft (v : Verdict) (n : ℕ) (a : Action) (s : State) : Type 0 where
  pub good : BodyMeets v a 0
  pub adds : is_addition a ≡ true
  pub absent : is_present (records_of s.actions) (id_in a) ≡ false
  pub same : Strays (records_of s.actions) (body_of a) → ⊥
  pub full : n / 401 ≤ length (records_of s.actions)

-- no code before 231 is met
pub record KeepsRules (v : Verdict) (n : ℕ) (a : Action) (s : State) : Type 0 where
  pub size : length (body_of a) ≡ (kind_of a).carries
  pub rules : (action_rule v (records_of s.actions) (n / 401) a).code ≡ 0

-- 231: fewer journal bytes left than the entry needs, in a journal of m
pub record NoRoomLeft (v : Verdict) (n m : ℕ) (a : Action) (s : State) : Type 0 where
  pub earlier : KeepsRules v n a s
  pub short : m - length (entries_of s.actions) < entry_length (kind_of a)

-- 0: no code is met
pub record KeepsAll (v : Verdict) (n m : ℕ) (a : Action) (s : State) : Type 0 where
  pub earlier : KeepsRules v n a s
  pub room : entry_length (kind_of a) ≤ m - length (entries_of s.actions)

-- 234, undo: no standing entry in the journal
abbrev pub NoAction : State → Type 0
NoAction s = s.actions ≡ []

abbrev pub SomeAction : State → Type 0
SomeAction s = s.actions ≡ [] → ⊥

-- ---- an undo after an accepted action: it is accepted, and gives back the batch before
pub record Undoes (v : Verdict) (before b : Batch) : Type 0 where
  pub answers : answer_to v b Undo ≡ accepted
  pub back : after v b Undo ≡ before

-- ---- a call writes, in the file, only the 401 bytes of one place
pub record WritesOnePlace (b : Batch) (file : List ℕ) : Type 0 where
  pub place : ℕ
  pub within : place * 401 + 401 ≤ file_length b
  pub long : length file ≡ file_length b
  pub before : take (place * 401) file ≡ take (place * 401) b.file
  pub behind : drop (place * 401 + 401) file ≡ drop (place * 401 + 401) b.file

-- an amendment that consignment's own place, and there its record with its line end
pub record AmendsOnePlace (b : Batch) (rec : List ℕ) (file : List ℕ) : Type 0 where
  pub writes : WritesOnePlace b file
  pub held : writes.place < b.counts.held
  pub own : id_at b.file writes.place ≡ id_of rec
  pub line : take 401 (drop (writes.place * 401) file) ≡ line_of rec

-- ---- the file of a batch: its records, each with its line end, then zeros; without the zeros the file check accepts it, with the same four
-- totals; and all records that name a consignor name the same
pub record GoodFileOf (known : Known) (b : Batch) (records : List (List ℕ)) : Type 0 where
  pub many : length records ≡ b.counts.held
  pub bytes : b.file ≡ zero_filled (file_length b) (lines_of records)
  pub cut : take (b.counts.held * 401) b.file ≡ lines_of records
  pub passes : file_answer known (lines_of records) ≡ passed b.counts.totals
  pub one : OneConsignor records
