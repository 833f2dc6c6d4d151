-- "The open batch", its table of refusals: the rules over the records that actions make. No buffer, count or replay is in them.
-- The verdict on a record is a parameter: what the record's own rules say, the batch passes on.
-- Assumes nothing.
use Rattle.std.specs.Prelude.{ℕ, ◌-◌, ◌/◌, Bool, true, cond, ◌&&◌, ◌≡◌, List, [], ◌∷◌, ◌++◌, length, eqb, ltb, leb}
use Rattle.text.specs.declared.Answer.{Answer}
use Rattle.text.specs.Answers.{answer, accepted, or_else, wrong_length}
use Rattle.psc.specs.Table.{Known}
use Rattle.ident.specs.Identifier.{right_id}
use Rattle.layout.specs.Layout.{field_of}
use Rattle.record.specs.Codes.{lacks}
use Rattle.record.specs.Rules.{in_file, to_post, record_answer}
use Rattle.record.specs.Consignors.{strays}
use Rattle.batch.specs.Actions.{Action, Addition, Amendment, Cancellation, kind_of, sized, entry_length, entries_of}
use Rattle.batch.specs.Records.{id_of, has_id, is_cancelled_rec, records_of, some}

-- ---- the answer to a record that is to be posted
abbrev pub Verdict : Type 0
Verdict = List ℕ → Answer

-- the one of the record's table, by the postcodes that exist
abbrev pub posted : Known → Verdict
posted known rec = record_answer (to_post known) rec

-- the codes of the batch's own rules
abbrev pub batch_codes : List ℕ
batch_codes = 235 ∷ 238 ∷ 237 ∷ 236 ∷ 2 ∷ 241 ∷ 232 ∷ 233 ∷ 230 ∷ 231 ∷ 234 ∷ []

-- what proofs ask of a verdict: a record that it accepts has 399 bytes and a blank status, and may stand in a file by the postcodes that exist; and of 399
-- bytes it never gives a code of the batch's own
pub record Fit (known : Known) (v : Verdict) : Type 0 where
  pub long : (rec : List ℕ) → (v rec).code ≡ 0 → length rec ≡ 399
  pub blank : (rec : List ℕ) → (v rec).code ≡ 0 → field_of rec 19 ≡ 32 ∷ 32 ∷ []
  pub passes : (rec : List ℕ) → (v rec).code ≡ 0 → (record_answer (in_file known) rec).code ≡ 0
  pub others : (rec : List ℕ) → length rec ≡ 399 → lacks (v rec).code batch_codes ≡ true

-- ---- over the records that stand
-- identifier present, cancelled or not; that consignment is cancelled
abbrev pub is_present : List (List ℕ) → List ℕ → Bool
is_present recs id = some (has_id id) recs

abbrev pub is_cancelled_there : List (List ℕ) → List ℕ → Bool
is_cancelled_there recs id = some (λ rec. has_id id rec && is_cancelled_rec rec) recs

-- 232, 233: amend, cancel
abbrev pub live_rule : List (List ℕ) → List ℕ → Answer
live_rule recs id = cond (is_present recs id) (cond (is_cancelled_there recs id) (answer 233 0) accepted) (answer 232 0)

-- the verdict, then 2, 241, 232, 233 and 230, with so many places
unfoldable pub action_rule : Verdict → List (List ℕ) → ℕ → Action → Answer
action_rule v recs places (Addition rec) =
    or_else (v rec)
    (cond (is_present recs (id_of rec)) (answer 2 1) (cond (strays recs rec) (answer 241 1) (cond (ltb (length recs) places) accepted (answer 230 0))))
action_rule v recs places (Amendment rec) = or_else (v rec) (live_rule recs (id_of rec))
action_rule v recs places (Cancellation id) = cond (right_id id) (live_rule recs id) (answer 1 1)

-- 236 first, and last 231, with so many journal bytes left
unfoldable pub entry_rule : Verdict → List (List ℕ) → ℕ → ℕ → Action → Answer
entry_rule v recs places room a =
    cond (sized a) (or_else (action_rule v recs places a) (cond (leb (entry_length (kind_of a)) room) accepted (answer 231 0))) wrong_length

-- ---- an action behind others, with a file buffer of n and a journal of m bytes
abbrev pub rule_behind : Verdict → ℕ → ℕ → List Action → Action → Answer
rule_behind v n m before a = entry_rule v (records_of before) (n / 401) (m - length (entries_of before)) a

-- each acceptable in its turn
unfoldable pub in_turn_behind : Verdict → ℕ → ℕ → List Action → List Action → Bool
in_turn_behind v n m before [] = true
in_turn_behind v n m before (a ∷ xs) = eqb (rule_behind v n m before a).code 0 && in_turn_behind v n m (before ++ a ∷ []) xs

abbrev pub in_turn : Verdict → ℕ → ℕ → List Action → Bool
in_turn v n m xs = in_turn_behind v n m [] xs
