-- Old lists and old batches under rules that accept more, for any two verdicts of which one accepts what the other accepts: a list that was acceptable in
-- its turn still is, and makes the same batch; what stood in a batch stands there still, so that no batch fails the test that passed it.
-- Assumes nothing.
use Prim.Native.Nat.{ℕ, ◌-◌, ◌/◌}
use mathlib.Core.Path.{◌≡◌, refl, ap, ◌∙◌}
use mathlib.Core.Bool.{Bool, true, false, cond, and-eq-true_iff}
use mathlib.Core.List.{List, [], ◌∷◌, ◌++◌, map}
use borrow.Author.Tests.{eq-eqb, eqb-true}
use lib.Dec.{eqb, leb}
use lib.ListN.{length}
use Rattle.psc.specs.Table.{Known}
use Rattle.text.specs.declared.Answer.{Answer}
use Rattle.text.specs.Answers.{answer, accepted, wrong_length, or_else}
use Rattle.record.specs.Rules.{to_post}
use Rattle.record.proofs.BlankAbroad.{still_accepted}
use Rattle.record.proofs.NumbersOnly as Numbers
use Rattle.batch.specs.Actions.{Action, Addition, Amendment, Cancellation, kind_of, sized, entry_length, entries_of}
use Rattle.batch.specs.Records.{records_of}
use Rattle.batch.specs.Rules.{Verdict, posted, Fit, action_rule, entry_rule, rule_behind, in_turn_behind, in_turn}
use Rattle.batch.specs.Batch.{Batch, Call, State, made, file_length, journal_length, Stands}
use Rattle.batch.specs.History.{call_of, GoodBuffers, NothingStands}
use Rattle.batch.specs.Widened.{Widens, Acceptable, numbers_only, blank_abroad}
use Rattle.batch.proofs.JournalWays.{or_both}
use Rattle.batch.proofs.History.{performed}
use Rattle.batch.proofs.Demand.{demand_3_under}
use Rattle.batch.proofs.Verdicts.{posted_fit}

or_wide : (a b c : Answer) → (a.code ≡ 0 → b.code ≡ 0) → (or_else a c).code ≡ 0 → (or_else b c).code ≡ 0
unfolding or_else
or_wide a b c wide h = let p = or_both a c h in rw (eq-eqb b.code 0 (wide p.0)) p.1

module _ (v w : Verdict) (wide : Widens v w) where
  -- ---- an action
  action_wide : (recs : List (List ℕ)) (places : ℕ) (a : Action) → (action_rule v recs places a).code ≡ 0 → (action_rule w recs places a).code ≡ 0
  unfolding action_rule
  action_wide recs places (Addition rec) h = or_wide (v rec) (w rec) _ (wide rec) h
  action_wide recs places (Amendment rec) h = or_wide (v rec) (w rec) _ (wide rec) h
  action_wide recs places (Cancellation id) h = h

  entry_wide : (recs : List (List ℕ)) (places room : ℕ) (a : Action) → (entry_rule v recs places room a).code ≡ 0 → (entry_rule w recs places room a).code ≡ 0
  unfolding entry_rule
  entry_wide recs places room a = go (sized a)
    where
      last : Answer
      last = cond (leb (entry_length (kind_of a)) room) accepted (answer 231 0)

      go : (t : Bool) → (cond t (or_else (action_rule v recs places a) last) wrong_length).code ≡ 0 → (cond t (or_else (action_rule w recs places a) last) wrong_length).code ≡ 0
      go true h = or_wide (action_rule v recs places a) (action_rule w recs places a) last (action_wide recs places a) h
      go false h = h

  -- ---- actions, each in its turn
  turns_wide : (n m : ℕ) (before xs : List Action) → in_turn_behind v n m before xs ≡ true → in_turn_behind w n m before xs ≡ true
  unfolding in_turn_behind
  turns_wide n m before [] t = refl
  turns_wide n m before (a ∷ xs) t =
      let p = (and-eq-true_iff (eqb (rule_behind v n m before a).code 0) (in_turn_behind v n m (before ++ a ∷ []) xs)).0 t in
      rw (eq-eqb _ 0 (entry_wide (records_of before) (n / 401) (m - length (entries_of before)) a (eqb-true _ 0 p.0))) (turns_wide n m (before ++ a ∷ []) xs p.1)

  pub still_acceptable : {known : Known} → Fit known w → (b : Batch) (xs : List Action) → GoodBuffers b → in_turn v (file_length b) (journal_length b) xs ≡ true → Acceptable w b xs
  still_acceptable fit b xs good t =
      let turns = turns_wide (file_length b) (journal_length b) [] xs t in
      let p = performed w (file_length b) (journal_length b) xs turns in
      record {
        turns = turns;
        answers = λ r answers e run. (demand_3_under w fit b e (map call_of xs) r answers good run).answered ∙ p.answers;
        leaves = λ r answers e run. (demand_3_under w fit b e (map call_of xs) r answers good run).leaves ∙ ap (made (file_length b) (journal_length b)) p.stands;
      }

  -- ---- batches
  pub still_stands : (b : Batch) (s : State) → Stands v b s → Stands w b s
  still_stands b s st = record { lengths = st.lengths; turns = turns_wide (file_length b) (journal_length b) [] s.actions st.turns; is = st.is }

  -- 237 comes under w only where it came under v
  pub no_other_237 : (b : Batch) (call : Call) → NothingStands w b call → NothingStands v b call
  no_other_237 b call k = record { lengths = k.lengths; other = k.other; nothing = λ s st. k.nothing s (still_stands b s st) }

-- ---- of the rules when services were numbers only: by the same postcodes that exist, old lists and old journals stay acceptable
pub numbers_wider : (known : Known) → Widens (numbers_only known) (posted known)
numbers_wider known rec = Numbers.still_accepted (to_post known) rec

pub lists_of_numbers : (known : Known) (b : Batch) (xs : List Action) → GoodBuffers b → in_turn (numbers_only known) (file_length b) (journal_length b) xs ≡ true → Acceptable (posted known) b xs
lists_of_numbers known = still_acceptable (numbers_only known) (posted known) (numbers_wider known) (posted_fit known)

pub journals_of_numbers : (known : Known) (b : Batch) (s : State) → Stands (numbers_only known) b s → Stands (posted known) b s
journals_of_numbers known = still_stands (numbers_only known) (posted known) (numbers_wider known)

-- ---- and when a postcode abroad had to be blank
pub posted_wider : (known : Known) → Widens (blank_abroad known) (posted known)
posted_wider known rec = still_accepted (to_post known) rec

pub old_lists : (known : Known) (b : Batch) (xs : List Action) → GoodBuffers b → in_turn (blank_abroad known) (file_length b) (journal_length b) xs ≡ true → Acceptable (posted known) b xs
old_lists known = still_acceptable (blank_abroad known) (posted known) (posted_wider known) (posted_fit known)

pub old_journals : (known : Known) (b : Batch) (s : State) → Stands (blank_abroad known) b s → Stands (posted known) b s
old_journals known = still_stands (blank_abroad known) (posted known) (posted_wider known)
