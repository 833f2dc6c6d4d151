-- Demand 3, of any run of calls that begins with an opening, under any verdict that is fit, and under any lent table of postcodes that is the same in every
-- call; and refusals, of any batch and table.
-- Assumes nothing.
use Prim.Native.Nat.{ℕ}
use mathlib.Core.Path.{◌≡◌, refl, sym, ap, ◌∙◌, subst}
use mathlib.Core.Bool.{Bool, true, false}
use mathlib.Core.List.{List, [], ◌∷◌, map}
use Rattle.psc.specs.Table.{right_table, Known, holds}
use Rattle.text.specs.declared.Answer.{Answer}
use Rattle.batch.specs.Rules.{Verdict, posted, Fit, in_turn, in_turn_behind}
use Rattle.batch.specs.Batch.{Batch, batch_of, Call, Open, Add, Amend, Cancel, Undo, right_lengths, State, state, made, rules, file_length, journal_length, answer_to, unchanged, after, CalledBy, answer_under, after_under, Called}
use Rattle.batch.specs.History.{GoodBuffers, standing_by_rule, standing_behind, answers_behind}
use Rattle.batch.specs.Demand.{given_to, RunOfCalls, Demand3By, ChangesNothing, refused_by_table, Demand3Under}
use Rattle.batch.proofs.CallsMet.{lengths_exactly, open_answers, open_after, opens, opened_is}
use Rattle.batch.proofs.History.{answer_here, after_here, turns_here}
use Rattle.batch.proofs.Made.{Fits, none_fits, made_file_long, made_journal_long}
use Rattle.batch.proofs.Verdicts.{posted_fit}
use Rattle.batch.proofs.LentTable.{right_answers, right_leaves, none_met, refused_leaves}

module _ (v : Verdict) where
  -- ---- opening looks at no counts
  answer_given : (b : Batch) (call : Call) → answer_to v (given_to call b) call ≡ answer_to v b call
  answer_given b Open = open_answers v (given_to Open b) ∙ sym (open_answers v b)
  answer_given b (Add rec) = refl
  answer_given b (Amend rec) = refl
  answer_given b (Cancel id) = refl
  answer_given b Undo = refl

  after_given : (b : Batch) (call : Call) → after v (given_to call b) call ≡ after v b call
  after_given b Open = open_after v (given_to Open b) ∙ sym (open_after v b)
  after_given b (Add rec) = refl
  after_given b (Amend rec) = refl
  after_given b (Cancel id) = refl
  after_given b Undo = refl

  -- ---- what an outcome that keeps its promise leaves
  left_is : (b : Batch) (call : Call) (r : Answer) (e : Batch) → CalledBy v b call r e.counts e.file e.journal → e ≡ after v b call
  left_is b call r e p = λ i. batch_of (p.filed i) (p.journaled i) (p.counted i)

-- ---- from any state that stands
record FromState (v : Verdict) (n m : ℕ) (s : State) (calls : List Call) (answers : List Answer) (e : Batch) : Type 0 where
  answered : answers ≡ answers_behind v n m s calls
  leaves : e ≡ made n m (standing_behind v n m s calls)
  turns : in_turn v n m (standing_behind v n m s calls).actions ≡ true

module _ {known : Known} (v : Verdict) (fit : Fit known v) (n m : ℕ) (good : right_lengths n m ≡ true) where
  from_state : (calls : List Call) (answers : List Answer) (s : State) (b e : Batch) → in_turn v n m s.actions ≡ true → b ≡ made n m s → RunOfCalls (CalledBy v) b calls answers e → FromState v n m s calls answers e
  from_state [] [] s b e t is run = record { answered = refl; leaves = run ∙ is; turns = t }
  from_state [] (r ∷ answers) s b e t is run = absurd run
  from_state (call ∷ calls) [] s b e t is run = absurd run
  from_state (call ∷ calls) (r ∷ answers) s b e t is run =
      let o = run.0 in
      let met : r ≡ rules v n m s call = o.promised.answers ∙ answer_given v b call ∙ ap (λ (x : Batch). answer_to v x call) is ∙ answer_here v fit n m good s t call in
      let on : o.left ≡ made n m (standing_by_rule v n m s call) = left_is v _ call r o.left o.promised ∙ after_given v b call ∙ ap (λ (x : Batch). after v x call) is ∙ after_here v fit n m good s t call in
      let f = from_state calls answers (standing_by_rule v n m s call) o.left e (turns_here v fit n m good s t call) on run.1 in
      record { answered = λ i. met i ∷ f.answered i; leaves = f.leaves; turns = f.turns }

-- ---- demand 3
pub demand_3_under : {known : Known} (v : Verdict) → Fit known v → (b e : Batch) (calls : List Call) (r : Answer) (answers : List Answer) → GoodBuffers b
    → RunOfCalls (CalledBy v) b (Open ∷ calls) (r ∷ answers) e → Demand3By v (file_length b) (journal_length b) calls r answers e
unfolding in_turn_behind
demand_3_under v fit b e calls r answers g run =
    let o = run.0 in
    let good = (lengths_exactly (file_length b) (journal_length b)).1 g in
    let fresh = left_is v _ Open r o.left o.promised ∙ after_given v b Open ∙ opened_is v b good in
    let f = from_state v fit (file_length b) (journal_length b) good calls answers (state []) o.left e refl fresh run.1 in
    record {
      opens = o.promised.answers ∙ answer_given v b Open ∙ opens v b good;
      answered = f.answered;
      leaves = f.leaves;
      turns = f.turns;
    }

-- ---- under a lent table, the same one in every call
module _ (psc : List ℕ) where
  -- with a right one a run is one under the record's own verdict by what the table holds
  run_held : right_table psc ≡ true → (calls : List Call) (answers : List Answer) (b e : Batch) → RunOfCalls (Called psc) b calls answers e → RunOfCalls (CalledBy (posted (holds psc))) b calls answers e
  run_held r [] [] b e run = run
  run_held r [] (a ∷ answers) b e run = absurd run
  run_held r (call ∷ calls) [] b e run = absurd run
  run_held r (call ∷ calls) (a ∷ answers) b e run =
      let o = run.0 in
      let here = given_to call b in
      let none = none_met psc here call r in (
        record { left = o.left; promised = rw (right_answers psc here call none, right_leaves psc here call none) at o.promised },
        run_held r calls answers o.left e run.1,
      )

  -- with a wrong one every call but an opening is refused, and the batch stays as it was opened
  module _ (wrong : right_table psc ≡ false) (n m : ℕ) (good : right_lengths n m ≡ true) where
    abbrev opened : Batch
    opened = made n m (state [])

    none : Fits (holds psc) n m []
    none = none_fits n m

    long : right_lengths (file_length opened) (journal_length opened) ≡ true
    long = rw (made_file_long n m [] none, made_journal_long n m [] none) good

    reopened : after (posted (holds psc)) opened Open ≡ opened
    reopened = opened_is (posted (holds psc)) opened long ∙ rw (made_file_long n m [] none, made_journal_long n m [] none)

    answers_so : (call : Call) → answer_under psc (given_to call opened) call ≡ refused_by_table call
    unfolding answer_under
    answers_so Open = answer_given (posted (holds psc)) opened Open ∙ opens (posted (holds psc)) opened long
    answers_so (Add rec) = rw (long, wrong)
    answers_so (Amend rec) = rw (long, wrong)
    answers_so (Cancel id) = rw (long, wrong)
    answers_so Undo = rw (long, wrong)

    leaves_so : (call : Call) → after_under psc (given_to call opened) call ≡ opened
    unfolding after_under
    leaves_so Open = after_given (posted (holds psc)) opened Open ∙ reopened
    leaves_so (Add rec) = rw (long, wrong)
    leaves_so (Amend rec) = rw (long, wrong)
    leaves_so (Cancel id) = rw (long, wrong)
    leaves_so Undo = rw (long, wrong)

    all_refused : (calls : List Call) (answers : List Answer) (b e : Batch) → b ≡ opened → RunOfCalls (Called psc) b calls answers e → (answers ≡ map refused_by_table calls) × (e ≡ opened)
    all_refused [] [] b e is run = (refl, run ∙ is)
    all_refused [] (a ∷ answers) b e is run = absurd run
    all_refused (call ∷ calls) [] b e is run = absurd run
    all_refused (call ∷ calls) (a ∷ answers) b e is run =
        let o = run.0 in
        let p = o.promised in
        let met : a ≡ refused_by_table call = p.answers ∙ ap (λ (x : Batch). answer_under psc (given_to call x) call) is ∙ answers_so call in
        let on : o.left ≡ opened = (λ i. batch_of (p.filed i) (p.journaled i) (p.counted i)) ∙ ap (λ (x : Batch). after_under psc (given_to call x) call) is ∙ leaves_so call in
        let f = all_refused calls answers o.left e on run.1 in
        (λ i. met i ∷ f.0 i, f.1)

pub demand_3 : (psc : List ℕ) (b e : Batch) (calls : List Call) (r : Answer) (answers : List Answer) → GoodBuffers b
    → RunOfCalls (Called psc) b (Open ∷ calls) (r ∷ answers) e → Demand3Under psc (file_length b) (journal_length b) calls r answers e
unfolding in_turn_behind answer_under after_under
demand_3 psc b e calls r answers g run = go (right_table psc) refl
  where
    v : Verdict
    v = posted (holds psc)

    n : ℕ
    n = file_length b

    m : ℕ
    m = journal_length b

    go : (t : Bool) → right_table psc ≡ t → Demand3Under psc n m calls r answers e
    go true right =
        let d = demand_3_under v (posted_fit (holds psc)) b e calls r answers g (run_held psc right (Open ∷ calls) (r ∷ answers) b e run) in
        record { opens = d.opens; answered = d.answered ∙ rw right; leaves = d.leaves ∙ rw right; turns = rw right d.turns }
    go false wrong =
        let o = run.0 in
        let p = o.promised in
        let good = (lengths_exactly n m).1 g in
        let fresh : o.left ≡ made n m (state []) = (λ i. batch_of (p.filed i) (p.journaled i) (p.counted i)) ∙ after_given v b Open ∙ opened_is v b good in
        let f = all_refused psc wrong n m good calls answers o.left e fresh run.1 in
        record { opens = p.answers ∙ answer_given v b Open ∙ opens v b good; answered = f.0 ∙ rw wrong; leaves = f.1 ∙ rw wrong; turns = rw wrong refl }

-- ---- refusals
unchanged_so : (b : Batch) (call : Call) → ChangesNothing b call (unchanged b call)
unchanged_so b Open = record { file = refl; journal = refl; counts = λ other. absurd (other refl); counts_of_opening = ap (λ (c : Call). (unchanged b c).counts) }
unchanged_so b (Add rec) = record { file = refl; journal = refl; counts = λ other. refl; counts_of_opening = ap (λ (c : Call). (unchanged b c).counts) }
unchanged_so b (Amend rec) = record { file = refl; journal = refl; counts = λ other. refl; counts_of_opening = ap (λ (c : Call). (unchanged b c).counts) }
unchanged_so b (Cancel id) = record { file = refl; journal = refl; counts = λ other. refl; counts_of_opening = ap (λ (c : Call). (unchanged b c).counts) }
unchanged_so b Undo = record { file = refl; journal = refl; counts = λ other. refl; counts_of_opening = ap (λ (c : Call). (unchanged b c).counts) }

-- under any table, right or wrong
pub refusals_change_nothing : (psc : List ℕ) (b : Batch) (call : Call) (r : Answer) (e : Batch) → Called psc b call r e.counts e.file e.journal → (r.code ≡ 0 → ⊥) → ChangesNothing b call e
refusals_change_nothing psc b call r e p refused =
    let left : e ≡ after_under psc b call = λ i. batch_of (p.filed i) (p.journaled i) (p.counted i) in
    let same = refused_leaves psc b call (λ z. refused (ap (λ (a : Answer). a.code) p.answers ∙ z)) in
    subst (ChangesNothing b call) (sym (left ∙ same)) (unchanged_so b call)
