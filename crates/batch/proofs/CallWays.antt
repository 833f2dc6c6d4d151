-- The calls: each way out of the functions.
-- Assumes nothing.
use Prim.Native.Nat.{ℕ, ◌+◌, ◌-◌, ◌≤◌, ◌<◌}
use mathlib.Core.Path.{◌≡◌, refl, sym, ap, ◌∙◌}
use mathlib.Core.Bool.{Bool, true, false, cond}
use mathlib.Core.List.{List, []}
use native.Mathlib.Nat.{sub-zero}
use native.Mathlib.Omega.{arith}
use borrow.Author.Tests.{eq-eqb, ne_eqb, eqb-true, eqb-false, le-leb, lt-leb}
use lib.Dec.{eqb}
use lib.ListN.{length}
use Rattle.psc.specs.Table.{Known, holds}
use Rattle.psc.specs.Search.{found}
use Rattle.text.specs.declared.Answer.{Answer}
use Rattle.text.specs.Answers.{answer, answer_of, answered, accepted, or_else}
use Rattle.text.specs.Lists.{overlay}
use Rattle.text.proofs.Booleans.{clash}
use Rattle.ident.specs.declared.consignor.Consignor.{Consignor}
use Rattle.record.specs.Consignors.{first_of}
use Rattle.posting.specs.File.{totals, totals_over}
use Rattle.posting.specs.Sums.{kept}
use Rattle.posting.proofs.Amounts.{small_so_far}
use Rattle.batch.specs.declared.Counts.{Counts}
use Rattle.batch.specs.declared.test.Finding.{Finding}
use Rattle.batch.specs.declared.entries.Kind.{Kind}
use Rattle.std.specs.Prelude.{Result, Ok, Err, ⊤, Option}
use Rattle.std.specs.Result.{IsErrAnd}
use Rattle.std.proofs.lemmas.Result.{err_from_is_err_and}
use Rattle.text.specs.declared.Refusal.{Refusal}
use Rattle.text.proofs.Refusals.{refuses}
use Rattle.batch.specs.History.{call_of}
use Rattle.batch.specs.Actions.{Action, Addition, Amendment, Cancellation, number_of, body_of, entries_of}
use Rattle.batch.specs.Places.{action_answer, action_file}
use Rattle.batch.specs.Entries.{number_of_kind, action_of, body_length, entry}
use Rattle.batch.specs.Records.{records_of}
use Rattle.batch.specs.Rules.{Verdict, posted, rule_behind}
use Rattle.batch.specs.Batch.{Batch, batch_of, counts_of, counts_or, no_counts, Call, Open, Add, Amend, Cancel, Undo, right_lengths, State, state, zeros, made, with, next, rules, Stands, answer_to, unchanged, after, after_under, Promised, Called}
use Rattle.batch.specs.Work.{entry_answer, entered, Guarded, Acceptable, Countable, counts_after, Ready, Worked}
use Rattle.batch.proofs.StateWays.{lengths_bounded}
use Rattle.batch.proofs.Verdicts.{posted_fit}
use Rattle.batch.proofs.Made.{Fits, turns_fit, answered_by_rules, accepted_leaves}
use Rattle.batch.proofs.Totals.{totals_view}
use Rattle.batch.proofs.CallsMet.{open_answers, open_after}
use Rattle.batch.proofs.LentTable.{right_answers, right_leaves, refused_leaves, looked_up}
use Rattle.batch.proofs.Entering.{entry_ruled, entry_enters}

-- ---- enter
-- a refusal that is passed on
pub passed_on : {A B : Type 0} (q : Result A Refusal) (r : Result B Refusal) (e : Refusal) → r ≡ Err e → IsErrAnd q (λ y. y ≡ e) → q ≡ Err e
passed_on q r e is given = let p = err_from_is_err_and q given in p.1 ∙ ap Err p.2

module _ (known : Known) (file journal body : List ℕ) (c : Counts) (seen : Option Consignor) (kind n : ℕ) (pre : Ready file journal c) (en : (n ≡ body_length kind) × (13 ≤ n) × (n ≤ 399)) where
  abbrev here : Batch
  here = batch_of file journal c

  worked_by : (e : Refusal) → entry_answer known here seen kind body ≡ answer_of e → Worked known file journal c seen kind body (Err e) file journal
  worked_by e is = record { answers = sym is; leaves = rw (is, refuses e) }

  pub enter_size : (length body ≡ n → ⊥) → Worked known file journal c seen kind body (Err Refusal.WrongLength) file journal
  unfolding entry_answer
  enter_size m = worked_by Refusal.WrongLength (rw (← en.0, ne_eqb (length body) n m))

  module _ (long : length body ≡ n) (a : Result ⊤ Refusal) (ea : answered a ≡ action_answer known file c.held seen kind body) where
    pub enter_refused : (e : Refusal) → a ≡ Err e → (q : Result Counts Refusal) → IsErrAnd q (λ y. y ≡ e) → Worked known file journal c seen kind body q file journal
    unfolding entry_answer or_else
    enter_refused e is q given =
        let it : answer_of e ≡ action_answer known file c.held seen kind body = sym (ap answered is) ∙ ea in
        rw (passed_on q a e is given) (worked_by e (rw (← en.0, eq-eqb (length body) n long, ← it, refuses e)))

    module _ (x : ⊤) (good : a ≡ Ok x) where
      it_is : accepted ≡ action_answer known file c.held seen kind body
      it_is = sym (ap answered good) ∙ ea

      pub enter_full : length journal - c.used < n + 4 → Worked known file journal c seen kind body (Err Refusal.NoRoom) file journal
      unfolding entry_answer or_else
      enter_full h =
          worked_by Refusal.NoRoom
          (rw (← en.0, eq-eqb (length body) n long, ← it_is, lt-leb (c.used + (n + 4)) (length journal) (omega (arith, h, pre.within))))

      pub enter_acceptable : Acceptable file c.held kind body
      enter_acceptable = record { few = pre.few; fits = pre.fits; sized = long ∙ en.0; known = known; seen = seen; accepts = ap (λ (y : Answer). y.code) (sym it_is) }

      pub enter_countable : Countable file c kind body
      enter_countable = record {
        acceptable = enter_acceptable;
        small = rw pre.totals (small_so_far file c.held (omega (arith, pre.few)));
        room = omega (arith, pre.within, pre.room);
      }

      pub enter_done : (counts : Counts) (file' journal' : List ℕ) → n + 4 ≤ length journal - c.used → counts ≡ counts_after file c kind body
          → file' ≡ action_file file c.held kind body → journal' ≡ overlay journal c.used (entry kind body)
          → Worked known file journal c seen kind body (Ok counts) file' journal'
      unfolding entry_answer or_else entered counts_after
      enter_done counts file' journal' h ec ef ej =
          let fits : c.used + (n + 4) ≤ length journal = omega (arith, h, pre.within) in
          let e : entry_answer known here seen kind body ≡ accepted = rw (← en.0, eq-eqb (length body) n long, ← it_is, le-leb (c.used + (n + 4)) (length journal) fits) in
          record { answers = sym e; leaves = rw (e, ec, ef, ej) }

-- ---- behind the guard
abbrev pub is_opening : Call → Bool
is_opening Open = true
is_opening (Add rec) = false
is_opening (Amend rec) = false
is_opening (Cancel id) = false
is_opening Undo = false

pub is_other : (call : Call) → is_opening call ≡ false → call ≡ Open → ⊥
is_other call n e = clash (ap is_opening e) n

-- a promise from its answer and the batch that is left
left_as : {a r : Answer} {e : Batch} {counts : Counts} {file journal : List ℕ} → r ≡ a → batch_of file journal counts ≡ e → Promised a e r counts file journal
left_as answered left = record {
  answers = answered;
  counted = ap (λ (x : Batch). x.counts) left;
  filed = ap (λ (x : Batch). x.file) left;
  journaled = ap (λ (x : Batch). x.journal) left;
}

-- the counts of a batch in which a state stands fit its buffers
module _ (known : Known) (file journal : List ℕ) (c : Counts) (s : State) (st : Stands (posted known) (batch_of file journal c) s) where
  fits_so : Fits known (length file) (length journal) s.actions
  fits_so = turns_fit (posted known) (posted_fit known) (length file) (length journal) s.actions st.turns

  held_is : c.held ≡ length (records_of s.actions)
  unfolding made
  held_is = ap (λ (x : Batch). x.counts.held) st.is

  used_is : c.used ≡ length (entries_of s.actions)
  unfolding made
  used_is = ap (λ (x : Batch). x.counts.used) st.is

  totals_are : c.totals ≡ totals_over file c.held
  unfolding made
  totals_are =
      ap (λ (x : Batch). x.counts.totals) st.is
      ∙ sym (totals_view (length file) (records_of s.actions) fits_so.sheet)
      ∙ (λ i. totals_over (ap (λ (x : Batch). x.file) (sym st.is) i) (sym held_is i))

  pub stands_ready : Ready file journal c
  stands_ready =
      let bounds = lengths_bounded (length file) (length journal) st.lengths in
      record {
        few = omega (arith, held_is, fits_so.places, bounds.0);
        fits = omega (arith, held_is, fits_so.places);
        within = omega (arith, used_is, fits_so.room);
        totals = totals_are;
        bounded = bounds.0;
        room = bounds.1;
      }

module _ (psc file journal : List ℕ) (c : Counts) (r : Result Finding Refusal) (eg : Guarded psc (batch_of file journal c) r) where
  abbrev this : Batch
  this = batch_of file journal c

  abbrev v : Verdict
  v = posted (found psc)

  pub guard_ready : (g : Finding) → r ≡ Ok g → Ready file journal c
  guard_ready g z = let f = (eg.if_so g z).found in stands_ready (found psc) file journal c f.what f.stands

  module _ (call : Call) (other : call ≡ Open → ⊥) (ek : unchanged this call ≡ this) where
    pub guard_refuses : (e : Refusal) → r ≡ Err e → (q : Result Counts Refusal) → IsErrAnd q (λ y. y ≡ e) → Called psc this call (answered q) (counts_or c q) file journal
    guard_refuses e z q given =
        let said = eg.if_not e z call other in
        let same : after_under psc this call ≡ this = refused_leaves psc this call (λ h. eqb-false (answer_of e).code 0 (refuses e) (ap (λ (a : Answer). a.code) (sym said) ∙ h)) ∙ ek in
        rw (passed_on q r e z given) (left_as (sym said) (sym same))

    module _ (g : Finding) (z : r ≡ Ok g) where
      pub done_as : (a : Answer) (counts : Counts) (file' journal' : List ℕ) → a ≡ answer_to v this call → batch_of file' journal' counts ≡ after v this call → Called psc this call a counts file' journal'
      done_as a counts file' journal' said left = looked_up psc this call a counts file' journal' (eg.if_so g z).right (left_as said left)

      left_alone : {a : Answer} → (a.code ≡ 0 → ⊥) → answer_to v this call ≡ a → after v this call ≡ this
      unfolding after
      left_alone {a} n e = rw (e, ne_eqb a.code 0 n) ek

      pub refused_as : (e : Refusal) → answer_to v this call ≡ answer_of e → Called psc this call (answer_of e) c file journal
      refused_as e is = done_as (answer_of e) c file journal (sym is) (sym (left_alone (eqb-false (answer_of e).code 0 (refuses e)) is))

      -- an action, by what its work left: one law for add, amend and cancel
      pub work_done : (a : Action) (q : Result Counts Refusal) (file' journal' : List ℕ) → ((s : State) → rules v (length file) (length journal) s call ≡ rule_behind v (length file) (length journal) s.actions a) → ((s : State) → next s call ≡ with s a)
          → Worked (found psc) file journal c g.seen (number_of a) (body_of a) q file' journal' → Called psc this call (answered q) (counts_or c q) file' journal'
      work_done a q file' journal' er en w =
          let f = (eg.if_so g z).found in
          let s = f.what in
          let st = f.stands in
          let first = f.first in
          let said : answer_to v this call ≡ entry_answer (found psc) this g.seen (number_of a) (body_of a) = answered_by_rules v this s st call ∙ er s ∙ sym (entry_ruled (found psc) this s st a g.seen first) in
          done_as (answered q) (counts_or c q) file' journal' (w.answers ∙ sym said) (w.leaves ∙ go s st first said (eqb (entry_answer (found psc) this g.seen (number_of a) (body_of a)).code 0) refl)
        where
          go : (s : State) (st : Stands v this s) → g.seen ≡ first_of (records_of s.actions) → answer_to v this call ≡ entry_answer (found psc) this g.seen (number_of a) (body_of a) → (t : Bool) → eqb (entry_answer (found psc) this g.seen (number_of a) (body_of a)).code 0 ≡ t
              → cond t (entered this (number_of a) (body_of a)) this ≡ after v this call
          go s st first e true q =
              let zero : (rule_behind v (length file) (length journal) s.actions a).code ≡ 0 = ap (λ (x : Answer). x.code) (sym (entry_ruled (found psc) this s st a g.seen first)) ∙ eqb-true _ 0 q in
              entry_enters (found psc) this s st a zero ∙ ap (made (length file) (length journal)) (sym (en s))
              ∙ sym (accepted_leaves v this s st call (ap (λ (x : Answer). x.code) (er s) ∙ zero))
          go s st first e false q = sym (left_alone (eqb-false _ 0 q) e)

  -- an action of a kind
  pub kind_refuses : (kind : Kind) (body : List ℕ) (e : Refusal) → r ≡ Err e → (q : Result Counts Refusal) → IsErrAnd q (λ y. y ≡ e) → Called psc this (call_of (action_of kind body)) (answered q) (counts_or c q) file journal
  kind_refuses Kind.Addition body = guard_refuses (Add body) (is_other (Add body) refl) refl
  kind_refuses Kind.Cancellation body = guard_refuses (Cancel body) (is_other (Cancel body) refl) refl
  kind_refuses Kind.Amendment body = guard_refuses (Amend body) (is_other (Amend body) refl) refl

  pub kind_done : (kind : Kind) (body : List ℕ) (g : Finding) → r ≡ Ok g → (q : Result Counts Refusal) (file' journal' : List ℕ)
      → Worked (found psc) file journal c g.seen (number_of_kind kind) body q file' journal' → Called psc this (call_of (action_of kind body)) (answered q) (counts_or c q) file' journal'
  unfolding rules
  kind_done Kind.Addition body g z q file' journal' = work_done (Add body) (is_other (Add body) refl) refl g z (Addition body) q file' journal' (λ s. refl) (λ s. refl)
  kind_done Kind.Cancellation body g z q file' journal' = work_done (Cancel body) (is_other (Cancel body) refl) refl g z (Cancellation body) q file' journal' (λ s. refl) (λ s. refl)
  kind_done Kind.Amendment body g z q file' journal' = work_done (Amend body) (is_other (Amend body) refl) refl g z (Amendment body) q file' journal' (λ s. refl) (λ s. refl)

-- ---- open
opening : (n m : ℕ) → made n m (state []) ≡ batch_of (zeros n) (zeros m) no_counts
unfolding made kept
opening n m = λ i. batch_of (zeros (sub-zero n i)) (zeros (sub-zero m i)) no_counts

pub counts_none : (c : Counts) → c.totals.live ≡ 0 → c.totals.cancelled ≡ 0 → c.totals.cash.0 ≡ 0 → c.totals.price.0 ≡ 0 → c.held ≡ 0 → c.used ≡ 0 → c ≡ no_counts
counts_none c l k d q h u = λ i. counts_of (totals (l i) (k i) (d i) (q i)) (h i) (u i)

-- under any table: it takes none
module _ (psc file journal : List ℕ) (k : Counts) (b : Bool) (ek : k ≡ no_counts) (e : b ≡ right_lengths (length file) (length journal)) where
  opens_as : (r : Answer) (left : Batch) → r ≡ answer_to (posted (holds psc)) (batch_of file journal no_counts) Open → left ≡ after (posted (holds psc)) (batch_of file journal no_counts) Open → Called psc (batch_of file journal no_counts) Open r left.counts left.file left.journal
  opens_as r left answered is =
      left_as (answered ∙ sym (right_answers psc (batch_of file journal no_counts) Open refl)) (is ∙ sym (right_leaves psc (batch_of file journal no_counts) Open refl))

  pub open_refused : b ≡ false → Called psc (batch_of file journal no_counts) Open (answer 235 0) k file journal
  open_refused n =
      let short : right_lengths (length file) (length journal) ≡ false = sym e ∙ n in
      rw ek (opens_as (answer 235 0) (batch_of file journal no_counts) (sym (open_answers (posted (holds psc)) (batch_of file journal no_counts) ∙ rw short)) (sym (open_after (posted (holds psc)) (batch_of file journal no_counts) ∙ rw short)))

  pub open_done : (file' journal' : List ℕ) → b ≡ true → file' ≡ zeros (length file) → journal' ≡ zeros (length journal) → Called psc (batch_of file journal no_counts) Open accepted k file' journal'
  open_done file' journal' n ef ej =
      let long : right_lengths (length file) (length journal) ≡ true = sym e ∙ n in
      rw (ek, ef, ej)
      (opens_as accepted (batch_of (zeros (length file)) (zeros (length journal)) no_counts) (sym (open_answers (posted (holds psc)) (batch_of file journal no_counts) ∙ rw long)) (sym (open_after (posted (holds psc)) (batch_of file journal no_counts) ∙ rw long (opening (length file) (length journal)))))
