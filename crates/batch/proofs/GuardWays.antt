-- The guard of the calls: each way out.
-- Assumes nothing.
use Prim.Native.Nat.{ℕ}
use mathlib.Core.Path.{◌≡◌, refl, sym, ap, ◌∙◌, subst}
use mathlib.Core.Bool.{Bool, true, false}
use mathlib.Core.Option as Math
use mathlib.Core.List.{List}
use lib.ListN.{length}
use Rattle.std.specs.Prelude.{Option, Some, None}
use Rattle.std.specs.Prelude.{Result, Ok, Err, ok_or}
use Rattle.text.specs.declared.Refusal.{Refusal}
use Rattle.text.specs.Answers.{answer_of}
use Rattle.psc.specs.Table.{right_table, wrong_table, Known, holds}
use Rattle.psc.specs.Search.{found}
use Rattle.psc.proofs.SearchLaws.{found_is_holds}
use Rattle.text.specs.Answers.{answer}
use Rattle.text.proofs.Booleans.{clash}
use Rattle.batch.specs.declared.Counts.{Counts}
use Rattle.batch.specs.declared.test.Finding.{Finding}
use Rattle.batch.specs.Rules.{Verdict, posted}
use Rattle.batch.specs.Batch.{Batch, batch_of, right_lengths, file_length, journal_length, Call, Open, Add, Amend, Cancel, Undo, State, stands_in, Stands, answer_to, answer_under}
use Rattle.batch.specs.Test.{Tested}
use Rattle.batch.specs.Work.{Passed, Guarded}
use Rattle.batch.proofs.Standing.{stands_exactly}
use Rattle.batch.proofs.LentTable.{right_answers, none_met}

-- ---- guard
-- what is met first is the answer to every call but opening
module _ (psc : List ℕ) (b : Batch) where
  short_answer : right_lengths (file_length b) (journal_length b) ≡ false → (call : Call) → (call ≡ Open → ⊥) → answer_under psc b call ≡ answer 235 0
  unfolding answer_under answer_to
  short_answer e Open other = absurd (other refl)
  short_answer e (Add rec) other = rw e
  short_answer e (Amend rec) other = rw e
  short_answer e (Cancel id) other = rw e
  short_answer e Undo other = rw e

  table_answer : right_lengths (file_length b) (journal_length b) ≡ true → right_table psc ≡ false → (call : Call) → (call ≡ Open → ⊥) → answer_under psc b call ≡ wrong_table
  unfolding answer_under
  table_answer good w Open other = absurd (other refl)
  table_answer good w (Add rec) other = rw (good, w)
  table_answer good w (Amend rec) other = rw (good, w)
  table_answer good w (Cancel id) other = rw (good, w)
  table_answer good w Undo other = rw (good, w)

nothing_stands : (v : Verdict) (b : Batch) → ((s : State) → Stands v b s → ⊥) → stands_in v b ≡ Math.none
nothing_stands v b never = go (stands_in v b) refl
  where
    go : (o : Math.Option State) → stands_in v b ≡ o → o ≡ Math.none
    go Math.none e = refl
    go (Math.some s) e = absurd (never s ((stands_exactly v b s).0 e))

none_answer : (v : Verdict) (b : Batch) → right_lengths (file_length b) (journal_length b) ≡ true → stands_in v b ≡ Math.none → (call : Call) → (call ≡ Open → ⊥) → answer_to v b call ≡ answer 237 0
unfolding answer_to
none_answer v b good e Open other = absurd (other refl)
none_answer v b good e (Add rec) other = rw (good, e)
none_answer v b good e (Amend rec) other = rw (good, e)
none_answer v b good e (Cancel id) other = rw (good, e)
none_answer v b good e Undo other = rw (good, e)

-- a result tells which it is
refusal_or : Refusal → Result Finding Refusal → Refusal
refusal_or d (Ok f) = d
refusal_or d (Err e) = e

finding_or : Finding → Result Finding Refusal → Finding
finding_or d (Ok f) = f
finding_or d (Err e) = d

is_found : Result Finding Refusal → Bool
is_found (Ok f) = true
is_found (Err e) = false

err_ok : (e : Refusal) (f : Finding) → ◌≡◌ {A = Result Finding Refusal} (Err e) (Ok f) → ⊥
unfolding is_found
err_ok e f q = clash (ap is_found q) refl

err_once : (e d : Refusal) → ◌≡◌ {A = Result Finding Refusal} (Err e) (Err d) → e ≡ d
unfolding refusal_or
err_once e d q = ap (refusal_or e) q

ok_once : (f g : Finding) → ◌≡◌ {A = Result Finding Refusal} (Ok f) (Ok g) → f ≡ g
unfolding finding_or
ok_once f g q = ap (finding_or f) q

module _ (psc file journal : List ℕ) (c : Counts) where
  abbrev here : Batch
  here = batch_of file journal c

  met : (e : Refusal) → ((call : Call) → (call ≡ Open → ⊥) → answer_under psc here call ≡ answer_of e) → Guarded psc here (Err e)
  met e answers = record {
    if_so = λ f q. absurd (err_ok e f q);
    if_not = λ d q call other. answers call other ∙ ap answer_of (err_once e d q);
  }

  module _ (r : Bool) (e : r ≡ right_lengths (length file) (length journal)) where
    pub guard_short : r ≡ false → Guarded psc here (Err Refusal.WrongBuffers)
    guard_short n = met Refusal.WrongBuffers (short_answer psc here (sym e ∙ n))

    module _ (n : r ≡ true) where
      pub guard_long : right_lengths (length file) (length journal) ≡ true
      guard_long = sym e ∙ n

      module _ (t : Bool) (et : t ≡ right_table psc) where
        pub guard_table : t ≡ false → Guarded psc here (Err Refusal.WrongTable)
        guard_table w = met Refusal.WrongTable (table_answer psc here guard_long (sym et ∙ w))

        module _ (w : t ≡ true) (f : Option Finding) (d : Tested (found psc) here f) where
          right : right_table psc ≡ true
          right = sym et ∙ w

          guard_nothing : f ≡ None → Guarded psc here (Err Refusal.NothingStands)
          guard_nothing x =
              let never : (s : State) → Stands (posted (holds psc)) here s → ⊥ =
              λ s st. d.if_not x s (subst (λ (k : Known). Stands (posted k) here s) (sym (found_is_holds psc right)) st) in
              met Refusal.NothingStands
              (λ call other. right_answers psc here call (none_met psc here call right) ∙ none_answer (posted (holds psc)) here guard_long (nothing_stands (posted (holds psc)) here never) call other)

          guard_found : (g : Finding) → f ≡ Some g → Guarded psc here (Ok g)
          guard_found g x = record {
            if_so = λ h q. subst (λ (y : Finding). Passed psc here y.seen y.last) (ok_once g h q) record { right = right; found = d.if_so g x };
            if_not = λ e q. absurd (err_ok e g (sym q));
          }

          pub guarded : (g : Result Finding Refusal) → g ≡ ok_or f Refusal.NothingStands → Guarded psc here g
          guarded g eg = subst (Guarded psc here) (sym eg) (go f refl)
            where
              go : (o : Option Finding) → f ≡ o → Guarded psc here (ok_or o Refusal.NothingStands)
              go None q = guard_nothing q
              go (Some x) q = guard_found x q
