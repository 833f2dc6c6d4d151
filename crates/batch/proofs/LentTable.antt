-- The calls under a lent table of postcodes: 238 exactly if it is wrong, straight after 235; and with a right table the answer and the batch left are those
-- under the record's own verdict by what the table holds, so that every other code is given as it was.
-- Assumes nothing.
use Prim.Native.Nat.{ℕ}
use mathlib.Core.Path.{◌≡◌, refl, sym, ap, ◌∙◌, subst}
use mathlib.Core.Bool.{Bool, true, false, cond, not, ◌&&◌}
use mathlib.Core.List.{List}
use borrow.Author.Tests.{ne_eqb, not-true}
use Rattle.text.specs.declared.Answer.{Answer}
use Rattle.text.proofs.Booleans.{clash, both}
use Rattle.psc.specs.Table.{right_table, wrong_table, Known, holds}
use Rattle.psc.specs.Search.{found}
use Rattle.psc.proofs.SearchLaws.{found_is_holds}
use Rattle.record.specs.Rules.{to_post}
use Rattle.record.specs.Outcomes.{ExactlyAt, any_postcode}
use Rattle.record.proofs.PostcodeCodes.{others_stay}
use Rattle.record.proofs.Turns.{never_given}
use Rattle.batch.specs.declared.Counts.{Counts}
use Rattle.batch.specs.Actions.{Action, Addition, Amendment, Cancellation}
use Rattle.batch.specs.Rules.{posted, action_rule, entry_rule}
use Rattle.batch.specs.Batch.{Batch, Call, Open, Add, Amend, Cancel, Undo, right_lengths, file_length, journal_length, answer_to, unchanged, after, CalledBy, takes_table, meets_wrong_table, answer_under, after_under, Called}
use Rattle.batch.specs.History.{WrongTable, body_answer}
use Rattle.batch.proofs.Verdicts.{posted_fit}
use Rattle.batch.proofs.CallsMet.{lengths_exactly}
use Rattle.batch.proofs.BatchCodes.{never_238}

module _ (psc : List ℕ) (b : Batch) where
  abbrev long : Bool
  long = right_lengths (file_length b) (journal_length b)

  -- ---- where the table is not asked about, or right
  pub right_answers : (call : Call) → meets_wrong_table psc b call ≡ false → answer_under psc b call ≡ answer_to (posted (holds psc)) b call
  unfolding answer_under
  right_answers call e = rw e

  pub right_leaves : (call : Call) → meets_wrong_table psc b call ≡ false → after_under psc b call ≡ after (posted (holds psc)) b call
  unfolding after_under
  right_leaves call e = rw e

  pub none_met : (call : Call) → right_table psc ≡ true → meets_wrong_table psc b call ≡ false
  none_met call r = rw r (go (takes_table call) long)
    where
      go : (t l : Bool) → (t && (l && false)) ≡ false
      go true true = refl
      go true false = refl
      go false l = refl

  -- ---- 238
  met_exactly : (call : Call) → (call ≡ Open → ⊥) → meets_wrong_table psc b call ≡ (long && not (right_table psc))
  met_exactly Open other = absurd (other refl)
  met_exactly (Add rec) other = refl
  met_exactly (Amend rec) other = refl
  met_exactly (Cancel id) other = refl
  met_exactly Undo other = refl

  not_opening : (call : Call) → meets_wrong_table psc b call ≡ true → call ≡ Open → ⊥
  not_opening call m e = clash (ap (meets_wrong_table psc b) (sym e) ∙ m) refl

  pub wrong_exactly : (call : Call) → (meets_wrong_table psc b call ≡ true → WrongTable psc b call) × (WrongTable psc b call → meets_wrong_table psc b call ≡ true)
  wrong_exactly call = (
    λ m. let p = both long (not (right_table psc)) (sym (met_exactly call (not_opening call m)) ∙ m) in
        record { lengths = (lengths_exactly _ _).0 p.0; other = not_opening call m; wrong = not-true (right_table psc) p.1 },
    λ w. met_exactly call w.other ∙ rw ((lengths_exactly (file_length b) (journal_length b)).1 w.lengths, w.wrong),
  )

  pub code_238_exactly : (call : Call) → ExactlyAt 238 0 (WrongTable psc b call) (answer_under psc b call)
  unfolding answer_under
  code_238_exactly call = go (meets_wrong_table psc b call) refl
    where
      go : (t : Bool) → meets_wrong_table psc b call ≡ t → ExactlyAt 238 0 (WrongTable psc b call) (cond t wrong_table (answer_to (posted (holds psc)) b call))
      go true e = record { when = (λ z. (wrong_exactly call).0 e, λ w. refl); there = λ z. refl }
      go false e = never_given (never_238 (posted (holds psc)) (posted_fit (holds psc)) b call) (λ w. clash ((wrong_exactly call).1 w) e)

  -- ---- every other code, under whatever condition it is given by the verdict: then, and if no wrong table is met
  pub other_code_exactly : (call : Call) (c p : ℕ) (condition : Type 0) → (238 ≡ c → ⊥) → ExactlyAt c p condition (answer_to (posted (holds psc)) b call)
      → ExactlyAt c p ((WrongTable psc b call → ⊥) × condition) (answer_under psc b call)
  unfolding answer_under
  other_code_exactly call c p condition other e = go (meets_wrong_table psc b call) refl
    where
      go : (t : Bool) → meets_wrong_table psc b call ≡ t → ExactlyAt c p ((WrongTable psc b call → ⊥) × condition) (cond t wrong_table (answer_to (posted (holds psc)) b call))
      go true m = never_given other (λ h. h.0 ((wrong_exactly call).0 m))
      go false m = record { when = (λ z. (λ w. clash ((wrong_exactly call).1 w) m, e.when.0 z), λ h. e.when.1 h.1); there = e.there }

  -- ---- a refusal leaves the batch as it was
  pub refused_leaves : (call : Call) → ((answer_under psc b call).code ≡ 0 → ⊥) → after_under psc b call ≡ unchanged b call
  unfolding answer_under after_under after
  refused_leaves call = go (meets_wrong_table psc b call)
    where
      go : (t : Bool) → ((cond t wrong_table (answer_to (posted (holds psc)) b call)).code ≡ 0 → ⊥) → cond t (unchanged b call) (after (posted (holds psc)) b call) ≡ unchanged b call
      go true z = refl
      go false z = rw (ne_eqb (answer_to (posted (holds psc)) b call).code 0 z)

-- ---- what a call did by looking up in a right table it did by what the table holds
pub looked_up : (psc : List ℕ) (b : Batch) (call : Call) (r : Answer) (counts : Counts) (file journal : List ℕ) → right_table psc ≡ true → CalledBy (posted (found psc)) b call r counts file journal
    → Called psc b call r counts file journal
looked_up psc b call r counts file journal right p =
    let held : CalledBy (posted (holds psc)) b call r counts file journal = subst (λ (k : Known). CalledBy (posted k) b call r counts file journal) (found_is_holds psc right) p in
    let none = none_met psc b call right in
    rw (right_answers psc b call none, right_leaves psc b call none) held

-- ---- which postcodes exist changes no other answer to an action than 21 and 24
pub rule_stays : (known : Known) (recs : List (List ℕ)) (places room : ℕ) (a : Action) → ((body_answer (posted known) a).code ≡ 21 → ⊥) → ((body_answer (posted known) a).code ≡ 24 → ⊥)
    → entry_rule (posted known) recs places room a ≡ entry_rule (posted any_postcode) recs places room a
unfolding entry_rule action_rule
rule_stays known recs places room (Addition rec) n21 n24 = rw (others_stay (to_post known) rec n21 n24)
rule_stays known recs places room (Amendment rec) n21 n24 = rw (others_stay (to_post known) rec n21 n24)
rule_stays known recs places room (Cancellation id) n21 n24 = refl
