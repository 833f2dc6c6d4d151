-- The answer to a whole file, in the paper's words: 211, then 213, then the first record that breaks a rule; otherwise 0 and the totals.
-- Assumes nothing.
use Prim.Native.Nat.{ℕ, zero, suc, ◌+◌, ◌%◌, ◌≤◌, ◌<◌}
use mathlib.Core.Path.{◌≡◌, refl, sym, ap, ◌∙◌}
use mathlib.Core.Bool.{Bool, true, false, cond}
use mathlib.Core.List.{List}
use mathlib.Core.Logic.{◌↔◌}
use native.Mathlib.Numerals.{add-one}
use native.Mathlib.Omega.{arith}
use borrow.Author.Tests.{eqb-true, eqb-false, leb-true, leb-false}
use lib.Dec.{eqb, leb}
use lib.ListN.{length}
use Rattle.psc.specs.Table.{Known}
use Rattle.posting.specs.declared.FileAnswer.{FileAnswer}
use Rattle.posting.specs.File.{line_answer, totals_over, refused, passed, break_from, records_in, file_answer}
use Rattle.posting.specs.Outcomes.{FileOutcome, no_multiple, too_many, first_break, no_break, AllRight}
use Rattle.posting.proofs.Ways.{Unbroken, unbroken_start, file_odd, file_long, file_breaks, file_on, file_passes}
use Rattle.posting.proofs.Lines.{line_right_exactly}

-- the records from a up to b, without b, break no rule
abbrev pub RightFrom : Known → List ℕ → ℕ → ℕ → Type 0
RightFrom known file a b = (j : ℕ) → a ≤ j → j < b → (line_answer known file j).code ≡ 0

right_more : (known : Known) (file : List ℕ) (a b : ℕ) → (line_answer known file a).code ≡ 0 → RightFrom known file (a + 1) b → RightFrom known file a b
right_more known file a b z r j l h = go (eqb j a) refl
  where
    go : (t : Bool) → eqb j a ≡ t → (line_answer known file j).code ≡ 0
    go true e = rw (eqb-true j a e) z
    go false e = let n = eqb-false j a e in r j (omega arith) h

-- ---- the first break in n records from i on
data Found (known : Known) (file : List ℕ) (good : FileAnswer) (n i : ℕ) (a : FileAnswer) : Type 0 where
  none : RightFrom known file i (i + n) → a ≡ good → Found known file good n i a
  first : (k : ℕ) → i ≤ k → k < i + n → RightFrom known file i k → ((line_answer known file k).code ≡ 0 → ⊥)
      → a ≡ refused (line_answer known file k).code (k + 1) (line_answer known file k).place → Found known file good n i a

found : (known : Known) (file : List ℕ) (good : FileAnswer) (n i : ℕ) → Found known file good n i (break_from known file good n i)
unfolding break_from
found known file good zero i = none (λ j l h. absurd (omega arith)) refl
found known file good (suc n) i = go (eqb (line_answer known file i).code 0) refl (found known file good n (i + 1))
  where
    go : (t : Bool) → eqb (line_answer known file i).code 0 ≡ t → {b : FileAnswer} → Found known file good n (i + 1) b
        → Found known file good (suc n) i (cond t b (refused (line_answer known file i).code (i + 1) (line_answer known file i).place))
    go true e (none r g) = none (right_more known file i (i + suc n) (eqb-true _ 0 e) (λ j l h. r j l (omega arith))) g
    go true e (first k l h r x g) = first k (omega arith) (omega arith) (right_more known file i k (eqb-true _ 0 e) r) x g
    go false e f = first i (omega arith) (omega arith) (λ j l h. absurd (omega arith)) (eqb-false _ 0 e) refl

-- ---- the whole file
pub file_outcome : (known : Known) (file : List ℕ) → FileOutcome known file (file_answer known file)
unfolding file_answer
file_outcome known file = go (eqb (length file % 401) 0) refl (leb (records_in file) 999) refl (found known file _ (records_in file) 0)
  where
    go : (s : Bool) → eqb (length file % 401) 0 ≡ s → (t : Bool) → leb (records_in file) 999 ≡ t
        → {b : FileAnswer} → Found known file (passed (totals_over file (records_in file))) (records_in file) 0 b
        → FileOutcome known file (cond s (cond t b (refused 213 0 0)) (refused 211 0 0))
    go false e t f b = no_multiple (eqb-false _ 0 e) refl
    go true e false f b = too_many (eqb-true _ 0 e) (leb-false _ 999 f) refl
    go true e true f (none r g) = no_break (eqb-true _ 0 e) (leb-true _ 999 f) (λ i h. r i (omega arith) (omega arith)) g
    go true e true f (first k l h r x g) = first_break (eqb-true _ 0 e) (leb-true _ 999 f) k (omega arith) (λ j q. r j (omega arith) q) x g

-- ---- and no other answer has such an outcome
unbroken_to : (known : Known) (file : List ℕ) (k : ℕ) → k ≤ records_in file → ((j : ℕ) → j < k → (line_answer known file j).code ≡ 0) → Unbroken known file k
unbroken_to known file zero h r = unbroken_start known file
unbroken_to known file (suc k) h r =
    rw add-one at (file_on known file k (line_answer known file k) (omega arith) (unbroken_to known file k (omega arith) (λ j q. r j (omega arith))) refl (r k (omega arith)))

pub outcome_exactly : (known : Known) (file : List ℕ) (a : FileAnswer) → FileOutcome known file a ↔ (a ≡ file_answer known file)
outcome_exactly known file a = (only, λ e. rw e (file_outcome known file))
  where
    only : FileOutcome known file a → a ≡ file_answer known file
    only (no_multiple n e) = file_odd known file a n e
    only (too_many m h e) = file_long known file a m h e
    only (first_break m l i h b x e) = file_breaks known file m l i (line_answer known file i) a h (unbroken_to known file i (omega arith) b) refl x e
    only (no_break m l b e) = e ∙ file_passes known file m l (records_in file) _ (omega arith) (omega arith) (unbroken_to known file (records_in file) (omega arith) b) refl

-- ---- code 0 exactly if all rules are kept
pub accepted_exactly : (known : Known) (file : List ℕ) → ((file_answer known file).code ≡ 0) ↔ AllRight known file
accepted_exactly known file = go (file_outcome known file)
  where
    coded : {a : FileAnswer} {c n p : ℕ} → a ≡ refused c n p → (c ≡ 0 → ⊥) → a.code ≡ 0 → ⊥
    coded e n z = n (sym (ap (λ (x : FileAnswer). x.code) e) ∙ z)

    go : {a : FileAnswer} → FileOutcome known file a → (a.code ≡ 0) ↔ AllRight known file
    go (no_multiple n e) = (λ z. absurd (coded e (λ q. omega arith) z), λ r. absurd (n r.multiple))
    go (too_many m l e) = (λ z. absurd (coded e (λ q. omega arith) z), λ r. absurd (omega (arith, r.few)))
    go (first_break m l i h b x e) = (λ z. absurd (coded e x z), λ r. absurd (x ((line_right_exactly known file i).1 (r.lines i h))))
    go (no_break m l b e) = (
      λ z. record { multiple = m; few = l; lines = λ i h. (line_right_exactly known file i).0 (b i h) },
      λ r. ap (λ (x : FileAnswer). x.code) e,
    )
