-- What a call meets: wrong lengths, nothing that stands, or a state and its rules. For any verdict.
-- Assumes nothing.
use Prim.Native.Nat.{ℕ, ◌%◌}
use mathlib.Core.Path.{◌≡◌, refl, sym, ap, ◌∙◌}
use mathlib.Core.Bool.{Bool, true, false, cond, ◌&&◌, and-eq-true_iff}
use mathlib.Core.Logic.{◌↔◌, ◌⊎◌, inl, inr}
use mathlib.Core.List.{[]}
use mathlib.Core.Option.{Option, none, some, none-ne-some}
use native.Mathlib.Omega.{arith}
use borrow.Author.Tests.{eq-eqb, eqb-true, leb-true, le-leb}
use lib.Dec.{eqb, leb}
use Rattle.text.specs.declared.Answer.{Answer}
use Rattle.text.specs.Answers.{answer, accepted}
use Rattle.batch.specs.Rules.{Verdict}
use Rattle.batch.specs.Batch.{Batch, Call, Open, Add, Amend, Cancel, Undo, right_lengths, State, state, made, rules, file_length, journal_length, stands_in, Stands, ruled, answer_to, next_of, unchanged, after}
use Rattle.batch.specs.History.{GoodLengths}
use Rattle.batch.proofs.Standing.{stands_exactly}

-- ---- the lengths
pub lengths_exactly : (n m : ℕ) → (right_lengths n m ≡ true) ↔ GoodLengths n m
unfolding right_lengths
lengths_exactly n m = (
  λ t.
      let p = (and-eq-true_iff (eqb (n % 401) 0 && leb 401 n && leb n 400599 && leb 403 m) (leb m 1048576)).0 t in
      let q = (and-eq-true_iff (eqb (n % 401) 0 && leb 401 n && leb n 400599) (leb 403 m)).0 p.0 in
      let r = (and-eq-true_iff (eqb (n % 401) 0 && leb 401 n) (leb n 400599)).0 q.0 in
      let s = (and-eq-true_iff (eqb (n % 401) 0) (leb 401 n)).0 r.0 in
      record { multiple = eqb-true _ _ s.0; least = leb-true _ _ s.1; most = leb-true _ _ r.1; journal_least = leb-true _ _ q.1; journal_most = leb-true _ _ p.1 },
  λ g. rw (eq-eqb (n % 401) 0 g.multiple, le-leb 401 n g.least, le-leb n 400599 g.most, le-leb 403 m g.journal_least, le-leb m 1048576 g.journal_most),
)

-- ---- an opening, whatever the buffers and counts held
module _ (v : Verdict) (b : Batch) where
  pub open_answers : answer_to v b Open ≡ cond (right_lengths (file_length b) (journal_length b)) accepted (answer 235 0)
  unfolding answer_to rules
  open_answers = ap (λ (r : Answer). cond (right_lengths (file_length b) (journal_length b)) r (answer 235 0)) (go (stands_in v b))
    where
      go : (o : Option State) → ruled v (file_length b) (journal_length b) o Open ≡ accepted
      go none = refl
      go (some s) = refl

  open_next : (o : Option State) → next_of o Open ≡ state []
  open_next none = refl
  open_next (some s) = refl

  pub open_after : after v b Open ≡ cond (right_lengths (file_length b) (journal_length b)) (made (file_length b) (journal_length b) (state [])) (unchanged b Open)
  unfolding after
  open_after = rw (open_answers, open_next (stands_in v b)) (go (right_lengths (file_length b) (journal_length b)))
    where
      go : (t : Bool) → cond (eqb (cond t accepted (answer 235 0)).code 0) (made (file_length b) (journal_length b) (state [])) (unchanged b Open) ≡ cond t (made (file_length b) (journal_length b) (state [])) (unchanged b Open)
      go true = refl
      go false = refl

  module _ (good : right_lengths (file_length b) (journal_length b) ≡ true) where
    pub opens : answer_to v b Open ≡ accepted
    opens = rw open_answers (rw good)

    pub opened_is : after v b Open ≡ made (file_length b) (journal_length b) (state [])
    opened_is = rw open_after (rw good)

-- ---- any other call
pub undo_is_none : Undo ≡ Open → ⊥
undo_is_none e = let z : ◌≡◌ {A = ℕ} 0 1 = cc in omega arith

pub opening_or_other : (call : Call) → (call ≡ Open) ⊎ (call ≡ Open → ⊥)
opening_or_other Open = inl refl
opening_or_other (Add rec) = inr (λ e. let z : ◌≡◌ {A = ℕ} 0 1 = cc in omega arith)
opening_or_other (Amend rec) = inr (λ e. let z : ◌≡◌ {A = ℕ} 0 1 = cc in omega arith)
opening_or_other (Cancel id) = inr (λ e. let z : ◌≡◌ {A = ℕ} 0 1 = cc in omega arith)
opening_or_other Undo = inr undo_is_none

pub data Meets (v : Verdict) (b : Batch) (call : Call) : Answer → Type 0 where
  wrong_lengths : right_lengths (file_length b) (journal_length b) ≡ false → Meets v b call (answer 235 0)
  nothing : right_lengths (file_length b) (journal_length b) ≡ true → ((s : State) → Stands v b s → ⊥) → Meets v b call (answer 237 0)
  by_rules : (s : State) → Stands v b s → Meets v b call (rules v (file_length b) (journal_length b) s call)

module _ (v : Verdict) (b : Batch) where
  abbrev n : ℕ
  n = file_length b

  abbrev m : ℕ
  m = journal_length b

  none_stands : stands_in v b ≡ none → (s : State) → Stands v b s → ⊥
  none_stands e s st = none-ne-some s (sym e ∙ (stands_exactly v b s).1 st)

  without : (call : Call) → (call ≡ Open → ⊥) → ruled v n m none call ≡ answer 237 0
  without Open other = absurd (other refl)
  without (Add rec) other = refl
  without (Amend rec) other = refl
  without (Cancel id) other = refl
  without Undo other = refl

  pub meets : (call : Call) → (call ≡ Open → ⊥) → Meets v b call (answer_to v b call)
  unfolding answer_to
  meets call other = go (right_lengths n m) refl (stands_in v b) refl
    where
      go : (t : Bool) → right_lengths n m ≡ t → (o : Option State) → stands_in v b ≡ o → Meets v b call (cond t (ruled v n m o call) (answer 235 0))
      go false e o h = wrong_lengths e
      go true e none h = rw (without call other) (nothing e (none_stands h))
      go true e (some s) h = by_rules s ((stands_exactly v b s).0 h)

  -- where it is accepted, a state stands, and its rules accept it
  pub record AcceptedBy (call : Call) : Type 0 where
    pub standing : State
    pub stands : Stands v b standing
    pub rule : (rules v n m standing call).code ≡ 0

  pub accepted_by : (call : Call) → (call ≡ Open → ⊥) → (answer_to v b call).code ≡ 0 → AcceptedBy call
  accepted_by call other z = go (meets call other) z
    where
      go : {a : Answer} → Meets v b call a → a.code ≡ 0 → AcceptedBy call
      go (wrong_lengths e) z = absurd (omega (arith, z))
      go (nothing e l) z = absurd (omega (arith, z))
      go (by_rules s st) z = record { standing = s; stands = st; rule = z }
