-- One row of a table in its turn, over any table: exactly when its code is given, and at which of its places; and which answers move when it is made two.
-- Assumes nothing.
use Prim.Native.Nat.{ℕ}
use mathlib.Core.Path.{◌≡◌, refl, sym, ap, ◌∙◌}
use mathlib.Core.Bool.{Bool, true, false, cond, not, ◌&&◌}
use mathlib.Core.List.{List, [], ◌∷◌, ◌++◌, map}
use mathlib.Core.Logic.{◌↔◌}
use borrow.Author.Tests.{eq-eqb, ne_eqb, eqb-true, eqb-false}
use lib.Dec.{eqb}
use lib.ListN.{length}
use Rattle.text.specs.declared.Answer.{Answer}
use Rattle.text.specs.Answers.{answer, wrong_length}
use Rattle.text.proofs.Booleans.{clash}
use Rattle.record.specs.Table.{Case, Rule, at, rule, first_case, verdict, code_of}
use Rattle.record.specs.Codes.{lacks}
use Rattle.record.specs.Rules.{Terms, table, record_answer}
use Rattle.record.specs.Outcomes.{no_case, none_broken, ExactlyAt, InItsTurn}
use Rattle.record.proofs.Codes.{Lacking, lacking}
use Rattle.record.proofs.Order.{Judged, passes, breaks, judge_case, none_other}

-- what is bad exactly if it is not good
pub bad_exactly : {good : Type 0} (bad : Bool) → (bad ≡ false) ↔ good → (bad ≡ true) ↔ (good → ⊥)
bad_exactly true e = (λ h g. clash refl (e.1 g), λ n. refl)
bad_exactly false e = (λ h. absurd (clash h refl), λ n. absurd (n (e.0 refl)))

-- a code that does not come, for a condition that does not hold
pub never_given : {c p : ℕ} {condition : Type 0} {a : Answer} → (a.code ≡ c → ⊥) → (condition → ⊥) → ExactlyAt c p condition a
never_given n m = record { when = (λ z. absurd (n z), λ h. absurd (m h)); there = λ z. absurd (n z) }

-- ---- a row with one case: its code is given exactly if no row before it is broken and its case holds, and then at its place
pub case_exactly : (before : List Rule) (c p : ℕ) (b : Bool) (after : List Rule) → lacks c (map code_of before) ≡ true → lacks c (0 ∷ map code_of after) ≡ true
    → ExactlyAt c p ((none_broken before ≡ true) × (b ≡ true)) (verdict (before ++ rule c (at p b ∷ []) ∷ after))
unfolding none_broken
case_exactly [] c p true after first later = record { when = (λ z. (refl, refl), λ h. refl); there = λ z. refl }
case_exactly [] c p false after first later = never_given (none_other c after later) (λ h. clash h.1 refl)
case_exactly (x ∷ before) c p b after first later =
    go (judge_case x.code x.cases (verdict (before ++ rule c (at p b ∷ []) ∷ after))) (lacking c x.code (map code_of before) first)
    (case_exactly before c p b after (lacking c x.code (map code_of before) first).rest later)
  where
    go : {a v : Answer} → Judged x.code x.cases v a → Lacking c x.code (map code_of before) → ExactlyAt c p ((none_broken before ≡ true) × (b ≡ true)) v
        → ExactlyAt c p ((none_broken (x ∷ before) ≡ true) × (b ≡ true)) a
    go (passes n e) l h = rw (e, n) h
    go (breaks y f) l h = never_given (λ z. l.first (sym (ap (λ (v : Answer). v.code) f.says) ∙ z)) (λ g. clash g.0 (rw y))

-- the same of what is answered to a record by such a table
pub row_exactly : (rec : List ℕ) (before : List Rule) (c p : ℕ) (b : Bool) (after : List Rule) (condition : Type 0) → (b ≡ true) ↔ condition
    → lacks c (236 ∷ map code_of before) ≡ true → lacks c (0 ∷ map code_of after) ≡ true
    → ExactlyAt c p (InItsTurn rec before [] condition) (cond (eqb (length rec) 399) (verdict (before ++ rule c (at p b ∷ []) ∷ after)) wrong_length)
unfolding no_case
row_exactly rec before c p b after condition means first later =
    let l = lacking c 236 (map code_of before) first in
    go (eqb (length rec) 399) refl l.first (case_exactly before c p b after l.rest later)
  where
    go : (long : Bool) → eqb (length rec) 399 ≡ long → (◌≡◌ {A = ℕ} 236 c → ⊥) → ExactlyAt c p ((none_broken before ≡ true) × (b ≡ true)) (verdict (before ++ rule c (at p b ∷ []) ∷ after))
        → ExactlyAt c p (InItsTurn rec before [] condition) (cond long (verdict (before ++ rule c (at p b ∷ []) ∷ after)) wrong_length)
    go true l n e = record {
      when = (
        λ z. record { long = eqb-true _ 399 l; turn = (e.when.0 z).0; first = refl; holds = means.0 (e.when.0 z).1 },
        λ w. e.when.1 (w.turn, means.1 w.holds),
      );
      there = e.there;
    }
    go false l n e = never_given n (λ w. eqb-false _ 399 l w.long)

-- ---- a row with several cases, one at this place: its code comes with this place exactly if no row before it is broken, no case before this one holds,
-- and this one does
abbrev place_of : Case → ℕ
place_of k = k.place

place_other : (c p : ℕ) (ks : List Case) (v : Answer) → lacks p (map place_of ks) ≡ true → (v ≡ answer c p → ⊥) → first_case c ks v ≡ answer c p → ⊥
place_other c p [] v l n = n
place_other c p (k ∷ ks) v l n = let m = lacking p k.place (map place_of ks) l in go k.when m.first (place_other c p ks v m.rest n)
  where
    go : (t : Bool) → (k.place ≡ p → ⊥) → (first_case c ks v ≡ answer c p → ⊥) → cond t (answer c k.place) (first_case c ks v) ≡ answer c p → ⊥
    go true other n e = other (ap (λ (a : Answer). a.place) e)
    go false other n e = n e

case_place : (c p : ℕ) (earlier : List Case) (b : Bool) (later : List Case) (v : Answer) → lacks p (map place_of earlier) ≡ true → lacks p (map place_of later) ≡ true → (v ≡ answer c p → ⊥)
    → (first_case c (earlier ++ at p b ∷ later) v ≡ answer c p) ↔ ((no_case earlier ≡ true) × (b ≡ true))
unfolding no_case
case_place c p [] true later v first last n = (λ e. (refl, refl), λ h. refl)
case_place c p [] false later v first last n = (λ e. absurd (place_other c p later v last n e), λ h. absurd (clash h.1 refl))
case_place c p (k ∷ earlier) b later v first last n =
    let m = lacking p k.place (map place_of earlier) first in
    go k.when m.first (case_place c p earlier b later v m.rest last n)
  where
    go : (t : Bool) → (k.place ≡ p → ⊥) → (first_case c (earlier ++ at p b ∷ later) v ≡ answer c p) ↔ ((no_case earlier ≡ true) × (b ≡ true))
        → (cond t (answer c k.place) (first_case c (earlier ++ at p b ∷ later) v) ≡ answer c p) ↔ ((cond t false (no_case earlier) ≡ true) × (b ≡ true))
    go true other i = (λ e. absurd (other (ap (λ (a : Answer). a.place) e)), λ h. absurd (clash h.0 refl))
    go false other i = i

pub place_exactly : (before : List Rule) (c p : ℕ) (earlier : List Case) (b : Bool) (later : List Case) (after : List Rule)
    → lacks c (map code_of before) ≡ true → lacks c (0 ∷ map code_of after) ≡ true → lacks p (map place_of earlier) ≡ true → lacks p (map place_of later) ≡ true
    → (verdict (before ++ rule c (earlier ++ at p b ∷ later) ∷ after) ≡ answer c p) ↔ ((none_broken before ≡ true) × ((no_case earlier ≡ true) × (b ≡ true)))
unfolding none_broken
place_exactly [] c p earlier b later after rows behind first last =
    let i = case_place c p earlier b later (verdict after) first last (λ e. none_other c after behind (ap (λ (a : Answer). a.code) e)) in
    (λ e. (refl, i.0 e), λ h. i.1 h.1)
place_exactly (x ∷ before) c p earlier b later after rows behind first last =
    let m = lacking c x.code (map code_of before) rows in
    go (judge_case x.code x.cases (verdict (before ++ rule c (earlier ++ at p b ∷ later) ∷ after))) m.first (place_exactly before c p earlier b later after m.rest behind first last)
  where
    go : {a v : Answer} → Judged x.code x.cases v a → (x.code ≡ c → ⊥) → (v ≡ answer c p) ↔ ((none_broken before ≡ true) × ((no_case earlier ≡ true) × (b ≡ true)))
        → (a ≡ answer c p) ↔ ((none_broken (x ∷ before) ≡ true) × ((no_case earlier ≡ true) × (b ≡ true)))
    go (passes n e) other h = rw (e, n) h
    go (breaks y f) other h = (λ e. absurd (other (sym (ap (λ (a : Answer). a.code) f.says) ∙ ap (λ (a : Answer). a.code) e)), λ g. absurd (clash g.0 (rw y)))

-- the same of the record's answer
pub turn_exactly : (t : Terms) (rec : List ℕ) (before : List Rule) (c p : ℕ) (earlier : List Case) (b : Bool) (later : List Case) (after : List Rule) (condition : Type 0)
    → (b ≡ true) ↔ condition → table t rec ≡ before ++ rule c (earlier ++ at p b ∷ later) ∷ after
    → lacks c (236 ∷ map code_of before) ≡ true → lacks c (0 ∷ map code_of after) ≡ true → lacks p (map place_of earlier) ≡ true → lacks p (map place_of later) ≡ true
    → (record_answer t rec ≡ answer c p) ↔ InItsTurn rec before earlier condition
unfolding record_answer
turn_exactly t rec before c p earlier b later after condition means split rows behind first last =
    let m = lacking c 236 (map code_of before) rows in
    go (eqb (length rec) 399) refl m.first (place_exactly before c p earlier b later after m.rest behind first last)
  where
    go : (long : Bool) → eqb (length rec) 399 ≡ long → (◌≡◌ {A = ℕ} 236 c → ⊥)
        → (verdict (before ++ rule c (earlier ++ at p b ∷ later) ∷ after) ≡ answer c p) ↔ ((none_broken before ≡ true) × ((no_case earlier ≡ true) × (b ≡ true)))
        → (cond long (verdict (table t rec)) wrong_length ≡ answer c p) ↔ InItsTurn rec before earlier condition
    go true e other i = (
      λ z. let h = i.0 (sym (ap verdict split) ∙ z) in record { long = eqb-true _ 399 e; turn = h.0; first = h.1.0; holds = means.0 h.1.1 },
      λ w. ap verdict split ∙ i.1 (w.turn, (w.first, means.1 w.holds)),
    )
    go false e other i = (λ z. absurd (other (ap (λ (a : Answer). a.code) z)), λ w. absurd (eqb-false _ 399 e w.long))

-- ---- a row made two by a condition
-- where this code was given and the condition holds, the new code at this place; every other answer stays
abbrev pub moved : ℕ → ℕ → ℕ → Bool → Answer → Answer
moved old new p s a = cond (eqb a.code old && s) (answer new p) a

stays : (old new p : ℕ) (s : Bool) (a : Answer) → (a.code ≡ old → ⊥) → moved old new p s a ≡ a
stays old new p s a n = rw (ne_eqb a.code old n)

behind_cases : (old new p : ℕ) (s : Bool) (c : ℕ) (ks : List Case) (v : Answer) → (c ≡ old → ⊥) → first_case c ks (moved old new p s v) ≡ moved old new p s (first_case c ks v)
behind_cases old new p s c [] v n = refl
behind_cases old new p s c (k ∷ ks) v n = go k.when (behind_cases old new p s c ks v n)
  where
    go : (t : Bool) → first_case c ks (moved old new p s v) ≡ moved old new p s (first_case c ks v)
        → cond t (answer c k.place) (first_case c ks (moved old new p s v)) ≡ moved old new p s (cond t (answer c k.place) (first_case c ks v))
    go true h = sym (stays old new p s (answer c k.place) n)
    go false h = h

pub made_two : (before : List Rule) (old new p : ℕ) (b s : Bool) (after : List Rule) → lacks old (map code_of before) ≡ true → lacks old (0 ∷ map code_of after) ≡ true
    → verdict (before ++ rule new (at p (b && s) ∷ []) ∷ rule old (at p (b && not s) ∷ []) ∷ after) ≡ moved old new p s (verdict (before ++ rule old (at p b ∷ []) ∷ after))
made_two [] old new p true true after first later = rw (eq-eqb old old refl)
made_two [] old new p true false after first later = rw (eq-eqb old old refl)
made_two [] old new p false s after first later = sym (stays old new p s (verdict after) (none_other old after later))
made_two (x ∷ before) old new p b s after first later =
    let l = lacking old x.code (map code_of before) first in
    ap (first_case x.code x.cases) (made_two before old new p b s after l.rest later) ∙ behind_cases old new p s x.code x.cases _ l.first

-- so the new code is given exactly where the old one was and the condition holds, and the old one where it does not
module _ (old new p : ℕ) (s : Bool) (condition : Type 0) (a : Answer) (e : ExactlyAt old p condition a) (n : a.code ≡ new → ⊥) (d : new ≡ old → ⊥) where
  pub new_exactly : ExactlyAt new p (condition × (s ≡ true)) (moved old new p s a)
  new_exactly = go (eqb a.code old) refl s
    where
      go : (t : Bool) → eqb a.code old ≡ t → (s : Bool) → ExactlyAt new p (condition × (s ≡ true)) (cond (t && s) (answer new p) a)
      go true h true = record { when = (λ z. (e.when.0 (eqb-true _ old h), refl), λ c. refl); there = λ z. refl }
      go true h false = never_given n (λ c. clash c.1 refl)
      go false h s = never_given n (λ c. eqb-false _ old h (e.when.1 c.0))

  pub old_exactly : ExactlyAt old p (condition × (s ≡ false)) (moved old new p s a)
  old_exactly = go (eqb a.code old) refl s
    where
      go : (t : Bool) → eqb a.code old ≡ t → (s : Bool) → ExactlyAt old p (condition × (s ≡ false)) (cond (t && s) (answer new p) a)
      go true h true = never_given d (λ c. clash refl c.1)
      go true h false = record { when = (λ z. (e.when.0 z, refl), λ c. e.when.1 c.0); there = e.there }
      go false h s = never_given (eqb-false _ old h) (λ c. eqb-false _ old h (e.when.1 c.0))

  pub answer_moves : (moved old new p s a ≡ a → ⊥) ↔ ((a.code ≡ old) × (s ≡ true))
  answer_moves = go (eqb a.code old) refl s
    where
      go : (t : Bool) → eqb a.code old ≡ t → (s : Bool) → (cond (t && s) (answer new p) a ≡ a → ⊥) ↔ ((a.code ≡ old) × (s ≡ true))
      go true h true = (λ m. (eqb-true _ old h, refl), λ c q. n (sym (ap (λ (x : Answer). x.code) q)))
      go true h false = (λ m. absurd (m refl), λ c. absurd (clash c.1 refl))
      go false h s = (λ m. absurd (m refl), λ c. absurd (eqb-false _ old h c.0))
