-- A break with two codes in the record's table, one under service 41 and one without it: when each is given, exactly; and beside the table with one
-- code for both, which answers move. Over any such pair of rows.
-- Assumes nothing.
use Prim.Native.Nat.{ℕ}
use mathlib.Core.Path.{◌≡◌, ap, ◌∙◌}
use mathlib.Core.Bool.{Bool, true, false, cond}
use mathlib.Core.List.{List, [], ◌∷◌, ◌++◌, map}
use mathlib.Core.Logic.{◌↔◌}
use borrow.Author.Tests.{ne_eqb}
use lib.Dec.{eqb}
use lib.ListN.{length}
use Rattle.text.specs.declared.Answer.{Answer}
use Rattle.text.specs.Answers.{wrong_length}
use Rattle.record.specs.Table.{Rule, at, rule, verdict, code_of}
use Rattle.record.specs.Rules.{Terms, two_codes, table, record_answer}
use Rattle.record.specs.Codes.{lacks}
use Rattle.record.specs.Outcomes.{ExactlyAt, InItsTurn}
use Rattle.record.proofs.Codes.{lacking}
use Rattle.record.proofs.Order.{none_other}
use Rattle.record.proofs.Turns.{row_exactly, moved, made_two, new_exactly, old_exactly, answer_moves}

-- the table with one code for both
unfoldable pub one_code : List Rule → ℕ → ℕ → Bool → List Rule → List Rule
one_code before old p b after = before ++ rule old (at p b ∷ []) ∷ after

unfoldable pub one_code_answer : List ℕ → List Rule → Answer
one_code_answer rec rows = cond (eqb (length rec) 399) (verdict rows) wrong_length

-- the two rows stand in the record's table behind these rows and before those, and no other row has one of their codes
pub record TwoRows (t : Terms) (rec : List ℕ) (before : List Rule) (new old p : ℕ) (b s : Bool) (after : List Rule) : Type 0 where
  pub split : table t rec ≡ before ++ (two_codes new old p b s ++ after)
  pub first : lacks old (236 ∷ map code_of before) ≡ true
  pub later : lacks old (0 ∷ map code_of after) ≡ true
  pub none : lacks new (236 ∷ 0 ∷ map code_of (one_code before old p b after)) ≡ true
  pub differ : new ≡ old → ⊥

module _ {t : Terms} {rec : List ℕ} {before : List Rule} {new old p : ℕ} {b s : Bool} {after : List Rule} (rows : TwoRows t rec before new old p b s after)
    (condition : Type 0) (means : (b ≡ true) ↔ condition) where
  abbrev formerly : Answer
  formerly = one_code_answer rec (one_code before old p b after)

  -- ---- when the one code came, and that the other never did
  one_exactly : ExactlyAt old p (InItsTurn rec before [] condition) formerly
  unfolding one_code one_code_answer
  one_exactly = row_exactly rec before old p b after condition means rows.first rows.later

  never_new : formerly.code ≡ new → ⊥
  unfolding one_code_answer
  never_new =
      let l = lacking new 236 (0 ∷ map code_of (one_code before old p b after)) rows.none in
      go (eqb (length rec) 399) l.first l.rest
    where
      go : (long : Bool) → (◌≡◌ {A = ℕ} 236 new → ⊥) → lacks new (0 ∷ map code_of (one_code before old p b after)) ≡ true → (cond long (verdict (one_code before old p b after)) wrong_length).code ≡ new → ⊥
      go true n l z = none_other new (one_code before old p b after) l z
      go false n l z = n z

  -- ---- no other answer moves: the new code where it was the old one and service 41 is there, else the same
  pub only_old_moves : record_answer t rec ≡ moved old new p s formerly
  unfolding record_answer one_code one_code_answer
  only_old_moves =
      let l = lacking old 236 (map code_of before) rows.first in
      go (eqb (length rec) 399) l.first l.rest
    where
      go : (long : Bool) → (◌≡◌ {A = ℕ} 236 old → ⊥) → lacks old (map code_of before) ≡ true
          → cond long (verdict (table t rec)) wrong_length ≡ moved old new p s (cond long (verdict (before ++ rule old (at p b ∷ []) ∷ after)) wrong_length)
      go true n l = ap verdict rows.split ∙ made_two before old new p b s after l rows.later
      go false n l = rw (ne_eqb 236 old n)

  pub moves_exactly : (record_answer t rec ≡ formerly → ⊥) ↔ ((formerly.code ≡ old) × (s ≡ true))
  moves_exactly = rw only_old_moves (answer_moves old new p s (InItsTurn rec before [] condition) formerly one_exactly never_new rows.differ)

  -- ---- each with its place
  pub new_code_exactly : ExactlyAt new p (InItsTurn rec before [] condition × (s ≡ true)) (record_answer t rec)
  new_code_exactly = rw only_old_moves (new_exactly old new p s (InItsTurn rec before [] condition) formerly one_exactly never_new rows.differ)

  pub old_code_exactly : ExactlyAt old p (InItsTurn rec before [] condition × (s ≡ false)) (record_answer t rec)
  old_code_exactly = rw only_old_moves (old_exactly old new p s (InItsTurn rec before [] condition) formerly one_exactly never_new rows.differ)
