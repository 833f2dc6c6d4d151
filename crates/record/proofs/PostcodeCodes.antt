-- A domestic postcode that does not exist: 21 exactly under service 41, 24 exactly without it. Which postcodes exist changes no other answer.
-- Assumes nothing.
use Prim.Native.Nat.{ℕ}
use mathlib.Core.Path.{◌≡◌, refl, sym, ap, ◌∙◌}
use mathlib.Core.Bool.{Bool, true, false, cond, not, ◌||◌}
use mathlib.Core.List.{List, [], ◌∷◌, ◌++◌}
use mathlib.Core.Logic.{◌↔◌}
use native.Mathlib.Omega.{arith}
use borrow.Author.Tests.{not-true, eqb-true}
use lib.Dec.{eqb}
use lib.ListN.{length}
use Rattle.text.specs.declared.Answer.{Answer}
use Rattle.text.specs.Answers.{answer, wrong_length}
use Rattle.text.proofs.Booleans.{clash}
use Rattle.layout.specs.Layout.{field_of}
use Rattle.psc.specs.Table.{right_table, wrong_table, Known, holds}
use Rattle.fields.specs.Readings.{PostcodeReading}
use Rattle.fields.specs.declared.postcodes.Postcode.TheVariants as Postcode
use Rattle.fields.specs.declared.reading.Reading.TheVariants as Reading
use Rattle.fields.specs.Others.{read_country}
use Rattle.fields.proofs.PostcodeLaws.{home_exactly, domestic_exactly}
use Rattle.record.specs.Table.{Case, Rule, first_case, verdict, any_case, broken}
use Rattle.record.specs.Readings.{address_of, contact_of, goods_of, marks_of, piece_of}
use Rattle.record.specs.Rules.{Terms, terms, asked_of, asks_for, unlisted, two_codes, later_rules, table, record_answer, check_answer}
use Rattle.record.specs.Codes.{lacks}
use Rattle.record.specs.Outcomes.{no_case, none_broken, ExactlyAt, NotKnown, before_postcode, PostcodeNotKnown, any_postcode, with_any_postcode}
use Rattle.record.proofs.Order.{no_other_code}
use Rattle.record.proofs.Turns.{never_given}
use Rattle.record.proofs.TwoCodes.{one_code, TwoRows, new_code_exactly, old_code_exactly}

-- ---- a postcode that is looked up and not known
not_known : (known : Known) (p : PostcodeReading) → unlisted known p ≡ true → (n : ℕ) × (p ≡ Reading.Value (Postcode.Domestic n)) × (known n ≡ false)
not_known known Reading.Absent h = absurd (clash h refl)
not_known known (Reading.Value (Postcode.Domestic n)) h = (n, refl, not-true (known n) h)
not_known known (Reading.Value (Postcode.Foreign n)) h = absurd (clash h refl)
not_known known Reading.Malformed h = absurd (clash h refl)

-- where any postcode exists none is missing
any_known : (p : PostcodeReading) → unlisted any_postcode p ≡ false
any_known Reading.Absent = refl
any_known (Reading.Value (Postcode.Domestic n)) = refl
any_known (Reading.Value (Postcode.Foreign n)) = refl
any_known Reading.Malformed = refl

-- a row that is broken decides, whatever stands behind
case_decides : (c : ℕ) (ks : List Case) (a b : Answer) → any_case ks ≡ true → first_case c ks a ≡ first_case c ks b
case_decides c [] a b h = absurd (clash h refl)
case_decides c (k ∷ ks) a b h = go k.when h (case_decides c ks a b)
  where
    go : (t : Bool) → (t || any_case ks) ≡ true → (any_case ks ≡ true → first_case c ks a ≡ first_case c ks b)
        → cond t (answer c k.place) (first_case c ks a) ≡ cond t (answer c k.place) (first_case c ks b)
    go true h later = refl
    go false h later = later h

decided : (before xs ys : List Rule) → none_broken before ≡ false → verdict (before ++ xs) ≡ verdict (before ++ ys)
unfolding none_broken
decided [] xs ys h = absurd (clash refl h)
decided (r ∷ before) xs ys h = go (broken r) refl h (decided before xs ys)
  where
    go : (t : Bool) → broken r ≡ t → cond t false (none_broken before) ≡ false → (none_broken before ≡ false → verdict (before ++ xs) ≡ verdict (before ++ ys))
        → first_case r.code r.cases (verdict (before ++ xs)) ≡ first_case r.code r.cases (verdict (before ++ ys))
    go true e h later = case_decides r.code r.cases (verdict (before ++ xs)) (verdict (before ++ ys)) e
    go false e h later = ap (first_case r.code r.cases) (later h)

module _ (t : Terms) (rec : List ℕ) where
  abbrev missing : Bool
  missing = unlisted t.known (address_of rec).postcode

  abbrev behind_postcode : List Rule
  behind_postcode = later_rules rec (contact_of rec) (goods_of rec) (marks_of rec) (piece_of rec)

  rows : TwoRows t rec (before_postcode t.to_be_posted rec) 21 24 5 missing (asks_for rec 41) behind_postcode
  unfolding table asked_of lacks one_code
  rows = record { split = refl; first = refl; later = refl; none = refl; differ = λ e. omega arith }

  means : (missing ≡ true) ↔ NotKnown t.known rec
  means = (to, from)
    where
      to : missing ≡ true → NotKnown t.known rec
      to h =
          let m = not_known t.known (address_of rec).postcode h in
          let d = (domestic_exactly (read_country (field_of rec 6)) (field_of rec 5) m.0).0 m.1 in
          record { number = m.0; home = (home_exactly (field_of rec 6)).0 d.0; digits = d.1; unknown = m.2 }

      from : NotKnown t.known rec → missing ≡ true
      from n =
          let d : (address_of rec).postcode ≡ Reading.Value (Postcode.Domestic n.number) = (domestic_exactly (read_country (field_of rec 6)) (field_of rec 5) n.number).1 ((home_exactly (field_of rec 6)).1 n.home, n.digits) in
          ap (unlisted t.known) d ∙ ap not n.unknown

  -- ---- 21 and 24, each with its place
  pub code_21_exactly : ExactlyAt 21 5 (PostcodeNotKnown t rec × (asks_for rec 41 ≡ true)) (record_answer t rec)
  code_21_exactly = new_code_exactly rows (NotKnown t.known rec) means

  pub code_24_exactly : ExactlyAt 24 5 (PostcodeNotKnown t rec × (asks_for rec 41 ≡ false)) (record_answer t rec)
  code_24_exactly = old_code_exactly rows (NotKnown t.known rec) means

  abbrev rows_from : Bool → List Rule
  rows_from b = two_codes 21 24 5 b (asks_for rec 41) ++ behind_postcode

  -- ---- every other answer is the one that is given where any postcode exists
  pub others_stay : ((record_answer t rec).code ≡ 21 → ⊥) → ((record_answer t rec).code ≡ 24 → ⊥) → record_answer t rec ≡ record_answer (with_any_postcode t) rec
  unfolding record_answer table asked_of no_case
  others_stay n21 n24 = go missing refl (eqb (length rec) 399) refl (none_broken (before_postcode t.to_be_posted rec)) refl
    where
      either : length rec ≡ 399 → missing ≡ true → none_broken (before_postcode t.to_be_posted rec) ≡ true → (s : Bool) → asks_for rec 41 ≡ s → ⊥
      either long e turn true h = n21 (code_21_exactly.when.1 (record { long = long; turn = turn; first = refl; holds = means.0 e }, h))
      either long e turn false h = n24 (code_24_exactly.when.1 (record { long = long; turn = turn; first = refl; holds = means.0 e }, h))

      go : (m : Bool) → missing ≡ m → (long : Bool) → eqb (length rec) 399 ≡ long → (kept : Bool) → none_broken (before_postcode t.to_be_posted rec) ≡ kept
          → cond long (verdict (table t rec)) wrong_length ≡ cond long (verdict (table (with_any_postcode t) rec)) wrong_length
      go false e long l kept k = ap (λ (b : Bool). cond long (verdict (before_postcode t.to_be_posted rec ++ rows_from b)) wrong_length) (e ∙ sym (any_known (address_of rec).postcode))
      go true e true l true k = absurd (either (eqb-true _ 399 l) e k (asks_for rec 41) refl)
      go true e true l false k = decided (before_postcode t.to_be_posted rec) (rows_from missing) (rows_from (unlisted any_postcode (address_of rec).postcode)) k
      go true e false l kept k = refl

-- ---- under a lent table: 238 exactly if it is wrong, before all else; and under a right one the record's answer by what it holds
pub wrong_table_exactly : (to_be_posted : Bool) (psc rec : List ℕ) → ExactlyAt 238 0 (right_table psc ≡ false) (check_answer to_be_posted psc rec)
unfolding check_answer lacks
wrong_table_exactly to_be_posted psc rec = go (right_table psc)
  where
    go : (r : Bool) → ExactlyAt 238 0 (r ≡ false) (cond r (record_answer (terms to_be_posted (holds psc)) rec) wrong_table)
    go true = never_given (no_other_code (terms to_be_posted (holds psc)) rec 238 refl) (λ e. clash refl e)
    go false = record { when = (λ z. refl, λ e. refl); there = λ z. refl }

pub right_table_lem : (to_be_posted : Bool) (psc rec : List ℕ) → right_table psc ≡ true → check_answer to_be_posted psc rec ≡ record_answer (terms to_be_posted (holds psc)) rec
unfolding check_answer
right_table_lem to_be_posted psc rec r = rw r
