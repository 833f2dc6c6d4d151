-- What the closing check answers, in the order's words: the file's own refusal; else 240 for the earliest live record whose set offends; else the totals.
-- Accepted exactly if the file is accepted and every set is whole, 240 exactly if the file is accepted and some set offends.
-- Assumes nothing.
use Prim.Native.Nat.{ℕ, zero, suc, ◌+◌, ◌≤◌, ◌<◌}
use mathlib.Core.Path.{◌≡◌, refl, sym, ◌∙◌}
use mathlib.Core.Bool.{Bool, true, false, cond, not}
use mathlib.Core.List.{List}
use mathlib.Core.Logic.{◌↔◌}
use native.Mathlib.Omega.{arith}
use borrow.Author.Tests.{eqb-true, eqb-false, not-true}
use lib.Dec.{eqb}
use Rattle.text.specs.Bytes.{is_blank}
use Rattle.text.proofs.Booleans.{both}
use Rattle.layout.specs.Layout.{field_of}
use Rattle.fields.specs.Others.{read_status}
use Rattle.psc.specs.Table.{right_table, holds}
use Rattle.record.specs.Codes.{lacks}
use Rattle.record.specs.Outcomes.{any_postcode}
use Rattle.posting.specs.declared.FileAnswer.{FileAnswer}
use Rattle.posting.specs.File.{record_at, records_in, refused, file_answer, table_refused, file_check}
use Rattle.posting.specs.Sums.{is_live}
use Rattle.posting.proofs.Codes as Codes
use Rattle.posting.proofs.Codes.{no_other_file_code}
use Rattle.posting.proofs.AnyPostcode.{file_stays}
use Rattle.closing.specs.Sets.{main_of, in_set}
use Rattle.closing.specs.Closing.{records_of, place_of, closing_answer}
use Rattle.closing.specs.Links.{WholeBefore}
use Rattle.closing.specs.Outcomes.{Whole, SetOutcome, set_of, Offends, EarliestOffends, ClosingOutcome, file_refused, set_offends, all_whole, MayClose, SetOffends}
use Rattle.closing.proofs.SetLaws.{set_outcome_exactly}
use Rattle.closing.proofs.Counting.{whole_exactly}
use Rattle.closing.proofs.Numbers.{set_numbered}
use Rattle.closing.proofs.FirstOf.{place_in_set, place_alone, whole_start, whole_more, closing_none, closing_first, refusal_stands, sets_asked}

coded : {a b : FileAnswer} {c : ℕ} → a ≡ b → a.code ≡ c → b.code ≡ c
coded e z = rw e at z

-- ---- the file check has no code 240
pub file_never_240 : (psc file : List ℕ) → (file_check psc file).code ≡ 240 → ⊥
unfolding file_check lacks
file_never_240 psc file = go (right_table psc)
  where
    go : (r : Bool) → (cond r (file_answer (holds psc) file) table_refused).code ≡ 240 → ⊥
    go true z = no_other_file_code (holds psc) file 240 refl z
    go false z = omega (arith, z)

-- ---- the place of a record
main_given : (rec : List ℕ) → in_set rec ≡ true → is_blank (main_of rec) ≡ false
unfolding in_set
main_given rec m = not-true (is_blank (main_of rec)) (both (is_live (read_status (field_of rec 19))) (not (is_blank (main_of rec))) m).1

-- ---- the first of n records with a place other than 0
data Searched (file : List ℕ) (n : ℕ) : Type 0 where
  none : WholeBefore file n → Searched file n
  first : (i : ℕ) → i < n → WholeBefore file i → (place_of (records_of file) (record_at file i) ≡ 0 → ⊥) → Searched file n

searched : (file : List ℕ) (n : ℕ) → Searched file n
searched file zero = none (whole_start file)
searched file (suc n) = go (searched file n) (eqb (place_of (records_of file) (record_at file n)) 0) refl
  where
    go : Searched file n → (t : Bool) → eqb (place_of (records_of file) (record_at file n)) 0 ≡ t → Searched file (suc n)
    go (first i h w x) t e = first i (omega arith) w x
    go (none w) true e = none (whole_more file n w (eqb-true _ 0 e))
    go (none w) false e = first n (omega arith) w (eqb-false _ 0 e)

-- ---- an accepted file
module _ (psc file : List ℕ) (z : (file_check psc file).code ≡ 0) where
  place_whole : (i : ℕ) → in_set (record_at file i) ≡ true → (place_of (records_of file) (record_at file i) ≡ 0) ↔ Whole (set_of file i)
  place_whole i m =
      rw (place_in_set (records_of file) (record_at file i) m)
      (whole_exactly (set_of file i) (set_numbered psc file z (main_of (record_at file i)) (main_given (record_at file i) m)))

  -- a place other than 0 exactly if the record is live and its set offends
  pub place_exactly : (i : ℕ) → i < records_in file → (place_of (records_of file) (record_at file i) ≡ 0 → ⊥) ↔ Offends file i
  place_exactly i h = (go (in_set (record_at file i)) refl, λ o p. o.broken ((place_whole i o.member).0 p))
    where
      go : (t : Bool) → in_set (record_at file i) ≡ t → (place_of (records_of file) (record_at file i) ≡ 0 → ⊥) → Offends file i
      go true m x = record { inside = h; member = m; broken = λ w. x ((place_whole i m).1 w) }
      go false m x = absurd (x (place_alone (records_of file) (record_at file i) m))

  none_before : (k : ℕ) → k ≤ records_in file → ((j : ℕ) → j < k → Offends file j → ⊥) → WholeBefore file k
  none_before k h n j l = go (eqb (place_of (records_of file) (record_at file j)) 0) refl
    where
      go : (t : Bool) → eqb (place_of (records_of file) (record_at file j)) 0 ≡ t → place_of (records_of file) (record_at file j) ≡ 0
      go true e = eqb-true _ 0 e
      go false e = absurd (n j l ((place_exactly j (omega arith)).0 (eqb-false _ 0 e)))

  accepted_outcome : ClosingOutcome psc file (closing_answer psc file)
  accepted_outcome = go (searched file (records_in file))
    where
      go : Searched file (records_in file) → ClosingOutcome psc file (closing_answer psc file)
      go (none w) = all_whole z (λ i h m. (place_whole i m).0 (w i h)) (sets_asked psc file z ∙ closing_none (file_check psc file) file w)
      go (first i h w x) =
          let o = (place_exactly i h).0 x in
          set_offends z i (record { offends = o; first = λ j l q. (place_exactly j q.inside).1 q (w j l) }) (place_of (records_of file) (record_at file i))
          ((set_outcome_exactly (set_of file i) _).1 (place_in_set (records_of file) (record_at file i) o.member))
          (sets_asked psc file z ∙ closing_first (file_check psc file) file i h w x)

  offence_named : (i : ℕ) → EarliestOffends file i → (place : ℕ) → SetOutcome (set_of file i) place → refused 240 (i + 1) place ≡ closing_answer psc file
  offence_named i q place s =
      let o = q.offends in
      let e : place ≡ place_of (records_of file) (record_at file i) =
      (set_outcome_exactly (set_of file i) place).0 s ∙ sym (place_in_set (records_of file) (record_at file i) o.member) in
      let none = none_before i (omega (arith, o.inside)) q.first in
      rw e
      (sym (sets_asked psc file z ∙ closing_first (file_check psc file) file i o.inside none ((place_exactly i o.inside).1 o)))

-- ---- the outcome, and no other answer has such an outcome
pub closing_outcome : (psc file : List ℕ) → ClosingOutcome psc file (closing_answer psc file)
closing_outcome psc file = go (eqb (file_check psc file).code 0) refl
  where
    go : (t : Bool) → eqb (file_check psc file).code 0 ≡ t → ClosingOutcome psc file (closing_answer psc file)
    go true e = accepted_outcome psc file (eqb-true _ 0 e)
    go false e = let n = eqb-false _ 0 e in file_refused n (refusal_stands psc file n)

pub outcome_exactly : (psc file : List ℕ) (a : FileAnswer) → ClosingOutcome psc file a ↔ (a ≡ closing_answer psc file)
outcome_exactly psc file a = (only, λ e. rw e (closing_outcome psc file))
  where
    only : ClosingOutcome psc file a → a ≡ closing_answer psc file
    only (file_refused n e) = e ∙ sym (refusal_stands psc file n)
    only (set_offends z i q place s e) = e ∙ offence_named psc file z i q place s
    only (all_whole z w e) =
        let none = none_before psc file z (records_in file) (omega arith) (λ j l o. o.broken (w j l o.member)) in
        e ∙ sym (sets_asked psc file z ∙ closing_none (file_check psc file) file none)

-- ---- code 0 exactly if the file may be closed
pub accepted_exactly : (psc file : List ℕ) → ((closing_answer psc file).code ≡ 0) ↔ MayClose psc file
accepted_exactly psc file = go (closing_outcome psc file)
  where
    go : {a : FileAnswer} → ClosingOutcome psc file a → (a.code ≡ 0) ↔ MayClose psc file
    go (file_refused n e) = (λ c. absurd (n (coded e c)), λ m. absurd (n m.accepted))
    go (set_offends z i q place s e) = (
      λ c. absurd (omega (arith, coded e c)),
      λ m. let o = q.offends in absurd (o.broken (m.whole i o.inside o.member)),
    )
    go (all_whole z w e) = (λ c. record { accepted = z; whole = w }, λ m. coded (sym e) z)

-- ---- 240 exactly if the file is accepted and some set offends
pub code_240_exactly : (psc file : List ℕ) → ((closing_answer psc file).code ≡ 240) ↔ SetOffends psc file
code_240_exactly psc file = go (closing_outcome psc file)
  where
    go : {a : FileAnswer} → ClosingOutcome psc file a → (a.code ≡ 240) ↔ SetOffends psc file
    go (file_refused n e) = (λ c. absurd (file_never_240 psc file (coded e c)), λ s. absurd (n s.accepted))
    go (set_offends z i q place s e) = (λ c. record { accepted = z; number = i; offends = q.offends }, λ y. coded (sym e) refl)
    go (all_whole z w e) = (
      λ c. absurd (file_never_240 psc file (coded e c)),
      λ s. let o = s.offends in absurd (o.broken (w s.number o.inside o.member)),
    )

-- ---- 238 exactly if the lent table is wrong: the file check's, which stands
pub code_238_exactly : (psc file : List ℕ) → ((closing_answer psc file).code ≡ 238) ↔ (right_table psc ≡ false)
code_238_exactly psc file = go (closing_outcome psc file) (Codes.code_238_exactly psc file)
  where
    go : {a : FileAnswer} → ClosingOutcome psc file a → ((file_check psc file).code ≡ 238) ↔ (right_table psc ≡ false) → (a.code ≡ 238) ↔ (right_table psc ≡ false)
    go (file_refused n e) i = (λ c. i.0 (coded e c), λ w. coded (sym e) (i.1 w))
    go (set_offends z i q place s e) j = (λ c. absurd (omega (arith, coded e c)), λ w. absurd (omega (arith, z, j.1 w)))
    go (all_whole z w e) j = (λ c. j.0 (coded e c), λ x. coded (sym e) (j.1 x))

-- ---- sets know nothing of postcodes: under two right tables the answer is the same, but for 21 and 24
file_not : (psc file : List ℕ) → right_table psc ≡ true → (c : ℕ) → (c ≡ 0 → ⊥) → ((closing_answer psc file).code ≡ c → ⊥) → (file_answer (holds psc) file).code ≡ c → ⊥
file_not psc file r c some n h = let e = coded (sym (Codes.right_table_lem psc file r)) h in n (rw (refusal_stands psc file (λ z. some (sym e ∙ z))) e)

as_of_any : (psc file : List ℕ) → right_table psc ≡ true → ((closing_answer psc file).code ≡ 21 → ⊥) → ((closing_answer psc file).code ≡ 24 → ⊥) → file_check psc file ≡ file_answer any_postcode file
as_of_any psc file r n21 n24 =
    Codes.right_table_lem psc file r ∙ file_stays (holds psc) file (file_not psc file r 21 (λ z. omega (arith, z)) n21) (file_not psc file r 24 (λ z. omega (arith, z)) n24)

pub closing_stays : (psc other file : List ℕ) → right_table psc ≡ true → right_table other ≡ true → ((closing_answer psc file).code ≡ 21 → ⊥) → ((closing_answer psc file).code ≡ 24 → ⊥)
    → ((closing_answer other file).code ≡ 21 → ⊥) → ((closing_answer other file).code ≡ 24 → ⊥) → closing_answer psc file ≡ closing_answer other file
unfolding closing_answer
closing_stays psc other file r s n21 n24 m21 m24 = rw (as_of_any psc file r n21 n24, as_of_any other file s m21 m24)
