-- The first of a list that passes a test; and the answer to an accepted file, told by the first record whose set offends.
-- Assumes nothing.
use Prim.Native.Nat.{ℕ, zero, suc, ◌+◌, ◌-◌, ◌<◌}
use mathlib.Core.Path.{◌≡◌, refl, ap}
use mathlib.Core.Bool.{Bool, true, false, cond}
use mathlib.Core.List.{List, [], ◌∷◌}
use mathlib.Core.Logic.{◌↔◌}
use native.Mathlib.Numerals.{add-one}
use native.Mathlib.Omega.{arith}
use borrow.Author.Tests.{eq-eqb, ne_eqb}
use lib.ListN.{length, get_or}
use Rattle.text.proofs.Booleans.{clash}
use Rattle.posting.specs.declared.FileAnswer.{FileAnswer}
use Rattle.posting.specs.File.{record_at, records_in, refused, file_check}
use Rattle.posting.proofs.RecordList.{length_up_to, up_to_nth}
use Rattle.closing.specs.Sets.{main_of, in_set, set_under, offence}
use Rattle.closing.specs.Closing.{records_of, place_of, offends, one_more, first_that, earliest, closing_of, closing_answer}
use Rattle.closing.specs.Links.{WholeBefore}
use Rattle.closing.proofs.Below.{below_more}

-- ---- one more, but for 0
none_more : (n : ℕ) → one_more n ≡ 0 → n ≡ 0
none_more zero e = refl
none_more (suc n) e = absurd (omega arith)

not_one : (n : ℕ) → one_more n ≡ 1 → ⊥
not_one zero e = omega arith
not_one (suc n) e = omega arith

at_more : (n i : ℕ) → one_more n ≡ suc (suc i) → n ≡ suc i
at_more zero i e = absurd (omega arith)
at_more (suc n) i e = omega arith

-- ---- any list and test; d stands behind the end of the list
-- the first k fail
abbrev pub FailTo : {A : Type 0} → (A → Bool) → A → List A → ℕ → Type 0
FailTo p d xs k = (j : ℕ) → j < k → p (get_or xs j d) ≡ false

module _ {A : Type 0} (p : A → Bool) (d : A) where
  fail_more : (x : A) (xs : List A) (k : ℕ) → p x ≡ false → FailTo p d xs k → FailTo p d (x ∷ xs) (suc k)
  fail_more x xs k e f zero h = e
  fail_more x xs k e f (suc j) h = f j (omega arith)

  fail_less : (x : A) (xs : List A) (k : ℕ) → FailTo p d (x ∷ xs) (suc k) → FailTo p d xs k
  fail_less x xs k f j h = f (suc j) (omega arith)

  -- 0 exactly if none passes
  pub first_none : (xs : List A) → (first_that p xs ≡ 0) ↔ FailTo p d xs (length xs)
  unfolding first_that
  first_none [] = (λ z j h. absurd (omega arith), λ f. refl)
  first_none (x ∷ xs) = go (p x) refl (first_none xs)
    where
      go : (t : Bool) → p x ≡ t → (first_that p xs ≡ 0) ↔ FailTo p d xs (length xs)
          → (cond t 1 (one_more (first_that p xs)) ≡ 0) ↔ FailTo p d (x ∷ xs) (length (x ∷ xs))
      go true e ih = (λ z. absurd (omega arith), λ f. absurd (clash e (f 0 (omega arith))))
      go false e ih = (
        λ z. fail_more x xs (length xs) e (ih.0 (none_more (first_that p xs) z)),
        λ f. ap one_more (ih.1 (fail_less x xs (length xs) f)),
      )

  -- one more than i exactly if place i is the first that passes
  pub first_at : (xs : List A) (i : ℕ) → (first_that p xs ≡ suc i) ↔ ((i < length xs) × (p (get_or xs i d) ≡ true) × FailTo p d xs i)
  unfolding first_that
  first_at [] i = (λ z. absurd (omega arith), λ q. absurd (omega (arith, q.0)))
  first_at (x ∷ xs) zero = go (p x) refl
    where
      go : (t : Bool) → p x ≡ t → (cond t 1 (one_more (first_that p xs)) ≡ 1) ↔ ((0 < length (x ∷ xs)) × (p x ≡ true) × FailTo p d (x ∷ xs) 0)
      go true e = (λ z. (omega arith, e, λ j h. absurd (omega arith)), λ q. refl)
      go false e = (λ z. absurd (not_one (first_that p xs) z), λ q. absurd (clash q.1 e))
  first_at (x ∷ xs) (suc i) = go (p x) refl (first_at xs i)
    where
      go : (t : Bool) → p x ≡ t → (first_that p xs ≡ suc i) ↔ ((i < length xs) × (p (get_or xs i d) ≡ true) × FailTo p d xs i)
          → (cond t 1 (one_more (first_that p xs)) ≡ suc (suc i)) ↔ ((suc i < length (x ∷ xs)) × (p (get_or xs i d) ≡ true) × FailTo p d (x ∷ xs) (suc i))
      go true e ih = (λ z. absurd (omega arith), λ q. absurd (clash e (q.2 0 (omega arith))))
      go false e ih = (
        λ z. let q = ih.0 (at_more (first_that p xs) i z) in (omega (arith, q.0), q.1, fail_more x xs i e q.2),
        λ q. ap one_more (ih.1 (omega (arith, q.0), q.1, fail_less x xs i q.2)),
      )

-- ---- the place of a record
pub place_in_set : (recs : List (List ℕ)) (rec : List ℕ) → in_set rec ≡ true → place_of recs rec ≡ offence (set_under recs (main_of rec))
unfolding place_of
place_in_set recs rec m = rw m

pub place_alone : (recs : List (List ℕ)) (rec : List ℕ) → in_set rec ≡ false → place_of recs rec ≡ 0
unfolding place_of
place_alone recs rec m = rw m

-- ---- the records before which every set is whole
pub whole_start : (file : List ℕ) → WholeBefore file 0
whole_start file j h = absurd (omega arith)

pub whole_more : (file : List ℕ) (n : ℕ) → WholeBefore file n → place_of (records_of file) (record_at file n) ≡ 0 → WholeBefore file (suc n)
whole_more file n w z = below_more (λ j. place_of (records_of file) (record_at file j) ≡ 0) n w z

-- ---- the file
module _ (good : FileAnswer) (file : List ℕ) where
  at_record : (i : ℕ) → i < records_in file → get_or (records_of file) i [] ≡ record_at file i
  at_record i h = up_to_nth (record_at file) (records_in file) i [] h

  whole_fails : (i : ℕ) → i < records_in file → place_of (records_of file) (record_at file i) ≡ 0 → offends (records_of file) (get_or (records_of file) i []) ≡ false
  whole_fails i h z = rw (at_record i h, eq-eqb (place_of (records_of file) (record_at file i)) 0 z)

  broken_passes : (i : ℕ) → i < records_in file → (place_of (records_of file) (record_at file i) ≡ 0 → ⊥)
      → offends (records_of file) (get_or (records_of file) i []) ≡ true
  broken_passes i h n = rw (at_record i h, ne_eqb (place_of (records_of file) (record_at file i)) 0 n)

  -- every set is whole: the answer to an accepted file
  pub closing_none : WholeBefore file (records_in file) → closing_of good (records_of file) ≡ good
  unfolding earliest closing_of
  closing_none w =
      let each : FailTo (offends (records_of file)) [] (records_of file) (length (records_of file)) =
      rw (length_up_to (record_at file) (records_in file)) (λ i h. whole_fails i h (w i h)) in
      rw ((first_none (offends (records_of file)) [] (records_of file)).1 each)

  -- record i is the first whose set offends
  pub closing_first : (i : ℕ) → i < records_in file → WholeBefore file i → (place_of (records_of file) (record_at file i) ≡ 0 → ⊥)
      → closing_of good (records_of file) ≡ refused 240 (i + 1) (place_of (records_of file) (record_at file i))
  unfolding earliest closing_of
  closing_first i h w n =
      let l : i < length (records_of file) = rw (length_up_to (record_at file) (records_in file)) h in
      let found = (first_at (offends (records_of file)) [] (records_of file) i).1 (l, broken_passes i h n, λ j q. whole_fails j (omega arith) (w j q)) in
      let back : suc i - 1 ≡ i = omega arith in
      rw (found, ne_eqb (suc i) 0 (λ z. omega arith), back, at_record i h, add-one)

-- ---- the answer, as the file check came out
pub refusal_stands : (psc file : List ℕ) → ((file_check psc file).code ≡ 0 → ⊥) → closing_answer psc file ≡ file_check psc file
unfolding closing_answer
refusal_stands psc file n = rw (ne_eqb (file_check psc file).code 0 n)

pub sets_asked : (psc file : List ℕ) → (file_check psc file).code ≡ 0 → closing_answer psc file ≡ closing_of (file_check psc file) (records_of file)
unfolding closing_answer
sets_asked psc file z = rw (eq-eqb (file_check psc file).code 0 z)
