-- A set by counting: how many of its records have serial k says whether a serial is repeated or missing. So the answer is 0 exactly for a whole set, and a
-- whole set has as many records as it says pieces.
-- Assumes nothing.
use Prim.Native.Nat.{ℕ, zero, suc, ◌+◌, ◌-◌, ◌≤◌, ◌<◌}
use mathlib.Core.Path.{◌≡◌, refl, sym, ap, ◌∙◌}
use mathlib.Core.Bool.{Bool, true, false, cond, not, ◌||◌}
use mathlib.Core.List.{List, [], ◌∷◌, map}
use mathlib.Core.Logic.{◌↔◌}
use native.Mathlib.Omega.{arith}
use borrow.Author.Tests.{eqb-true, eqb-false, eq-eqb, leb-true, leb-false, le-leb, lt-leb, not-true}
use lib.Dec.{eqb, leb}
use lib.ListN.{length, get_or}
use Rattle.text.proofs.Booleans.{clash, both}
use Rattle.fields.specs.Texts.{contains}
use Rattle.fields.specs.ServiceTexts.{all_different}
use Rattle.posting.specs.Sums.{kept}
use Rattle.closing.specs.Sets.{serial_of, said_by, same_pieces, none_twice, none_missing, offence}
use Rattle.closing.specs.Outcomes.{times_in, Repeated, Whole, Numbered}
use Rattle.closing.proofs.SetLaws.{never_false, same_pieces_exactly, repeated_exactly, none_missing_exactly}

-- ---- how many of a list pass a test
module _ {A : Type 0} (p : A → Bool) where
  kept_empty : length (kept p []) ≡ 0
  unfolding kept
  kept_empty = refl

  -- one more where the first passes
  kept_step : (x : A) (xs : List A) → length (kept p (x ∷ xs)) ≡ cond (p x) (suc (length (kept p xs))) (length (kept p xs))
  unfolding kept
  kept_step x xs = go (p x)
    where
      go : (t : Bool) → length (cond t (x ∷ kept p xs) (kept p xs)) ≡ cond t (suc (length (kept p xs))) (length (kept p xs))
      go true = refl
      go false = refl

  -- no fewer than without the first
  kept_grows : (x : A) (xs : List A) → length (kept p xs) ≤ length (kept p (x ∷ xs))
  kept_grows x xs = rw (kept_step x xs) (go (p x))
    where
      go : (t : Bool) → length (kept p xs) ≤ cond t (suc (length (kept p xs))) (length (kept p xs))
      go true = omega arith
      go false = omega arith

  pub none_kept : (xs : List A) (d : A) → ((i : ℕ) → i < length xs → p (get_or xs i d) ≡ false) → length (kept p xs) ≡ 0
  unfolding kept
  none_kept [] d h = refl
  none_kept (x ∷ xs) d h = rw (h 0 (omega arith)) (none_kept xs d (λ i l. h (suc i) (omega arith)))

  pub all_kept : (xs : List A) (d : A) → ((i : ℕ) → i < length xs → p (get_or xs i d) ≡ true) → length (kept p xs) ≡ length xs
  unfolding kept
  all_kept [] d h = refl
  all_kept (x ∷ xs) d h = rw (h 0 (omega arith)) (ap suc (all_kept xs d (λ i l. h (suc i) (omega arith))))

  pub some_kept : (xs : List A) (d : A) (i : ℕ) → i < length xs → p (get_or xs i d) ≡ true → 1 ≤ length (kept p xs)
  some_kept [] d i l e = absurd (omega arith)
  some_kept (x ∷ xs) d zero l e = rw (kept_step x xs, e) (omega arith)
  some_kept (x ∷ xs) d (suc i) l e = omega (arith, kept_grows x xs, some_kept xs d i (omega arith) e)

  pub two_kept : (xs : List A) (d : A) (i j : ℕ) → i < j → j < length xs → p (get_or xs i d) ≡ true → p (get_or xs j d) ≡ true → 2 ≤ length (kept p xs)
  two_kept [] d i j l g e f = absurd (omega arith)
  two_kept (x ∷ xs) d i zero l g e f = absurd (omega arith)
  two_kept (x ∷ xs) d zero (suc j) l g e f = rw (kept_step x xs, e) (omega (arith, some_kept xs d j (omega arith) f))
  two_kept (x ∷ xs) d (suc i) (suc j) l g e f = omega (arith, kept_grows x xs, two_kept xs d i j (omega arith) (omega arith) e f)

-- ---- how many have a number
module _ {A : Type 0} (f : A → ℕ) where
  -- some exactly if it is among the numbers
  pub some_times : (k : ℕ) (xs : List A) → (contains k (map f xs) ≡ true) ↔ (1 ≤ length (kept (λ x. eqb (f x) k) xs))
  unfolding contains kept
  some_times k [] = (λ h. absurd (clash h refl), λ h. absurd (omega arith))
  some_times k (x ∷ xs) = go (eqb (f x) k) (some_times k xs)
    where
      go : (t : Bool) → (contains k (map f xs) ≡ true) ↔ (1 ≤ length (kept (λ x. eqb (f x) k) xs))
          → ((t || contains k (map f xs)) ≡ true) ↔ (1 ≤ length (cond t (x ∷ kept (λ x. eqb (f x) k) xs) (kept (λ x. eqb (f x) k) xs)))
      go true h = (λ c. omega arith, λ l. refl)
      go false h = h

  -- numbers that are all different: each at most once
  pub once_times : (k : ℕ) (xs : List A) → all_different (map f xs) ≡ true → length (kept (λ x. eqb (f x) k) xs) ≤ 1
  unfolding all_different kept
  once_times k [] h = omega arith
  once_times k (x ∷ xs) h =
      let p = both (not (contains (f x) (map f xs))) (all_different (map f xs)) h in
      go (eqb (f x) k) refl (not-true (contains (f x) (map f xs)) p.0) (once_times k xs p.1)
    where
      rest : ℕ
      rest = length (kept (λ x. eqb (f x) k) xs)

      none : contains k (map f xs) ≡ false → rest ≡ 0
      none n = go (leb 1 rest) refl
        where
          go : (t : Bool) → leb 1 rest ≡ t → rest ≡ 0
          go true e = absurd (clash ((some_times k xs).1 (leb-true 1 rest e)) n)
          go false e = omega (arith, leb-false 1 rest e)

      go : (t : Bool) → eqb (f x) k ≡ t → contains (f x) (map f xs) ≡ false → rest ≤ 1
          → length (cond t (x ∷ kept (λ x. eqb (f x) k) xs) (kept (λ x. eqb (f x) k) xs)) ≤ 1
      go true e n l = omega (arith, none (rw (eqb-true (f x) k e) at n))
      go false e n l = l

  -- those with a number up to n + 1: up to n, and with n + 1
  up_to_more : (n : ℕ) (xs : List A) → length (kept (λ x. leb (f x) (suc n)) xs) ≡ length (kept (λ x. leb (f x) n) xs) + length (kept (λ x. eqb (f x) (suc n)) xs)
  up_to_more n [] = omega (arith, kept_empty (λ x. leb (f x) (suc n)), kept_empty (λ x. leb (f x) n), kept_empty (λ x. eqb (f x) (suc n)))
  up_to_more n (x ∷ xs) =
      rw (kept_step (λ x. leb (f x) (suc n)) x xs, kept_step (λ x. leb (f x) n) x xs, kept_step (λ x. eqb (f x) (suc n)) x xs)
      (go _ _ _ (up_to_more n xs) (leb (f x) (suc n)) (leb (f x) n) (eqb (f x) (suc n)) refl refl refl)
    where
      go : (a b c : ℕ) → a ≡ b + c → (s t u : Bool) → leb (f x) (suc n) ≡ s → leb (f x) n ≡ t → eqb (f x) (suc n) ≡ u
          → cond s (suc a) a ≡ cond t (suc b) b + cond u (suc c) c
      go a b c h true true true es et eu = absurd (omega (arith, leb-true (f x) n et, eqb-true (f x) (suc n) eu))
      go a b c h true true false es et eu = omega arith
      go a b c h true false true es et eu = omega arith
      go a b c h true false false es et eu = absurd (eqb-false (f x) (suc n) eu (omega (arith, leb-true (f x) (suc n) es, leb-false (f x) n et)))
      go a b c h false true u es et eu = absurd (omega (arith, leb-true (f x) n et, leb-false (f x) (suc n) es))
      go a b c h false false true es et eu = absurd (omega (arith, eqb-true (f x) (suc n) eu, leb-false (f x) (suc n) es))
      go a b c h false false false es et eu = h

  -- each number from 1 to n once, and none is 0: so n of them have a number up to n
  up_to : (n : ℕ) (xs : List A) (d : A) → ((i : ℕ) → i < length xs → 1 ≤ f (get_or xs i d)) → ((k : ℕ) → 1 ≤ k → k ≤ n → length (kept (λ x. eqb (f x) k) xs) ≡ 1)
      → length (kept (λ x. leb (f x) n) xs) ≡ n
  up_to zero xs d low once = none_kept (λ x. leb (f x) 0) xs d (λ i l. lt-leb (f (get_or xs i d)) 0 (low i l))
  up_to (suc n) xs d low once =
      up_to_more n xs ∙ omega (arith, up_to n xs d low (λ k l h. once k l (omega arith)), once (suc n) (omega arith) (omega arith))

  -- each number at most once, and none is 0: at most n of them have a number up to n, and fewer where one from 1 to n is not there
  module _ (xs : List A) (d : A) (low : (i : ℕ) → i < length xs → 1 ≤ f (get_or xs i d)) (few : (k : ℕ) → length (kept (λ x. eqb (f x) k) xs) ≤ 1) where
    up_to_few : (n : ℕ) → length (kept (λ x. leb (f x) n) xs) ≤ n
    up_to_few zero = omega (arith, none_kept (λ x. leb (f x) 0) xs d (λ i l. lt-leb (f (get_or xs i d)) 0 (low i l)))
    up_to_few (suc n) = omega (arith, up_to_more n xs, up_to_few n, few (suc n))

    up_to_fewer : (n k : ℕ) → 1 ≤ k → k ≤ n → length (kept (λ x. eqb (f x) k) xs) ≡ 0 → length (kept (λ x. leb (f x) n) xs) < n
    up_to_fewer zero k l h none = absurd (omega arith)
    up_to_fewer (suc n) k l h none = go (eqb k (suc n)) refl (up_to_fewer n k l)
      where
        go : (t : Bool) → eqb k (suc n) ≡ t → (k ≤ n → length (kept (λ x. eqb (f x) k) xs) ≡ 0 → length (kept (λ x. leb (f x) n) xs) < n)
            → length (kept (λ x. leb (f x) (suc n)) xs) < suc n
        go true e ih = omega (arith, up_to_more n xs, up_to_few n, rw (eqb-true k (suc n) e) at none)
        go false e ih = let other = eqb-false k (suc n) e in omega (arith, up_to_more n xs, ih (omega arith) none, few (suc n))

-- ---- a whole set has as many records as it says pieces
pub whole_count : (set : List (List ℕ)) → Whole set → length set ≡ said_by set
whole_count set w =
    sym (all_kept (λ rec. leb (serial_of rec) (said_by set)) set [] (λ i l. le-leb _ (said_by set) (w.within i l).1))
    ∙ up_to serial_of (said_by set) set [] (λ i l. (w.within i l).0) w.once

-- ---- the tests by counting
module _ (set : List (List ℕ)) where
  twice : (r : Repeated set) → 2 ≤ times_in (serial_of (get_or set r.later [])) set
  twice r =
      let k : ℕ = serial_of (get_or set r.later []) in
      two_kept (λ rec. eqb (serial_of rec) k) set [] r.earlier r.later r.before r.inside (eq-eqb _ k r.same) (eq-eqb k k refl)

  pub once_exactly : (none_twice set ≡ true) ↔ ((k : ℕ) → times_in k set ≤ 1)
  once_exactly = (
    λ h k. once_times serial_of k set h,
    λ few. never_false (none_twice set) (λ e. let r = (repeated_exactly set).0 e in omega (arith, few (serial_of (get_or set r.later [])), twice r)),
  )

  pub all_there_exactly : (none_missing set ≡ true) ↔ ((k : ℕ) → 1 ≤ k → k ≤ said_by set → 1 ≤ times_in k set)
  all_there_exactly =
      let c = none_missing_exactly set in (
        λ h k l g. let e : suc (k - 1) ≡ k = omega arith in (some_times serial_of k set).0 (rw e at (c.0 h (k - 1) (omega arith))),
        λ there. c.1 (λ i l. (some_times serial_of (suc i) set).1 (there (suc i) (omega arith) (omega arith))),
      )

-- ---- for records that keep the table, 0 exactly if the set is whole
pub whole_exactly : (set : List (List ℕ)) → Numbered set → (offence set ≡ 0) ↔ Whole set
unfolding offence
whole_exactly set numbered = (λ z. go (same_pieces set) refl (none_twice set) refl (none_missing set) refl z, back)
  where
    go : (a : Bool) → same_pieces set ≡ a → (b : Bool) → none_twice set ≡ b → (c : Bool) → none_missing set ≡ c
        → ◌≡◌ {A = ℕ} (cond a (cond b (cond c 0 22) 23) 24) 0 → Whole set
    go false e b f c g z = absurd (omega arith)
    go true e false f c g z = absurd (omega arith)
    go true e true f false g z = absurd (omega arith)
    go true e true f true g z =
        let same = (same_pieces_exactly set).0 e in
        record {
          same = same;
          within = λ i l. ((numbered i l).0, omega (arith, (numbered i l).1, same i l));
          once = λ k l h. omega (arith, (once_exactly set).0 f k, (all_there_exactly set).0 g k l h);
        }

    once : Whole set → Repeated set → ⊥
    once w r =
        let inside = w.within r.later r.inside in
        omega (arith, twice set r, w.once (serial_of (get_or set r.later [])) inside.0 inside.1)

    back : Whole set → offence set ≡ 0
    back w =
        let same : same_pieces set ≡ true = (same_pieces_exactly set).1 w.same in
        let apart : none_twice set ≡ true = never_false (none_twice set) (λ e. once w ((repeated_exactly set).0 e)) in
        let all : none_missing set ≡ true = (all_there_exactly set).1 (λ k l h. omega (arith, w.once k l h)) in
        rw (same, apart, all)

-- where the two other tests pass, none is missing exactly if there are as many records as pieces
pub missing_count : (set : List (List ℕ)) → Numbered set → same_pieces set ≡ true → none_twice set ≡ true → (none_missing set ≡ true) ↔ (length set ≡ said_by set)
unfolding offence
missing_count set numbered same once = (
  λ all. whole_count set ((whole_exactly set numbered).0 (rw (same, once, all))),
  λ long. (all_there_exactly set).1 (λ k l h. there long k l h (leb 1 (times_in k set)) refl),
)
  where
    within : (i : ℕ) → i < length set → leb (serial_of (get_or set i [])) (said_by set) ≡ true
    within i l = le-leb _ (said_by set) (omega (arith, (numbered i l).1, (same_pieces_exactly set).0 same i l))

    there : length set ≡ said_by set → (k : ℕ) → 1 ≤ k → k ≤ said_by set → (t : Bool) → leb 1 (times_in k set) ≡ t → 1 ≤ times_in k set
    there long k l h true e = leb-true 1 (times_in k set) e
    there long k l h false e =
        let none = leb-false 1 (times_in k set) e in
        let fewer = up_to_fewer serial_of set [] (λ i g. (numbered i g).0) ((once_exactly set).0 once) (said_by set) k l h (omega arith) in
        absurd (omega (arith, fewer, all_kept (λ rec. leb (serial_of rec) (said_by set)) set [] within))
